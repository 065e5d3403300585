-- What a clock gives, where it tells it.
use Rattle.std.specs.Prelude.{ℕ, List, [], ◌∷◌}

-- the moments that are still to come, and the one that was given last
pub record Moments : Type 0 where
  pub ahead : List ℕ
  pub last : ℕ

-- the first of these moments is given, which then is the last; where there is none, the last one stays
abbrev pub given : List ℕ → ℕ → Moments
given [] last = record { ahead = []; last = last }
given (moment ∷ ahead) last = record { ahead = ahead; last = moment }

-- the clock's moments after one more call
abbrev pub after_now : Moments → Moments
after_now m = given m.ahead m.last
