-- Results in a row.
use Rattle.std.specs.Prelude.{Result, Ok, Err}

-- first the one, then the other with its value; a fault where the first is a fault
infixl 10 ◌>>=◌
abbrev pub ◌>>=◌ : {A B E : Type 0} → Result A E → (A → Result B E) → Result B E
(Ok x) >>= f = f x
(Err e) >>= f = Err e
