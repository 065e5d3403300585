-- Facts of the moments of a clock.
use Rattle.std.proofs.Common.{◌≡◌, Option, Some, None, refl}
use Rattle.spec_outside.specs.Moments.{Moments}
use Rattle.spec_program.specs.Answers.{AtMoments, IfTold, no_moments}

-- the moments of a clock, or none
abbrev pub some_moments : Option Moments → Moments
some_moments None = no_moments
some_moments (Some told) = told

some_told : (clock : Option Moments) → IfTold clock (λ told. some_moments clock ≡ told)
some_told None = tt
some_told (Some told) = refl

-- a fact of any moments, and one that follows
pub at_any : (clock : Option Moments) (P : Moments → Type 0) → ((moments : Moments) → P moments) → AtMoments clock P
at_any clock P p = record { moments = some_moments clock; told = some_told clock; holds = p (some_moments clock) }

pub at_more : (clock : Option Moments) (P Q : Moments → Type 0) → ((moments : Moments) → P moments → Q moments) → AtMoments clock P → AtMoments clock Q
at_more clock P Q more x = record { moments = x.moments; told = x.told; holds = more x.moments x.holds }
