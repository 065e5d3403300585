-- Options in a row.
use Rattle.std.specs.Prelude.{Option, Some, None}

-- first the one, then the other with its value; none where the first is none
infixl 10 ◌>>=◌
abbrev pub ◌>>=◌ : {A B : Type 0} → Option A → (A → Option B) → Option B
None >>= f = None
(Some x) >>= f = f x
