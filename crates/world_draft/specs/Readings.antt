-- What a line leaves, against what the definition of a world script says.
use Rattle.std.specs.Prelude.{Result, Ok, Err}
use Rattle.base_texts.specs.declared.stop.Stop.{Stop}
use Rattle.base_texts.specs.declared.stop.Stop.TheVariants as stop

-- the value that is left, or the fault, is one that is said; want of memory may come anywhere
abbrev pub Leaves : {A X F : Type 0} → Result A (Stop F) → X → (Result X F → Type 0) → Type 0
Leaves (Ok a) left IsSaid = IsSaid (Ok left)
Leaves (Err stop.NoMemory) left IsSaid = Unit {0}
Leaves (Err (stop.Fault f)) left IsSaid = IsSaid (Err f)
