-- What a call that may want memory gives, against what reading gives.
use Rattle.std.specs.Prelude.{◌≡◌, Result, Ok, Err}
use Rattle.base_texts.specs.declared.stop.Stop.{Stop}
use Rattle.base_texts.specs.declared.stop.Stop.TheVariants as stop

-- The call gives the value that is said, and a fault exactly where this fault is said. Want of memory (out of memory) may come anywhere.
abbrev pub Gives : {X F : Type 0} → Result X (Stop F) → Result X F → Type 0
Gives (Ok x) said = said ≡ Ok x
Gives (Err stop.NoMemory) said = Unit {0}
Gives (Err (stop.Fault f)) said = said ≡ Err f

-- a fact of each end but want of memory
abbrev pub UnlessMemory : {X F : Type 0} → Result X (Stop F) → Type 0 → Type 0
UnlessMemory (Ok x) P = P
UnlessMemory (Err stop.NoMemory) P = Unit {0}
UnlessMemory (Err (stop.Fault f)) P = P
