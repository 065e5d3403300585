-- Leaves joined with their rows, as the code keeps them.
use Rattle.std.specs.Prelude.{◌≡◌, ℕ, List, map, Option, Some, None, Result, Ok, Err}
use Rattle.std.specs.Borrow.{Bor}
use Rattle.base_texts.specs.declared.stop.Stop.{Stop}
use Rattle.spec_run.specs.declared.join_fault.JoinFault.{JoinFault}
use Rattle.base_texts.specs.declared.stop.Stop.TheVariants as stop

-- ---- IDs

-- some IDs that are lent
abbrev pub ids_lent : List (Bor (List ℕ)) → List (List ℕ)
ids_lent ids = map (λ id. id.now) ids

-- the fault comes exactly where something is missing; want of memory (out of memory) may come anywhere
abbrev pub Joins : {A : Type 0} → Result A (Stop JoinFault) → Option JoinFault → Type 0
Joins (Ok a) lack = lack ≡ None
Joins (Err stop.NoMemory) lack = Unit {0}
Joins (Err (stop.Fault fault)) lack = lack ≡ Some fault
