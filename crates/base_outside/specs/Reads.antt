-- What reads of a shelf give, and what they count.
use Rattle.std.specs.Prelude.{ℕ, List, Result, Ok, Err}
use Rattle.base_outside.specs.Counts.{next}
use Rattle.spec_outside.specs.declared.shelf_fault.ShelfFault.{ShelfFault}
use Rattle.spec_outside.specs.declared.shelf_fault.ShelfFault.TheVariants as fault

-- what a read gives: the bytes that are then in the room, or its fault
abbrev pub given : Result (Unit {0}) ShelfFault → List ℕ → Result (List ℕ) ShelfFault
given (Ok done) room = Ok room
given (Err fault) room = Err fault

-- the count of failures after a read with this answer
abbrev pub count_after : {A : Type 0} → Result A ShelfFault → ℕ → ℕ
count_after (Err fault.Failed) count = next count
count_after answer count = count
