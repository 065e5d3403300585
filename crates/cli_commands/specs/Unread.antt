-- A file whose read gave a fault.
use Rattle.std.specs.Prelude.{ℕ, ◌≡◌, List, Option, Err}
use Rattle.spec_outside.specs.Counts.{Rose}
use Rattle.spec_program.specs.declared.file.File.{File}
use Rattle.cli_refusals.specs.declared.refusal.Refusal.{Refusal}
use Rattle.spec_program.specs.Reads.{Reading, IsLong}
use Rattle.spec_outside.specs.declared.shelf_fault.ShelfFault.TheVariants as fault
use Rattle.cli_refusals.specs.declared.refusal.Refusal.TheVariants as refusal

-- the read of this one of the files of a command refuses it so
abbrev pub IsUnread : {Shelf : Type 0} → Reading Shelf → (Shelf → ℕ) → Option (List ℕ → List ℕ) → File → List ℕ → Refusal → Shelf → Shelf → Type 0
IsUnread read_gives faults holds asked name (refusal.Unread which) old new =
    (which ≡ asked) × Rose (faults old) (faults new) × read_gives old name (Err fault.Failed) new
IsUnread read_gives faults holds asked name (refusal.TooLong which) old new =
    (which ≡ asked) × IsLong holds name × read_gives old name (Err fault.TooLong) new
IsUnread read_gives faults holds asked name refusal.NoMemory old new = read_gives old name (Err fault.NoMemory) new
IsUnread read_gives faults holds asked name _ old new = ⊥
