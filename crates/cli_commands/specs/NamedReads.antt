-- The read of a file that a command may name.
use Rattle.std.specs.Prelude.{ℕ, ◌≡◌, ◌≤◌, List, [], length, Option, Some, None, Ok}
use Rattle.spec_tree.specs.Limits.{most_file_bytes}
use Rattle.spec_outside.specs.Files.{Told}
use Rattle.spec_outside.specs.declared.shelf_fault.ShelfFault.{ShelfFault}
use Rattle.spec_program.specs.declared.file.File.{File}
use Rattle.cli_refusals.specs.declared.refusal.Refusal.{Refusal}
use Rattle.spec_program.specs.Reads.{Reading, NamedFile, AreRead, StoppedAt}
use Rattle.cli_commands.specs.Unread.{IsUnread}
use Rattle.spec_outside.specs.declared.shelf_fault.ShelfFault.TheVariants as fault
use Rattle.cli_refusals.specs.declared.refusal.Refusal.TheVariants as refusal

-- a read gave these bytes of a file, which are those that the shelf tells
pub record WasRead {Shelf : Type 0} (read_gives : Reading Shelf) (holds : Option (List ℕ → List ℕ)) (name bytes : List ℕ) (old new : Shelf) : Type 0 where
  pub gave : read_gives old name (Ok bytes) new
  pub told : Told holds name (λ file. bytes ≡ file)
  pub short : length bytes ≤ most_file_bytes

-- a file that may be named was read, if it is named
abbrev pub WasReadIfNamed : {Shelf : Type 0} → Reading Shelf → Option (List ℕ → List ℕ) → Option (List ℕ) → List ℕ → Shelf → Shelf → Type 0
WasReadIfNamed read_gives holds None bytes old new = (bytes ≡ []) × (new ≡ old)
WasReadIfNamed read_gives holds (Some name) bytes old new = WasRead read_gives holds name bytes old new

-- the read of a file that may be named refuses it so
abbrev pub IsUnreadIfNamed : {Shelf : Type 0} → Reading Shelf → (Shelf → ℕ) → Option (List ℕ → List ℕ) → File → Option (List ℕ) → Refusal → Shelf → Shelf → Type 0
IsUnreadIfNamed read_gives faults holds asked None refusal old new = ⊥
IsUnreadIfNamed read_gives faults holds asked (Some name) refusal old new = IsUnread read_gives faults holds asked name refusal old new

-- the refusal of a file whose read gave this fault
abbrev pub refusal_of : File → ShelfFault → Refusal
refusal_of which fault.Failed = refusal.Unread which
refusal_of which fault.TooLong = refusal.TooLong which
refusal_of which fault.NoMemory = refusal.NoMemory

-- the reads of these files ended at the first one whose read gave a fault, and this is its refusal
pub record AreStopped {Shelf : Type 0} (read_gives : Reading Shelf) (holds : Option (List ℕ → List ℕ)) (files : List NamedFile) (shelf_rose : Type 0) (refused : Refusal) (old new : Shelf) : Type 0 where
  pub which : File
  pub gave : ShelfFault
  pub reads : AreRead read_gives holds files (StoppedAt which gave) old new
  pub rose : gave ≡ fault.Failed → shelf_rose
  pub is : refused ≡ refusal_of which gave
