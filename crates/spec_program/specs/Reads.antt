-- What the reads of the files of a command give, and how they end.
use Rattle.std.specs.Prelude.{ℕ, ◌≡◌, ◌<◌, ◌≤◌, ◌⊎◌, List, [], ◌∷◌, ◌++◌, length, Option, Some, None, Result, Ok, Err}
use Rattle.spec_program.specs.Words.{Command}
use Rattle.spec_tree.specs.Limits.{most_file_bytes}
use Rattle.spec_outside.specs.Files.{Told}
use Rattle.spec_outside.specs.declared.shelf_fault.ShelfFault.{ShelfFault}
use Rattle.spec_program.specs.declared.file.File.{File}
use Rattle.spec_program.specs.Files.{Contents, Named}
use Rattle.spec_program.specs.Jobs.{files_of}
use Rattle.spec_outside.specs.declared.shelf_fault.ShelfFault.TheVariants as fault
use Rattle.spec_program.specs.declared.file.File.TheVariants as file

-- ---- One read

-- what reads give: a read of a name, with its bytes or its fault, leads from one state of the shelf to another
abbrev pub Reading : Type 0 → Type 1
Reading Shelf = Shelf → List ℕ → Result (List ℕ) ShelfFault → Shelf → Type 0

-- a file of too many bytes, which are those that the shelf tells
pub record IsLong (holds : Option (List ℕ → List ℕ)) (name : List ℕ) : Type 0 where
  pub bytes : List ℕ
  pub told : Told holds name (λ file. bytes ≡ file)
  pub long : most_file_bytes < length bytes

-- ---- The reads of a command

-- what is read as this one of the files of a command, and its name
abbrev pub NamedFile : Type 0
NamedFile = File × List ℕ

-- a file that may be named
abbrev pub if_named : File → Option (List ℕ) → List NamedFile
if_named which None = []
if_named which (Some name) = (which, name) ∷ []

-- the files that are named, in the order in which they are read
abbrev pub in_order : Named → List NamedFile
in_order named =
    if_named file.Tree named.tree ++ (if_named file.World named.world ++ (if_named file.Rules named.rules ++ if_named file.Expect named.expect))

-- the files of words; those that are no command name none
abbrev pub files_in : Option Command → List NamedFile
files_in None = []
files_in (Some command) = in_order (files_of command)

-- how the reads of files end: each file was read, and these are their bytes; or the read of this one gave a fault
pub data ReadsEnd : Type 0 where
  AllRead : (files : Contents) → ReadsEnd
  StoppedAt : (which : File) (gave : ShelfFault) → ReadsEnd

-- the bytes of this one of the files
abbrev pub bytes_of : Contents → File → List ℕ
bytes_of files file.Tree = files.tree
bytes_of files file.World = files.world
bytes_of files file.Rules = files.rules
bytes_of files file.Expect = files.expect

-- a read gave these bytes of a file, which is within the limit, where the shelf tells it; then this is so of the shelf
abbrev pub ReadThen : {Shelf : Type 0} → Reading Shelf → Option (List ℕ → List ℕ) → List ℕ → List ℕ → Shelf → (Shelf → Type 0) → Type 0
ReadThen {Shelf} read_gives holds name bytes old Then =
    (between : Shelf) × read_gives old name (Ok bytes) between × Told holds name (λ file. length file ≤ most_file_bytes) × Then between

-- the read of a file gave this fault
abbrev pub GaveFault : {Shelf : Type 0} → Reading Shelf → Option (List ℕ → List ℕ) → List ℕ → ShelfFault → Shelf → Shelf → Type 0
GaveFault read_gives holds name fault.TooLong old new = IsLong holds name × read_gives old name (Err fault.TooLong) new
GaveFault read_gives holds name other old new = read_gives old name (Err other) new

-- These files were read in this order, each once, and no other: all of them; or those before the first whose read gave a
-- fault, and this one.
abbrev pub AreRead : {Shelf : Type 0} → Reading Shelf → Option (List ℕ → List ℕ) → List NamedFile → ReadsEnd → Shelf → Shelf → Type 0
AreRead read_gives holds [] (AllRead contents) old new = new ≡ old
AreRead read_gives holds [] (StoppedAt which gave) old new = ⊥
AreRead read_gives holds (next ∷ files) (AllRead contents) old new =
    ReadThen read_gives holds next.1 (bytes_of contents next.0) old (λ between. AreRead read_gives holds files (AllRead contents) between new)
AreRead read_gives holds (next ∷ files) (StoppedAt which gave) old new =
    ((which ≡ next.0) × GaveFault read_gives holds next.1 gave old new)
    ⊎ ((bytes : List ℕ) × ReadThen read_gives holds next.1 bytes old (λ between. AreRead read_gives holds files (StoppedAt which gave) between new))

-- the read of this one of the files of words failed, after those before it were read
abbrev pub WordsUnread : {Shelf : Type 0} → Reading Shelf → Option (List ℕ → List ℕ) → Option Command → Shelf → Shelf → File → Type 0
WordsUnread read_gives holds command old new which = AreRead read_gives holds (files_in command) (StoppedAt which fault.Failed) old new
