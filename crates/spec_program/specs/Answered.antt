-- What the answer of a command says.
use Rattle.std.specs.Prelude.{ℕ, ◌≡◌, ◌≤◌, List, length, Option, Some, None}
use Rattle.spec_program.specs.declared.exit.Exit.{Exit}
use Rattle.spec_program.specs.declared.file.File.{File}
use Rattle.spec_program.specs.Files.{Contents, Named}
use Rattle.spec_program.specs.Jobs.{FilesBegin, FilesGive, files_of}
use Rattle.spec_program.specs.Output.{AreUncalled}
use Rattle.spec_program.specs.Gives.{Beginning, Giving}
use Rattle.spec_program.specs.RefusalOutputs.{too_long, unread, words_refused}
use Rattle.spec_program.specs.Words.{Command}
use Rattle.spec_outside.specs.Files.{Told}
use Rattle.spec_tree.specs.Limits.{most_file_bytes}
use Rattle.spec_program.specs.Reads.{AllRead, AreRead, Reading, ReadsEnd, StoppedAt, files_in}
use Rattle.spec_program.specs.Answers.{Answers, AtMoments, RanOut, Side, Gave}
use Rattle.spec_outside.specs.declared.shelf_fault.ShelfFault.TheVariants as fault

-- what a shelf tells of a file that may be named
abbrev pub ToldIfNamed : Option (List ℕ → List ℕ) → Option (List ℕ) → (List ℕ → Type 0) → Type 0
ToldIfNamed holds None P = Unit {0}
ToldIfNamed holds (Some name) P = Told holds name P

-- these are the bytes of files that may be named, where the shelf tells them
pub record AreTold (holds : Option (List ℕ → List ℕ)) (named : Named) (files : Contents) : Type 0 where
  pub tree : ToldIfNamed holds named.tree (λ file. files.tree ≡ file)
  pub world : ToldIfNamed holds named.world (λ file. files.world ≡ file)
  pub rules : ToldIfNamed holds named.rules (λ file. files.rules ≡ file)
  pub expect : ToldIfNamed holds named.expect (λ file. files.expect ≡ file)

-- none of them is too long
pub record AreShort (files : Contents) : Type 0 where
  pub tree : length files.tree ≤ most_file_bytes
  pub world : length files.world ≤ most_file_bytes
  pub rules : length files.rules ≤ most_file_bytes
  pub expect : length files.expect ≤ most_file_bytes

-- .. and these are their bytes, where the shelf tells them
pub record AreWithin (holds : Option (List ℕ → List ℕ)) (named : Named) (files : Contents) : Type 0 where
  pub told : AreTold holds named files
  pub short : AreShort files

-- the output of these bytes of files was given, at some moments, which are those that the clock tells
abbrev pub GaveOf : Contents → Giving → Beginning → Exit → Side → Side → Type 0
GaveOf files Gives Begins result old new = AtMoments old.clock (λ moments. Answers (Gives files moments old.drivers) (Begins files) result old new)

-- The shelf's count of failures rose: the read of a file failed, and the line of this file was given.
abbrev pub ReadFailed : Type 0 → (File → Type 0) → Exit → Side → Side → Type 0
ReadFailed shelf_rose IsUnread result old new =
    shelf_rose × (file : File) × IsUnread file × Gave (unread file) result old new

-- What words were answered after reads that end so: the output of the bytes that were read, of which none is too long, was
-- given; or the line of the fault that the last read gave, where the shelf's count of failures rose at Failed; out of memory nothing was
-- done. Words that are no command have their refusal.
abbrev pub AnsweredAfter : Option Command → Option (List ℕ → List ℕ) → Type 0 → ReadsEnd → Exit → Side → Side → Type 0
AnsweredAfter None holds shelf_rose end result old new = Gave words_refused result old new
AnsweredAfter (Some command) holds shelf_rose (AllRead files) result old new =
    AreWithin holds (files_of command) files × GaveOf files (FilesGive command) (FilesBegin command) result old new
AnsweredAfter (Some command) holds shelf_rose (StoppedAt which fault.Failed) result old new = shelf_rose × Gave (unread which) result old new
AnsweredAfter (Some command) holds shelf_rose (StoppedAt which fault.TooLong) result old new = Gave (too_long which) result old new
AnsweredAfter (Some command) holds shelf_rose (StoppedAt which fault.NoMemory) result old new = RanOut AreUncalled result old new

-- the files of words are read, as far as no read gives a fault, and then they are answered
pub record WordsAnswered {Shelf : Type 0} (read_gives : Reading Shelf) (holds : Option (List ℕ → List ℕ)) (command : Option Command) (shelf_rose : Type 0) (shelf_old shelf_new : Shelf)
    (result : Exit) (old new : Side) : Type 0 where
  pub end : ReadsEnd
  pub reads : AreRead read_gives holds (files_in command) end shelf_old shelf_new
  pub answered : AnsweredAfter command holds shelf_rose end result old new
