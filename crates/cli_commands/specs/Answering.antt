-- What words were answered, also by a shelf or a clock that tells nothing.
use Rattle.std.specs.Prelude.{ℕ, List, Option, Some, None, ◌⊎◌}
use Rattle.spec_program.specs.declared.exit.Exit.{Exit}
use Rattle.spec_program.specs.declared.file.File.{File}
use Rattle.spec_program.specs.Files.{Contents, Named}
use Rattle.spec_program.specs.Jobs.{FilesBegin, FilesGive, files_of}
use Rattle.spec_program.specs.Gives.{Beginning, Giving}
use Rattle.spec_program.specs.RefusalOutputs.{words_refused}
use Rattle.spec_program.specs.Words.{Command}
use Rattle.spec_program.specs.Answers.{Side, Gave}
use Rattle.spec_program.specs.Answered.{AreTold, GaveOf, ReadFailed}

-- the output of files that may be named was given, of their bytes as far as the shelf tells them
pub record FilesAnswered (holds : Option (List ℕ → List ℕ)) (named : Named) (Gives : Giving) (Begins : Beginning) (result : Exit) (old new : Side) : Type 0 where
  pub files : Contents
  pub told : AreTold holds named files
  pub answers : GaveOf files Gives Begins result old new

-- What words were answered, also by a shelf or a clock that tells nothing: the output of some bytes of its files and of
-- some moments was given, or the line of a file whose read failed; or the words are no command.
abbrev pub CommandAnswered : Option Command → Option (List ℕ → List ℕ) → Type 0 → (File → Type 0) → Exit → Side → Side → Type 0
CommandAnswered None holds shelf_rose IsUnread result old new = Gave words_refused result old new
CommandAnswered (Some command) holds shelf_rose IsUnread result old new =
    ReadFailed shelf_rose IsUnread result old new ⊎ FilesAnswered holds (files_of command) (FilesGive command) (FilesBegin command) result old new
