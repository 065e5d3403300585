-- What the laws beside `bt` say of its answer.
use Rattle.std.specs.Prelude.{ℕ, ◌≡◌, ◌≤◌, List, None, Ok, Option, Some, length}
use Rattle.spec_program.specs.Answered.{WordsAnswered}
use Rattle.spec_program.specs.Answers.{Side}
use Rattle.spec_program.specs.Courses.{given, run_output}
use Rattle.spec_program.specs.declared.course.Course.TheVariants as course
use Rattle.spec_program.specs.Gives.{RunGives}
use Rattle.spec_program.specs.Headline.{plan_file, ticking}
use Rattle.spec_program.specs.Output.{AreUncalled, Output}
use Rattle.spec_program.specs.Reads.{Reading}
use Rattle.spec_program.specs.RefusalOutputs.{unread}
use Rattle.spec_program.specs.Words.{Command, Live}
use Rattle.spec_program.specs.declared.exit.Exit.{Exit}
use Rattle.spec_program.specs.declared.file.File.{File}
use Rattle.spec_outside.specs.Appending.{Appended}
use Rattle.spec_outside.specs.Counts.{Rose}
use Rattle.spec_outside.specs.Moments.{Moments}
use Rattle.spec_plan.specs.declared.ending.Step.{Step}
use Rattle.spec_run.specs.Drivers.{DriverState}
use Rattle.spec_tree.specs.Limits.{most_file_bytes}
use Rattle.spec_tree.specs.declared.term.Tree.{Tree}
use Rattle.spec_world.specs.declared.world.World.{World}
use Rattle.spec_world_file.specs.WorldFile.{ReadsWorld}

-- what `reads` says of an answer, of a shelf by what its reads give, what it holds, and its counts of failures
abbrev pub ShelfAnswered : {Shelf : Type 0} → Reading Shelf → Option (List ℕ → List ℕ) → (Shelf → ℕ) → Shelf → Shelf → Option Command → Exit → Side → Side → Type 0
ShelfAnswered read_gives holds faults shelf_old shelf_new command result old new =
    WordsAnswered read_gives holds command (Rose (faults shelf_old) (faults shelf_new)) shelf_old shelf_new result old new

-- the read of a file failed, the line of this file was written whole, and no driver was called
abbrev pub UnreadLine : (File → Type 0) → Side → Side → Type 0
UnreadLine IsUnread old new =
    (file : File) × IsUnread file × Appended old.written new.written (unread file).bytes × AreUncalled old.drivers new.drivers

-- words that are no command, or another one than `live`
abbrev pub IsNotLive : Option Command → Type 0
IsNotLive (Some (Live tree world rounds main)) = ⊥
IsNotLive _ = Unit {0}

-- The file that a plan is runs by `tick`: where a script, not too long, describes the world with a tick each period, each output
-- of the two files with these drivers is the run of the tree.
abbrev pub RunsByTick : List Step → Tree → ℕ → World → ℕ → List DriverState → Type 0
RunsByTick steps tree tick world period drivers =
    (n : ℕ) (script : List ℕ) (moments : Moments) (o : Output) → ReadsWorld script (Ok (ticking world period n)) → length script ≤ most_file_bytes
    → RunGives None (plan_file steps tree tick) script (given course.Script moments drivers) o
    → o ≡ run_output tree (ticking world period n) (given course.Script moments drivers)
