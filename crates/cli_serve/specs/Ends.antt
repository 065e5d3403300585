-- How what is served ends, by the reads of its files.
use Rattle.std.specs.Prelude.{◌≡◌, ◌⊎◌, ℕ, List, Option}
use Rattle.cli_refusals.specs.Printing.{Printed}
use Rattle.cli_serve.specs.declared.files.Files.{Files}
use Rattle.cli_serve.specs.Files.{world_read}
use Rattle.cli_serve.specs.Serving.{Out}
use Rattle.spec_outside.specs.declared.shelf_fault.ShelfFault.TheVariants as fault
use Rattle.spec_program.specs.declared.exit.Exit.{Exit}
use Rattle.spec_program.specs.declared.exit.Exit.TheVariants as exit
use Rattle.spec_program.specs.Answered.{AreWithin}
use Rattle.spec_program.specs.Files.{Contents}
use Rattle.spec_program.specs.Output.{Output}
use Rattle.spec_program.specs.Reads.{AllRead, AreRead, Reading, ReadsEnd, StoppedAt, in_order}
use Rattle.spec_program.specs.RefusalOutputs.{too_long, unread}
use Rattle.spec_program.specs.Words.{Served}
use Rattle.spec_serve.specs.Served.{FilesSaid, IsServed, ServeSaid, files_of, output_of}
use Rattle.spec_serve.specs.Talks.{Heard, Said}

-- an output was given to a sink
abbrev pub WasGiven : Output → Exit → Out → Out → Type 0
WasGiven o result old new = Printed o result old.written old.faults new.written new.faults

-- memory ran out before it was known what is to be said
abbrev pub RanOut : Exit → Out → Out → Type 0
RanOut result old new = (result ≡ exit.Memory) × (new.written ≡ old.written)

-- This is said over these bytes of the files, which are those that are told, to what is heard of the input; and it was given.
pub record WasSaid (files : Contents) (holds : Option (List ℕ → List ℕ)) (served : Served) (AreHeard : Exit → Heard → Type 0) (result : Exit) (old new : Out) : Type 0 where
  pub within : AreWithin holds (files_of served) files
  pub heard : Heard
  pub is_heard : AreHeard result heard
  pub said : Said
  pub is : ServeSaid served files heard said
  pub given : WasGiven (output_of said) result old new

-- this is said of files that were read, to what is heard of the input; and it was given
pub record FilesWereSaid (main : Option (List ℕ)) (files : Files) (AreHeard : Exit → Heard → Type 0) (result : Exit) (old new : Out) : Type 0 where
  pub heard : Heard
  pub is_heard : AreHeard result heard
  pub said : Said
  pub is : FilesSaid (IsServed heard) main files.tree.items (world_read files) said
  pub given : WasGiven (output_of said) result old new

-- .. or memory ran out before
abbrev pub FilesAnswered : Option (List ℕ) → Files → (Exit → Heard → Type 0) → Exit → Out → Out → Type 0
FilesAnswered main files AreHeard result old new = FilesWereSaid main files AreHeard result old new ⊎ RanOut result old new

-- what is served is answered after reads that end so
abbrev pub EndsAfter : Option (List ℕ → List ℕ) → Served → (Exit → Heard → Type 0) → Type 0 → ReadsEnd → Exit → Out → Out → Type 0
EndsAfter holds served AreHeard shelf_rose (AllRead files) result old new = WasSaid files holds served AreHeard result old new ⊎ RanOut result old new
EndsAfter holds served AreHeard shelf_rose (StoppedAt which fault.Failed) result old new = shelf_rose × WasGiven (unread which) result old new
EndsAfter holds served AreHeard shelf_rose (StoppedAt which fault.TooLong) result old new = WasGiven (too_long which) result old new
EndsAfter holds served AreHeard shelf_rose (StoppedAt which fault.NoMemory) result old new = RanOut result old new

-- The files are read in their order, each once, up to the first whose read gives a fault; then what is served is answered.
pub record IsAnswered {Shelf : Type 0} (read_gives : Reading Shelf) (holds : Option (List ℕ → List ℕ)) (served : Served)
    (AreHeard : Exit → Heard → Type 0) (shelf_rose : Type 0) (shelf_old shelf_new : Shelf) (result : Exit) (old new : Out) : Type 0 where
  pub end : ReadsEnd
  pub reads : AreRead read_gives holds (in_order (files_of served)) end shelf_old shelf_new
  pub answered : EndsAfter holds served AreHeard shelf_rose end result old new
