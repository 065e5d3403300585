-- A load, which reads no file, as over any shelf.
use Rattle.std.proofs.Common.{◌⊎◌, ℕ, List, [], Option, Some, inl, inr}
use Rattle.spec_program.specs.declared.exit.Exit.{Exit}
use Rattle.spec_program.specs.declared.file.File.{File}
use Rattle.spec_program.specs.Answered.{AnsweredAfter, ReadFailed, WordsAnswered}
use Rattle.spec_program.specs.Answers.{DriversWithin, Gave, Side}
use Rattle.spec_program.specs.Headline.{EachOutput, IsGiven, WholeOutput}
use Rattle.spec_program.specs.Output.{Output}
use Rattle.spec_program.specs.Reads.{AllRead, AreRead, Reading, ReadsEnd, StoppedAt, WordsUnread}
use Rattle.spec_program.specs.Words.{Command, Load}
use Rattle.cli_commands.specs.Answering.{CommandAnswered}
use Rattle.cli_commands.proofs.AnyBytes.{any_bytes}
use Rattle.cli_program.proofs.Begun.{CutLaw}
use Rattle.cli_program.proofs.Clauses.{OneReading, begun_of, each_more, each_of, whole_of}

module _ {Shelf : Type 0} (read_gives : Reading Shelf) (leaves : ℕ) (rose : Type 0) (x y : Shelf) (result : Exit) (a b : Side) (told : Option (List ℕ → List ℕ)) (holds : List ℕ → List ℕ) where
  abbrev load : Option Command
  load = Some (Load leaves)

  -- no read can have given a fault, and no bytes had to be told
  over_any : (end : ReadsEnd) → AreRead read_gives told [] end x y → AnsweredAfter load told rose end result a b → WordsAnswered read_gives (Some holds) load rose x y result a b
  over_any (AllRead files) reads answered = record {
    end = AllRead files;
    reads = reads;
    answered = (record { told = record { tree = tt; world = tt; rules = tt; expect = tt }; short = answered.0.short }, answered.1);
  }
  over_any (StoppedAt which gave) reads answered = absurd reads

  abbrev IsUnread : File → Type 0
  IsUnread = WordsUnread read_gives (Some holds) load x y

  module _ (answered : WordsAnswered read_gives told load rose x y result a b) where
    command_answered : CommandAnswered load (Some holds) rose IsUnread result a b
    command_answered = any_bytes read_gives (Some holds) _ _ _ _ _ _ _ (over_any answered.end answered.reads answered.answered)

    pub load_whole : IsGiven result → WholeOutput (Some holds) load result a b
    load_whole = whole_of (Some holds) result rose IsUnread a b load command_answered

    -- no read has failed, since none was made
    not_failed : (o : Output) → Gave o result a b ⊎ ReadFailed rose IsUnread result a b → Gave o result a b
    not_failed o (inl gave) = gave
    not_failed o (inr failed) = absurd failed.2

    pub load_each : OneReading → CutLaw → EachOutput (Some holds) load a (λ o. Gave o result a b)
    load_each one cuts =
        each_more (Some holds) load a (λ o. Gave o result a b ⊎ ReadFailed rose IsUnread result a b) (λ o. Gave o result a b) not_failed
        (each_of (Some holds) result rose IsUnread a b one cuts load command_answered)

    pub load_begun : OneReading → CutLaw → EachOutput (Some holds) load a (λ o. DriversWithin o.calls a.drivers b.drivers)
    load_begun one cuts = begun_of (Some holds) result rose IsUnread a b one cuts load command_answered
