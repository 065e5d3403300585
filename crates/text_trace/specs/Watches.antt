-- What a watcher makes of the blocks that it is shown.
use Rattle.std.specs.Prelude.{ℕ, ◌≡◌, ◌≤◌, List, ◌++◌, Option, Some, None, Result, Ok, Err, IsErrOf}
use Rattle.std.specs.List.{flat_map}
use Rattle.spec_run.specs.declared.block.Block.{Block}
use Rattle.spec_run.specs.declared.note.Note.{Note}
use Rattle.spec_outside.specs.Appending.{Appended}
use Rattle.spec_outside.specs.Counts.{Rose}
use Rattle.text_lines.specs.declared.stop.TextStop.{TextStop}
use Rattle.text_lines.specs.declared.stop.TextStop.TheVariants as text_stop
use Rattle.spec_output.specs.declared.counts.Counts.{Counts}
use Rattle.spec_output.specs.Counts.{counts_in, notes_in}
use Rattle.text_trace.specs.Following.{Following, all_followed}

-- what a watcher writes of a block; what it has written, where it tells that, with its count of failed writes; what it
-- has counted, where it counts; what it keeps of a run for what is expected of it, where it does; and what it borrows
pub record Watched : Type 0 where
  pub text : Block → List ℕ
  pub written : Option (List ℕ)
  pub faults : ℕ
  pub counts : Option Counts
  pub expecting : Option Following
  pub lent : ℕ

-- these notes were counted, after earlier ones
abbrev pub Counted : Option Counts → Option Counts → List Note → Type 0
Counted None new notes = Unit {0}
Counted (Some old) new notes = (earlier : List Note) → old ≡ counts_in earlier → new ≡ Some (counts_in (earlier ++ notes))

-- these blocks were followed
abbrev pub Followed : Option Following → Option Following → List Block → Type 0
Followed None new blocks = Unit {0}
Followed (Some old) new blocks = new ≡ Some (all_followed blocks old)

-- a watcher was shown these blocks, whole and in order
pub record WasShown (old new : Watched) (blocks : List Block) : Type 0 where
  pub text : new.text ≡ old.text
  pub written : Appended old.written new.written (flat_map old.text blocks)
  pub counted : Counted old.counts new.counts (notes_in blocks)
  pub followed : Followed old.expecting new.expecting blocks

-- a watcher is still the same one, and where a write failed its count of them has risen
pub record StaysWatcher {A : Type 0} (result : Result A TextStop) (old new : Watched) : Type 0 where
  pub text : new.text ≡ old.text
  pub lent : new.lent ≡ old.lent
  pub failed : IsErrOf result text_stop.WriteFault → Rose old.faults new.faults
  pub count : old.faults ≤ new.faults

-- what a watcher does when it is shown blocks, with this result, leads from one of its states to another
abbrev pub Shown : {Watch A : Type 0} → (Watch → Result (Unit {0}) TextStop → Watch → Type 0) → Result A TextStop → Watch → Watch → Type 0
Shown shows (Ok _) old new = shows old (Ok tt) new
Shown shows (Err why) old new = shows old (Err why) new
