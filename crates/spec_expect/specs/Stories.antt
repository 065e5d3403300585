-- A run as expectations see it: its events in order, each with its moment, with what happened and the facts at that moment,
-- and with the facts after it.
use Rattle.std.specs.Prelude.{ℕ, ℤ, List, [], ◌∷◌, map, Option, Some, None, Result, Ok, Err, slice_set}
use Rattle.std.specs.List.{flat_map}
use Rattle.spec_run.specs.declared.block.Block.{Block}
use Rattle.spec_run.specs.declared.block.Header.{Header}
use Rattle.spec_run.specs.declared.block.Header.TheVariants as header
use Rattle.spec_run.specs.declared.fault.Cause.{Cause}
use Rattle.spec_run.specs.declared.note.Note.{Note}
use Rattle.spec_run.specs.declared.note.Note.TheVariants.{Started, Ran, Quenched}
use Rattle.spec_run.specs.declared.status.Answer.TheVariants.{Success}
use Rattle.spec_run.specs.Joins.{row_at}
use Rattle.spec_run.specs.Leaf.{effects_of}
use Rattle.spec_run.specs.Served.{Setup}
use Rattle.spec_tree.specs.Trees.{nodes_of}
use Rattle.spec_world.specs.declared.world.Fact.{Fact}
use Rattle.spec_world.specs.declared.world.Row.{Row}
use Rattle.spec_world.specs.declared.world.Set.{Set}
use Rattle.spec_world.specs.declared.world.World.{World}

-- ---- What happened

-- what happened at one place of a run: the note, its runner, and the facts before it
pub record Happening : Type 0 where
  pub runner : ℕ
  pub facts : List ℤ
  pub note : Note

-- one event: its moment, what happened in order, and the facts after it
pub record Sight : Type 0 where
  pub at : ℕ
  pub happenings : List Happening
  pub facts : List ℤ

-- a run: the facts before its first event, and its events
pub record Story : Type 0 where
  pub facts : List ℤ
  pub sights : List Sight

-- what happened in some events, in order
abbrev pub happenings_in : List Sight → List Happening
happenings_in sights = flat_map (λ (s : Sight). s.happenings) sights

-- the facts after the last of some events, or these where there is none
abbrev pub facts_after : List ℤ → List Sight → List ℤ
facts_after facts [] = facts
facts_after facts (s ∷ sights) = facts_after s.facts sights

-- ---- The story that blocks tell

-- the facts that effects leave, which a call that was answered has had
abbrev pub left_by : Result (List ℤ) Cause → List ℤ → List ℤ
left_by (Ok left) facts = left
left_by (Err cause) facts = facts

-- the effects of the leaf of a uid: those of its row
abbrev pub sets_of : Option Row → List Set
sets_of (Some row) = row.sets
sets_of None = []

abbrev pub effects_at : Setup → ℕ → List Set
effects_at of uid = sets_of (row_at of.world.rows (nodes_of of.tree.term) uid)

-- the facts after a note: a call that answers SUCCESS has the effects of its leaf
abbrev pub after_note : Setup → Note → List ℤ → List ℤ
after_note of (Started uid Success) facts = left_by (effects_of (effects_at of uid) facts) facts
after_note of (Ran uid Success) facts = left_by (effects_of (effects_at of uid) facts) facts
after_note of _ facts = facts

abbrev pub after_notes : Setup → List Note → List ℤ → List ℤ
after_notes of [] facts = facts
after_notes of (n ∷ notes) facts = after_notes of notes (after_note of n facts)

-- the runner of a note: that of its event, but for a quench, which tells its own
abbrev pub runner_of : ℕ → Note → ℕ
runner_of runner (Quenched own uid) = own
runner_of runner _ = runner

-- what happened in an event of a runner, by its notes
abbrev pub happenings_of : Setup → ℕ → List Note → List ℤ → List Happening
happenings_of of runner [] facts = []
happenings_of of runner (n ∷ notes) facts =
    record { runner = runner_of runner n; facts = facts; note = n } ∷ happenings_of of runner notes (after_note of n facts)

-- the runner of an event, and 0 for a change of a fact
abbrev pub event_runner : Header → ℕ
event_runner (header.Tick runner at) = runner
event_runner (header.Halt runner at) = runner
event_runner (header.Change fact value at) = 0
event_runner (header.Finish runner at) = runner
event_runner (header.Tell runner uid succeeds at) = runner

-- its moment
abbrev pub event_moment : Header → ℕ
event_moment (header.Tick runner at) = at
event_moment (header.Halt runner at) = at
event_moment (header.Change fact value at) = at
event_moment (header.Finish runner at) = at
event_moment (header.Tell runner uid succeeds at) = at

-- facts, of which some have changed
abbrev pub changed : List (ℕ × ℤ) → List ℤ → List ℤ
changed [] facts = facts
changed (change ∷ changes) facts = changed changes (slice_set facts change.0 change.1)

-- the facts after an event: what its calls have left, and what its block says
abbrev pub after_block : Setup → Block → List ℤ → List ℤ
after_block of block facts = changed block.facts (after_notes of block.notes facts)

abbrev pub sight_of : Setup → Block → List ℤ → Sight
sight_of of block facts = record {
  at = event_moment block.header;
  happenings = happenings_of of (event_runner block.header) block.notes facts;
  facts = after_block of block facts;
}

-- the events of these blocks, of which the first meets these facts
abbrev pub sights_of : Setup → List Block → List ℤ → List Sight
sights_of of [] facts = []
sights_of of (block ∷ blocks) facts = sight_of of block facts ∷ sights_of of blocks (after_block of block facts)

-- the facts of a world before the first event
abbrev pub opening_facts : World → List ℤ
opening_facts world = map (λ (f : Fact). f.opening) world.facts

-- the run of a tree in a world, by its blocks
abbrev pub story_of : Setup → List Block → Story
story_of of blocks = record { facts = opening_facts of.world; sights = sights_of of blocks (opening_facts of.world) }
