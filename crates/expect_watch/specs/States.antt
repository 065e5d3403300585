-- What is kept of a run for all that is expected of it, block by block.
use Rattle.std.specs.Prelude.{ℕ, ℤ, List, [], ◌∷◌, map, slice_index_or, Bool, true, false, if◌then◌else◌, Option, Some, None}
use Rattle.spec_run.specs.declared.block.Block.{Block}
use Rattle.spec_run.specs.declared.note.Note.{Note}
use Rattle.spec_run.specs.declared.note.Note.TheVariants.{Started, Ran}
use Rattle.spec_run.specs.declared.status.Answer.TheVariants.{Success}
use Rattle.spec_run.specs.Leaf.{effects_of}
use Rattle.spec_world.specs.declared.world.Set.{Set}
use Rattle.spec_expect.specs.declared.verdict.Verdict.{Verdict}
use Rattle.spec_expect.specs.declared.verdict.Verdict.TheVariants.{Pass, Fail}
use Rattle.spec_expect.specs.Met.{Held, held_after}
use Rattle.spec_expect.specs.Stories.{changed, event_moment, event_runner, left_by, runner_of}
use Rattle.expect_watch.specs.declared.memo.Memo.{Memo}
use Rattle.expect_watch.specs.declared.watching.Watched.{Watched}
use Rattle.expect_watch.specs.declared.watching.Watching.{Watching}
use Rattle.expect_watch.specs.Memos.{after_event, after_note, is_lost_after, is_lost_by, is_met}

-- what contracts see of it
pub record State : Type 0 where
  pub watched : List Watched
  pub facts : List ℤ
  pub effects : List (List Set)
  pub held : List Held
  pub last : ℕ

abbrev pub seen : Watching → State
seen w = record { watched = w.watched.items; facts = w.facts; effects = w.effects.items; held = w.held.items; last = w.last }

-- ---- One expectation

-- what is left of one that is lost with this moment, where it is lost
abbrev pub left_with : Watched → ℕ → Bool → Memo → Watched
left_with w at is_lost memo = record { line = w.line; memo = memo; lost = if is_lost then Some at else None }

-- one that is lost stays as it is
abbrev pub unless_lost : Option ℕ → Watched → Watched → Watched
unless_lost (Some at) w after = w
unless_lost None w after = after

abbrev pub noted : ℕ → Note → List ℤ → List Held → Watched → Watched
noted at note facts held w = unless_lost w.lost w (left_with w at (is_lost_by note facts held w.memo) (after_note at note w.memo))

abbrev pub event_ended : ℕ → List ℤ → Watched → Watched
event_ended at facts w = unless_lost w.lost w (left_with w at (is_lost_after at facts w.memo) (after_event at facts w.memo))

-- what becomes of it in a run whose last event has this moment
abbrev pub verdict_by : Option ℕ → Memo → ℕ → Verdict
verdict_by (Some at) memo last = Fail at
verdict_by None memo last = if is_met memo then Pass else Fail last

abbrev pub verdict_of : Watched → ℕ → Verdict
verdict_of w last = verdict_by w.lost w.memo last

-- whether it does not pass
abbrev pub is_failed : Verdict → Bool
is_failed Pass = false
is_failed (Fail at) = true

-- ---- All of them

-- the facts after a note
abbrev pub effects_had : List (List Set) → Note → List ℤ → List ℤ
effects_had effects (Started uid Success) facts = left_by (effects_of (slice_index_or effects uid []) facts) facts
effects_had effects (Ran uid Success) facts = left_by (effects_of (slice_index_or effects uid []) facts) facts
effects_had effects _ facts = facts

-- after a note of an event of a runner at a moment
abbrev pub note_taken : ℕ → ℕ → State → Note → State
note_taken at runner s note =
    let held = held_after (runner_of runner note) note s.held in
    record { watched = map (noted at note s.facts held) s.watched; facts = effects_had s.effects note s.facts; effects = s.effects; held = held; last = s.last }

abbrev pub notes_taken : ℕ → ℕ → List Note → State → State
notes_taken at runner [] s = s
notes_taken at runner (note ∷ notes) s = notes_taken at runner notes (note_taken at runner s note)

-- after an event at a moment, whose block tells these changes
abbrev pub event_taken : ℕ → List (ℕ × ℤ) → State → State
event_taken at changes s =
    let facts = changed changes s.facts in
    record { watched = map (event_ended at facts) s.watched; facts = facts; effects = s.effects; held = s.held; last = at }

-- after a block
abbrev pub taken : Block → State → State
taken block s = event_taken (event_moment block.header) block.facts (notes_taken (event_moment block.header) (event_runner block.header) block.notes s)

-- after some blocks
abbrev pub all_taken : List Block → State → State
all_taken [] s = s
all_taken (block ∷ blocks) s = all_taken blocks (taken block s)
