-- What a run tells of two leaves: whether they are held together, between any two calls of drivers, and after an event.
use Rattle.std.specs.Prelude.{ℕ, ◌≡◌, ◌<◌, ◌≤◌, List, [], ◌∷◌, Bool, true, false, ◌&&◌, if◌then◌else◌, take}
use Rattle.std.specs.List.{AllByRecursion, Contains, flat_map}
use Rattle.std.specs.List.Sorted.{IsNonDecreasingBy}
use Rattle.spec_exclusive.specs.declared.meeting.Meeting.{Meeting}
use Rattle.spec_exclusive.specs.declared.meeting.Meeting.TheVariants.{Together}
use Rattle.spec_exclusive.specs.declared.pair.Pair.{Pair}
use Rattle.spec_exclusive.specs.Pairs.{all_listed, pair_of}
use Rattle.spec_run.specs.declared.block.Block.{Block}
use Rattle.spec_run.specs.declared.note.Note.{Note}
use Rattle.spec_run.specs.declared.note.Note.TheVariants as note
use Rattle.spec_run.specs.declared.status.Answer.{Answer}
use Rattle.spec_run.specs.declared.status.Answer.TheVariants as answer
use Rattle.spec_run.specs.Run.{run_over}
use Rattle.spec_serve.specs.Traces.{Noted, is_call, noted_in}
use Rattle.spec_tree.specs.declared.term.Tree.{Tree}
use Rattle.spec_world.specs.declared.world.Event.{Event}
use Rattle.spec_world.specs.declared.world.What.{What}
use Rattle.spec_world.specs.declared.world.What.TheVariants.{Tick, Halt, Change, Tell}
use Rattle.spec_world.specs.declared.world.World.{World}
use Rattle.tree_dead.specs.Runs.{LeavesHaveRows}

-- ---- A leaf that is held

-- an answer RUNNING leaves the leaf held that gave it
abbrev pub holds_on : Answer → Bool
holds_on answer.Running = true
holds_on _ = false

-- whether the call that is noted leaves its leaf held: it answers RUNNING, and does not halt it
abbrev pub leaves_held : Note → Bool
leaves_held (note.Started uid answer) = holds_on answer
leaves_held (note.Ran uid answer) = holds_on answer
leaves_held _ = false

-- whether a runner's leaf is held after a note, where it is known whether it was held before
abbrev pub held_after_note : ℕ → ℕ → Noted → Bool → Bool
held_after_note runner uid n held = if is_call runner uid n.runner n.note then leaves_held n.note else held

-- whether a runner's leaf is held after these notes in order, where it is known whether it was held before them
abbrev pub held_after : ℕ → ℕ → List Noted → Bool → Bool
held_after runner uid [] held = held
held_after runner uid (n ∷ notes) held = held_after runner uid notes (held_after_note runner uid n held)

-- whether two leaves of a runner are held together after the notes of a run so far, before which no leaf is held
abbrev pub held_together : ℕ → ℕ → ℕ → List Noted → Bool
held_together runner earlier later notes = held_after runner earlier notes false && held_after runner later notes false

-- ---- The moments of a run

-- the notes of blocks, each with the runner of its event
abbrev pub noted_of : List Block → List Noted
noted_of blocks = flat_map noted_in blocks

-- two leaves of a runner are held together at no moment between two calls: after none of the first so many notes
abbrev pub NeverTogether : ℕ → ℕ → ℕ → List Block → Type 0
NeverTogether runner earlier later blocks = (so_far : ℕ) → held_together runner earlier later (take so_far (noted_of blocks)) ≡ false

-- they are held together after no event: after none of the first so many blocks
abbrev pub NotTogetherAfterEvents : ℕ → ℕ → ℕ → List Block → Type 0
NotTogetherAfterEvents runner earlier later blocks = (so_far : ℕ) → held_together runner earlier later (noted_of (take so_far blocks)) ≡ false

-- ---- Events

-- an event that is of a runner names one; they are numbered from 1
abbrev pub NamesRunner : What → Type 0
NamesRunner (Tick runner) = 1 ≤ runner
NamesRunner (Halt runner) = 1 ≤ runner
NamesRunner (Change fact value) = Unit {0}
NamesRunner (Tell runner uid telling) = 1 ≤ runner

-- events in the order of their moments, as all events of a world are
pub record AreInOrder (events : List Event) : Type 0 where
  pub moments : IsNonDecreasingBy (λ (e : Event). e.at) events
  pub runners : AllByRecursion (λ (e : Event). NamesRunner e.what) events

-- ---- All runs of a tree

-- two leaves of a tree with listed IDs
pub record AreListed (ids : List (List ℕ)) (tree : Tree) (earlier later : ℕ) : Type 0 where
  pub first : Contains (all_listed ids tree) earlier
  pub second : Contains (all_listed ids tree) later
  pub order : earlier < later

-- in every world with a row for each leaf, and over every list of events in their order: two leaves of one runner with listed
-- IDs that are none of these pairs are held together at no moment, and those that are none of these of `Together` after no event
pub record AreApart (ids : List (List ℕ)) (tree : Tree) (pairs : List Pair) : Type 0 where
  pub moments : (world : World) → LeavesHaveRows tree world → (events : List Event) → AreInOrder events → (runner earlier later : ℕ) → AreListed ids tree earlier later →
      ((meeting : Meeting) → Contains pairs (pair_of earlier later meeting) → ⊥) → NeverTogether runner earlier later (run_over tree world events).blocks
  pub between : (world : World) → LeavesHaveRows tree world → (events : List Event) → AreInOrder events → (runner earlier later : ℕ) → AreListed ids tree earlier later →
      (Contains pairs (pair_of earlier later Together) → ⊥) → NotTogetherAfterEvents runner earlier later (run_over tree world events).blocks
