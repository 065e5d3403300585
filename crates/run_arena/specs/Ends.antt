-- How a call of the engine ends, compared with what the definition says of this part of an event.
use Rattle.std.specs.Prelude.{◌≡◌, ℕ, List, ◌++◌, length, Result, Ok, Err}
use Rattle.base_texts.specs.declared.stop.Stop.{Stop}
use Rattle.base_texts.specs.declared.stop.Stop.TheVariants as stop
use Rattle.spec_run.specs.declared.fault.NodeFault.{NodeFault}
use Rattle.spec_run.specs.declared.note.Note.{Note}
use Rattle.spec_tree.specs.declared.term.Term.{Term}
use Rattle.spec_run.specs.Done.{Call, Done}
use Rattle.spec_run.specs.Sites.{View}
use Rattle.run_arena.specs.declared.nodes.Kept.{Kept}
use Rattle.run_arena.specs.declared.nodes.Node.{Node}
use Rattle.run_arena.specs.Noted.{calls_named}
use Rattle.run_arena.specs.Rosters.{roster_after}
use Rattle.run_arena.specs.Scenes.{Fits, Scene, state_in}

-- All of a part was done, and it ended in this way: the memory, the board, the facts and the instances are those of
-- the definition, its notes were added, and the drivers took its calls in their order.
pub record IsMade {A M : Type 0} (nodes : List Node) (moment : ℕ) (read : List Kept → M) (ending : Result A NodeFault) (before after : Scene) (old new : List Note) (d : Done A M) : Type 0 where
  pub answer : d.answer ≡ ending
  pub memory : d.memory ≡ read after.kept
  pub state : d.state ≡ state_in nodes after moment
  pub notes : new ≡ old ++ d.notes
  pub drivers : after.drivers ≡ roster_after nodes d.calls before.drivers

-- A part was cut off: a prefix of its notes was added, and the drivers took as many of its first calls as these notes
-- name.
pub record IsCut {A M : Type 0} (nodes : List Node) (before after : Scene) (old new : List Note) (d : Done A M) : Type 0 where
  pub told : List Note
  pub untold : List Note
  pub made : List Call
  pub unmade : List Call
  pub all_notes : told ++ untold ≡ d.notes
  pub all_calls : made ++ unmade ≡ d.calls
  pub named : length made ≡ calls_named told
  pub notes : new ≡ old ++ told
  pub drivers : after.drivers ≡ roster_after nodes made before.drivers

-- An answer or a fault is the definition's, with all that it leaves, and an answer comes with a note of each call;
-- want of memory (out of memory) cuts a part off.
abbrev pub Meets : {A M : Type 0} → List Node → ℕ → (List Kept → M) → Result A (Stop NodeFault) → Scene → Scene → List Note → List Note → Done A M → Type 0
Meets nodes moment memory (Ok a) before after old new d = IsMade nodes moment memory (Ok a) before after old new d × (length d.calls ≡ calls_named d.notes)
Meets nodes moment memory (Err (stop.Fault f)) before after old new d = IsMade nodes moment memory (Err f) before after old new d
Meets nodes moment memory (Err stop.NoMemory) before after old new d = IsCut nodes before after old new d

-- whatever fitted the arena before still fits it: the marks say which instances are held, and each leaf is served
abbrev pub StaysFit : List Node → Scene → Scene → Type 0
StaysFit nodes before after = (term : Term) (view : View) (uid : ℕ) → Fits term view uid nodes before → Fits term view uid nodes after
