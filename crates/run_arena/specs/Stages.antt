-- The stage of a part of an event: what it shows, and what the part keeps of it.
use Rattle.std.specs.Prelude.{◌≡◌, ◌≤◌, ℕ, List, Result}
use Rattle.base_texts.specs.declared.stop.Stop.{Stop}
use Rattle.spec_run.specs.declared.fault.NodeFault.{NodeFault}
use Rattle.spec_tree.specs.declared.term.Term.{Term}
use Rattle.spec_run.specs.Done.{Done, State}
use Rattle.spec_run.specs.Drivers.{DriverState}
use Rattle.spec_run.specs.Sites.{View}
use Rattle.run_arena.specs.declared.nodes.Kept.{Kept}
use Rattle.run_arena.specs.declared.stage.Stage.{Stage}
use Rattle.run_arena.specs.Ends.{Meets, StaysFit}
use Rattle.run_arena.specs.Scenes.{Fits, Scene, scene, state_in}
use Rattle.run_arena.specs.Stands.{Beside}

-- ---- What a stage shows. What the drivers keep is read by the first argument.

-- all that a part can change but the notes
abbrev pub scene_on : {D P : Type 0} → (D → List DriverState) → Stage D P → Scene
scene_on states s = scene s.kept.now s.board.now s.facts.now (states s.drivers.now)

-- the state of the runner
abbrev pub state_on : {D P : Type 0} → (D → List DriverState) → Stage D P → State
state_on states s = state_in s.nodes.now (scene_on states s) s.moment

-- a term that stands there from this uid on, in this view, fits
abbrev pub FitsOn : {D P : Type 0} → (D → List DriverState) → Stage D P → ℕ → Term → View → Type 0
FitsOn states s uid term view = Fits term view uid s.nodes.now (scene_on states s)

-- ---- What a part does

-- How a part ends that began on one stage and left another, compared with what the definition says of it.
abbrev pub MeetsOn : {D P A M : Type 0} → (D → List DriverState) → (List Kept → M) → Result A (Stop NodeFault) → Stage D P → Stage D P → Done A M → Type 0
MeetsOn states memory result old new d =
    Meets old.nodes.now old.moment memory result (scene_on states old) (scene_on states new) old.notes.now.list new.notes.now.list d

-- A stage still borrows the same, with the same nodes at the same time, and the reserve of the notes is not smaller.
pub record IsSame {D P : Type 0} (old new : Stage D P) : Type 0 where
  pub moment : new.moment ≡ old.moment
  pub nodes : new.nodes ≡ old.nodes
  pub kept : new.kept.ghost_name ≡ old.kept.ghost_name
  pub board : new.board.ghost_name ≡ old.board.ghost_name
  pub facts : new.facts.ghost_name ≡ old.facts.ghost_name
  pub drivers : new.drivers.ghost_name ≡ old.drivers.ghost_name
  pub notes : new.notes.ghost_name ≡ old.notes.ghost_name
  pub reserve : old.notes.now.reserve ≤ new.notes.now.reserve
  pub full : new.notes.now.full ≡ old.notes.now.full

-- A part of a visit or a halt keeps the stage, and what nodes beside these keep; and whatever fitted still fits.
pub record Keeps {D P : Type 0} (states : D → List DriverState) (uid size : ℕ) (old new : Stage D P) : Type 0 where
  pub same : IsSame old new
  pub beside : Beside uid size old.kept.now new.kept.now
  pub stays : StaysFit old.nodes.now (scene_on states old) (scene_on states new)

-- no fact has changed, and no driver was called
pub record IsAside {D P : Type 0} (states : D → List DriverState) (old new : Stage D P) : Type 0 where
  pub facts : new.facts.now ≡ old.facts.now
  pub drivers : states new.drivers.now ≡ states old.drivers.now
