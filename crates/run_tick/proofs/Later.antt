-- What can be done on a stage, and what calls say of it, with the nodes and at the time of a later one.
use Rattle.std.proofs.Common.{ℕ, List, Result}
use Rattle.base_texts.specs.declared.stop.Stop.{Stop}
use Rattle.spec_run.specs.declared.fault.NodeFault.{NodeFault}
use Rattle.spec_run.specs.declared.memory.Memory.{Memory}
use Rattle.spec_run.specs.declared.moves.Heard.{Heard}
use Rattle.spec_run.specs.declared.note.Note.{Note}
use Rattle.spec_run.specs.declared.status.Answer.{Answer}
use Rattle.spec_tree.specs.declared.term.Term.{Term}
use Rattle.spec_run.specs.Done.{Done}
use Rattle.spec_run.specs.Drivers.{DriverState}
use Rattle.spec_run.specs.Sites.{View}
use Rattle.spec_run.specs.Steps.{Given}
use Rattle.spec_run.specs.Visit.{ended}
use Rattle.run_arena.specs.declared.frame.Frame.{Frame}
use Rattle.run_arena.specs.declared.nodes.Node.{Node}
use Rattle.run_arena.specs.declared.stage.Stage.{Stage}
use Rattle.run_arena.specs.Ends.{Meets}
use Rattle.run_arena.specs.Nodes.{kept_at}
use Rattle.run_arena.specs.Scenes.{Fits, Scene, state_in}
use Rattle.run_arena.specs.Stages.{IsSame, scene_on}
use Rattle.run_arena.specs.Stands.{memory_of}
use Rattle.run_arena.proofs.Staged.{later}
use Rattle.run_nodes.specs.Here.{children_in, site_at}
use Rattle.run_tick.specs.declared.progress.Entered.{Entered}
use Rattle.run_tick.specs.declared.progress.Next.{Next}
use Rattle.run_tick.specs.declared.progress.Next.TheVariants as next
use Rattle.run_tick.specs.declared.progress.Reached.{Reached}
use Rattle.run_tick.specs.Machine.{Step, Turn}
use Rattle.run_tick.specs.Turns.{CanVisit, Goes, GoesOnBy, GoingOn, Reaches, turned, visit_in}

module _ {D P : Type 0} {old new : Stage D P} (same : IsSame old new) where
  -- a visit can still begin
  pub can_later : {term : Term} {view : View} {uid : ℕ} {s : Scene} → CanVisit old.nodes.now old.moment term view uid s → CanVisit new.nodes.now new.moment term view uid s
  can_later {term} {view} {uid} {s} k = later same (λ (ns : List Node) (m : ℕ). CanVisit ns m term view uid s) k

  -- a node still goes on
  pub step_later : {term : Term} {view : View} {step : Step} {s : Scene} {rest : Done Answer Memory} →
      GoesOnBy old.nodes.now old.moment term view step.uid step s rest → GoesOnBy new.nodes.now new.moment term view step.uid step s rest
  step_later {term} {view} {step} {s} {rest} k = later same (λ (ns : List Node) (m : ℕ). GoesOnBy ns m term view step.uid step s rest) k

  -- and the visit of a root still came to this
  pub came_later : {root : Term} {nx : Next} {stack : List Frame} {s0 s : Scene} {n0 n : List Note} {whole : Done Answer Memory} →
      GoingOn old.nodes.now old.moment root 1 nx stack s0 s n0 n whole → GoingOn new.nodes.now new.moment root 1 nx stack s0 s n0 n whole
  came_later {root} {nx} {stack} {s0} {s} {n0} {n} {whole} k = later same (λ (ns : List Node) (m : ℕ). GoingOn ns m root 1 nx stack s0 s n0 n whole) k

-- ---- What calls say, by these nodes and at this time

module _ {D P : Type 0} (states : D → List DriverState) (s s1 : Stage D P) where
  -- of a node that is entered
  abbrev pub EntersBy : ℕ → Result Entered (Stop NodeFault) → List Node → ℕ → Type 0
  EntersBy uid r nodes moment =
      (term : Term) (view : View) → CanVisit nodes moment term view uid (scene_on states s) →
      Goes nodes moment term view uid (turned uid s1.kept.now r) (scene_on states s) (scene_on states s1) s.notes.now.list s1.notes.now.list (visit_in nodes moment term view uid (scene_on states s))

  -- of a node that is visited up to this turn
  abbrev pub VisitsBy : ℕ → Result Turn (Stop NodeFault) → List Node → ℕ → Type 0
  VisitsBy uid r nodes moment =
      (term : Term) (view : View) → CanVisit nodes moment term view uid (scene_on states s) →
      Goes nodes moment term view uid r (scene_on states s) (scene_on states s1) s.notes.now.list s1.notes.now.list (visit_in nodes moment term view uid (scene_on states s))

  -- of a node that goes on
  abbrev pub StepsBy : Step → Result Turn (Stop NodeFault) → List Node → ℕ → Type 0
  StepsBy step r nodes moment =
      (term : Term) (view : View) (rest : Done Answer Memory) → GoesOnBy nodes moment term view step.uid step (scene_on states s) rest →
      Goes nodes moment term view step.uid r (scene_on states s) (scene_on states s1) s.notes.now.list s1.notes.now.list rest

  -- of nodes that go on, up to a child or to the end
  abbrev pub ReachesBy : Heard → Result Reached (Stop NodeFault) → List Frame → List Frame → List Node → ℕ → Type 0
  ReachesBy heard r stack stack1 nodes moment =
      (root : Term) (start : Scene) (told : List Note) (whole : Done Answer Memory) → GoingOn nodes moment root 1 (next.GoOn heard) stack start (scene_on states s) told s.notes.now.list whole →
      Reaches nodes moment root 1 r stack1 start (scene_on states s) (scene_on states s1) told s1.notes.now.list whole

  -- of the end of a visit
  abbrev pub EndsBy : ℕ → Given → Result Answer (Stop NodeFault) → List Node → ℕ → Type 0
  EndsBy uid given r nodes moment =
      (term : Term) (view : View) → Fits term view uid nodes (scene_on states s) →
      Meets nodes moment (memory_of term uid) r (scene_on states s) (scene_on states s1) s.notes.now.list s1.notes.now.list
      (ended (site_at view uid term) (kept_at s.kept.now uid).status given (children_in term uid s.kept.now) (state_in nodes (scene_on states s) moment))

-- of a node that goes on at once, and changes nothing but its frame
abbrev pub GoesNextBy : {D P : Type 0} → (D → List DriverState) → Stage D P → Heard → Next → List Frame → List Frame → List Node → ℕ → Type 0
GoesNextBy states s heard nx stack stack1 nodes moment =
    (root : Term) (start : Scene) (told : List Note) (whole : Done Answer Memory) → GoingOn nodes moment root 1 (next.GoOn heard) stack start (scene_on states s) told s.notes.now.list whole →
    GoingOn nodes moment root 1 nx stack1 start (scene_on states s) told s.notes.now.list whole
