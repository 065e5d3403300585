-- A node of a term where it stands in an arena.
use Rattle.std.specs.Prelude.{◌≡◌, ◌+◌, ◌<◌, ℕ, List, length, map, Result, Ok, Err}
use Rattle.base_texts.specs.declared.stop.Stop.{Stop}
use Rattle.base_texts.specs.declared.stop.Stop.TheVariants.{Fault}
use Rattle.spec_run.specs.declared.fault.NodeFault.{NodeFault}
use Rattle.spec_run.specs.declared.memory.Memory.{Memory}
use Rattle.spec_run.specs.declared.status.Answer.{Answer}
use Rattle.spec_tree.specs.declared.term.Term.{Term, Term-F, out-Term}
use Rattle.spec_tree.specs.declared.term.Term.TheFolds.{map-Term}
use Rattle.spec_run.specs.Done.{Done}
use Rattle.spec_run.specs.Drivers.{DriverState, is_held}
use Rattle.spec_run.specs.Leaves.{leaf_call, row_of}
use Rattle.spec_run.specs.Sites.{Meaning, Site, View, sizes}
use Rattle.spec_run.specs.Steps.{Given}
use Rattle.spec_run.specs.Visit.{ended, meaning, node_rule, ruled, site_of}
use Rattle.run_arena.specs.declared.nodes.Kept.{Kept}
use Rattle.run_arena.specs.declared.nodes.Node.{Node}
use Rattle.run_arena.specs.declared.stage.Stage.{Stage}
use Rattle.run_arena.specs.Nodes.{IsNode, kept_at, node_at}
use Rattle.run_arena.specs.Rosters.{AreServed, instances_of}
use Rattle.run_arena.specs.Scenes.{Scene, marks_of, state_in}
use Rattle.run_arena.specs.Stages.{scene_on, state_on}
use Rattle.run_arena.specs.Stands.{memories_of, written}

-- a term at its place
abbrev pub site_at : View → ℕ → Term → Site
site_at view uid term = site_of (map-Term Term Meaning meaning (out-Term term)) view uid

-- what the children of a term at this uid remember
abbrev pub children_in : Term → ℕ → List Kept → List Memory
children_in term uid = memories_of (out-Term term).children (uid + 1)

-- the visit of a node of a term in a scene, from its rule on
abbrev pub ruled_in : List Node → ℕ → Term → View → ℕ → Scene → Done Answer Memory
ruled_in nodes moment term view uid s =
    ruled (site_at view uid term) (kept_at s.kept uid).status (kept_at s.kept uid).memo (children_in term uid s.kept) (state_in nodes s moment)

-- A node of a term is the one of this uid in an arena: the marks say which instances are held, the leaves are served,
-- and there are as many slots and facts as the view has.
pub record FitsHere (term : Term-F Meaning) (view : View) (uid : ℕ) (nodes : List Node) (s : Scene) : Type 0 where
  pub there : uid < length nodes
  pub node : IsNode view (written term) (1 + sizes term.children) (node_at nodes uid)
  pub marks : marks_of s.kept ≡ map is_held (instances_of nodes s.drivers)
  pub leaves : AreServed s.drivers nodes
  pub slots : length s.board ≡ length view.slots
  pub facts : length s.facts ≡ length view.facts

-- an answer or a fault, given by a call in which there might be want of memory (out of memory)
abbrev pub in_stop : {A : Type 0} → Result A NodeFault → Result A (Stop NodeFault)
in_stop (Ok a) = Ok a
in_stop (Err fault) = Err (Fault fault)

-- ---- A node of a term on a stage

-- it is the one of this uid
abbrev pub FitsHereOn : {D P : Type 0} → (D → List DriverState) → Stage D P → ℕ → Term-F Meaning → View → Type 0
FitsHereOn states s uid term view = FitsHere term view uid s.nodes.now (scene_on states s)

-- its rule
abbrev pub rule_on : {D P : Type 0} → (D → List DriverState) → Stage D P → ℕ → Term-F Meaning → View → List Memory → Done Given (List Memory)
rule_on states s uid term view ms =
    node_rule term.kind (site_of term view uid) (kept_at s.kept.now uid).status (kept_at s.kept.now uid).memo ms (state_on states s)

-- the call of its driver, where it is a leaf
abbrev pub call_on : {D P : Type 0} → (D → List DriverState) → Stage D P → ℕ → Term-F Meaning → View → List Memory → Done Given (List Memory)
call_on states s uid term view ms =
    leaf_call (row_of view.rows term.id) (site_of term view uid) (kept_at s.kept.now uid).status ms (state_on states s)

-- its visit from its rule on
abbrev pub ruled_on : {D P : Type 0} → (D → List DriverState) → Stage D P → ℕ → Term → View → Done Answer Memory
ruled_on states s uid term view = ruled_in s.nodes.now s.moment term view uid (scene_on states s)

-- the end of its visit with this answer and this memo
abbrev pub ended_on : {D P : Type 0} → (D → List DriverState) → Stage D P → ℕ → Given → Term → View → Done Answer Memory
ended_on states s uid given term view =
    ended (site_at view uid term) (kept_at s.kept.now uid).status given (children_in term uid s.kept.now) (state_on states s)
