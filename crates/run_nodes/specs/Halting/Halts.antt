-- The parts of a halt, and what must hold of the nodes that are halted.
use Rattle.std.specs.Prelude.{◌≡◌, ◌+◌, ◌<◌, ◌≤◌, ℕ, List, [], ◌∷◌, Bool, true, false, Option, Some, None, slice_set}
use Rattle.spec_run.specs.declared.leaf.Phase.TheVariants as phase
use Rattle.spec_run.specs.declared.memory.Memo.{Memo}
use Rattle.spec_run.specs.declared.memory.Memory.{Memory}
use Rattle.spec_run.specs.declared.moves.Span.{Span}
use Rattle.spec_run.specs.declared.note.Note.TheVariants.{Changed, Halted}
use Rattle.spec_run.specs.declared.status.Status.TheVariants.{Idle, Running}
use Rattle.spec_tree.specs.declared.term.Term.{Term}
use Rattle.spec_run.specs.Done.{Done, State, following, done}
use Rattle.spec_run.specs.Drivers.{DriverState}
use Rattle.spec_run.specs.Leaf.{released}
use Rattle.spec_run.specs.Leaves.{instance_at}
use Rattle.spec_run.specs.Sites.{View, children_of, remembered}
use Rattle.spec_run.specs.Steps.{resets}
use Rattle.spec_run.specs.Visit.{cleared, halt, halted, meaning}
use Rattle.run_arena.specs.declared.nodes.Kept.{Kept}
use Rattle.run_arena.specs.declared.nodes.Node.{Node}
use Rattle.run_arena.specs.declared.nodes.ReadyLeaf.{ReadyLeaf}
use Rattle.run_arena.specs.declared.stage.Stage.{Stage}
use Rattle.run_arena.specs.Nodes.{kept_at, leaf_at, node_at}
use Rattle.run_arena.specs.Scenes.{Scene}
use Rattle.run_arena.specs.Stages.{state_on}
use Rattle.run_arena.specs.Stands.{memory_of}
use Rattle.run_nodes.specs.Here.{children_in, site_at}

-- each RUNNING leaf among a node and all below it has the mark of a held one
abbrev pub RunningAreHeld : List Node → List Kept → ℕ → Type 0
RunningAreHeld nodes kept uid =
    (p : ℕ) (leaf : ReadyLeaf) → uid ≤ p → p < uid + (node_at nodes uid).size →
    leaf_at nodes p ≡ Some leaf → (kept_at kept p).status ≡ Running → (kept_at kept p).held ≡ true

-- a leaf's driver is called `halted`, with a note
abbrev pub leaf_released : Option ReadyLeaf → ℕ → State → Done (Unit {0}) (Unit {0})
leaf_released (Some leaf) uid s =
    following (Halted uid ∷ []) (record { uid = uid; phase = phase.Halted; left = released (instance_at s uid) } ∷ [])
    (done tt tt (record s { instances = slice_set s.instances uid (released (instance_at s uid)) }))
leaf_released None uid s = done tt tt s

-- a RUNNING node comes to rest, with a note
abbrev pub rests : ℕ → State → Done (Unit {0}) (Unit {0})
rests uid s = following (Changed uid Running Idle ∷ []) [] (done tt tt s)

-- a node is IDLE with this memo, and its mark is as it was
abbrev pub idle_with : Scene → ℕ → Memo → Scene
idle_with s uid memo = record s { kept = slice_set s.kept uid (record { status = Idle; memo = memo; held = (kept_at s.kept uid).held }) }

-- a term is reset, or nothing is done
abbrev pub reset_if : Bool → Term → View → ℕ → Memory → State → Done (Unit {0}) Memory
reset_if true term view uid m s = (meaning term).reset view uid m s
reset_if false term view uid m s = done tt m s

-- ---- On a stage

-- the halt of the term that stands there from this uid on
abbrev pub halt_on : {D P : Type 0} → (D → List DriverState) → Stage D P → ℕ → Term → View → Done (Unit {0}) Memory
halt_on states s uid term view = halt (site_at view uid term) (memory_of term uid s.kept.now) (state_on states s)

-- its reset
abbrev pub reset_on : {D P : Type 0} → (D → List DriverState) → Stage D P → ℕ → Term → View → Done (Unit {0}) Memory
reset_on states s uid term view = (meaning term).reset view uid (memory_of term uid s.kept.now) (state_on states s)

-- its reset, or nothing
abbrev pub reset_if_on : {D P : Type 0} → (D → List DriverState) → Stage D P → Bool → ℕ → Term → View → Done (Unit {0}) Memory
reset_if_on states s wanted uid term view = reset_if wanted term view uid (memory_of term uid s.kept.now) (state_on states s)

-- what comes after the resets of its children
abbrev pub halted_on : {D P : Type 0} → (D → List DriverState) → Stage D P → ℕ → Term → View → Done (Unit {0}) Memory
halted_on states s uid term view =
    halted (site_at view uid term) (remembered Idle (cleared (kept_at s.kept.now uid).memo) (children_in term uid s.kept.now)) (state_on states s)

-- its driver is called `halted`, where it has one
abbrev pub released_on : {D P : Type 0} → (D → List DriverState) → Stage D P → ℕ → Done (Unit {0}) (Unit {0})
released_on states s uid = leaf_released (leaf_at s.nodes.now uid) uid (state_on states s)

-- the resets of its children that a span has
abbrev pub resets_on : {D P : Type 0} → (D → List DriverState) → Stage D P → ℕ → Span → Term → View → Done (Unit {0}) (List Memory)
resets_on states s uid span term view = resets span (children_of (site_at view uid term)) 0 (children_in term uid s.kept.now) (state_on states s)

-- each RUNNING leaf among the node with this uid and all below it has the mark of a held one
abbrev pub RunningAreHeldOn : {D P : Type 0} → Stage D P → ℕ → Type 0
RunningAreHeldOn s uid = RunningAreHeld s.nodes.now s.kept.now uid

-- if the node with this uid is a leaf, it has that mark
abbrev pub LeafIsHeldOn : {D P : Type 0} → Stage D P → ℕ → Type 0
LeafIsHeldOn s uid = (leaf : ReadyLeaf) → leaf_at s.nodes.now uid ≡ Some leaf → (kept_at s.kept.now uid).held ≡ true
