-- The rules of states: what holds of a node and all below it at each point of a run, and that each part of an
-- event keeps it.
use Rattle.std.specs.Prelude.{ℕ, ◌+◌, ◌<◌, ◌≤◌, ◌≡◌, List, [], ◌∷◌, length, map, Bool, true, false, is_some, slice_get, Option, Some, None, option_map, Result, Ok, Err}
use Rattle.spec_run.specs.declared.fault.NodeFault.{NodeFault}
use Rattle.spec_run.specs.declared.leaf.Instance.{Instance}
use Rattle.spec_run.specs.declared.leaf.Phase.{Phase}
use Rattle.spec_run.specs.declared.leaf.Phase.TheVariants as phase
use Rattle.spec_run.specs.declared.memory.Memo.{Memo}
use Rattle.spec_run.specs.declared.memory.Memory.{Memory, out-Memory}
use Rattle.spec_run.specs.declared.status.Status.{Status}
use Rattle.spec_run.specs.declared.status.Status.TheVariants.{Running}
use Rattle.spec_tree.specs.declared.term.Kind.{Kind}
use Rattle.spec_tree.specs.declared.term.Kind.TheVariants.{Leaf}
use Rattle.spec_tree.specs.declared.term.Port.{Port}
use Rattle.spec_tree.specs.declared.term.Term.{Term, Term-F, rec-Term}
use Rattle.spec_world.specs.declared.world.Row.{Row}
use Rattle.spec_run.specs.Done.{Call, Done, State}
use Rattle.spec_run.specs.Leaves.{row_of}
use Rattle.spec_run.specs.Run.{RunState, Runner, settled, state_of}
use Rattle.base_tables.specs.Shapes.{Shape}
use Rattle.spec_run.specs.Sites.{sizes}
use Rattle.spec_run.specs.Visit.{meaning}

-- ---- One node

-- whether the instance of this uid is held, where there is one
abbrev pub held_at : State → ℕ → Option Bool
held_at s uid = option_map (λ (i : Instance). is_some i.since) (slice_get s.instances uid)

-- an instance is held exactly where its leaf is RUNNING
abbrev pub is_held : Status → Kind → Bool
is_held Running Leaf = true
is_held _ kind = false

-- the statuses that some memories have
abbrev pub statuses : List Memory → List Status
statuses ms = map (λ (m : Memory). (out-Memory m).status) ms

-- the rule of one node, with its row where it is a leaf
pub record NodeRule (kind : Kind) (ports : List Port) (row : Option Row) (uid : ℕ) (status : Status) (memo : Memo) (children : List Memory) (s : State) : Type 0 where
  pub shape : Shape status kind ports row s.moment memo (statuses children)
  pub held : held_at s uid ≡ Some (is_held status kind)

-- ---- A node and all below it

-- a rule that is asked only of nodes off the path to a fault, that is, of a node that does not have the faulty one
-- among itself and the nodes below it: `size` nodes from its uid on
abbrev pub OffPath : Option ℕ → ℕ → ℕ → Type 0 → Type 0
OffPath None uid size Rule = Rule
OffPath (Some fault) uid size Rule = (uid ≤ fault → fault < uid + size → ⊥) → Rule

-- the rules of a term: over the rows of a world, of its uid, its memory and the state, but for the path to a fault
abbrev pub States : Type 1
States = List Row → Option ℕ → ℕ → Memory → State → Type 0

-- the rules of some terms in order, of which the first has this uid
abbrev pub Sounds : {X : Type 0} → (X → ℕ) → (X → States) → List X → List Row → Option ℕ → ℕ → List Memory → State → Type 0
Sounds size rules [] rows fault uid [] s = Unit {0}
Sounds size rules (c ∷ cs) rows fault uid (m ∷ ms) s = rules c rows fault uid m s × Sounds size rules cs rows fault (uid + size c) ms s
Sounds size rules _ rows fault uid _ s = ⊥

-- the rule of a node, and those of its children
abbrev pub states_of_node : (X : Type 0) → (X → Term) → (X → States) → Term-F X → States
states_of_node X term rules node rows fault uid m s =
    OffPath fault uid (1 + sizes (map (λ c. meaning (term c)) node.children))
    (NodeRule node.kind node.ports (row_of rows node.id) uid (out-Memory m).status (out-Memory m).memo (out-Memory m).children s)
    × Sounds (λ c. (meaning (term c)).size) rules node.children rows fault (uid + 1) (out-Memory m).children s

-- all nodes of a term keep their rules, but for those on the path to a fault
abbrev pub Sound : Term → States
Sound = rec-Term States states_of_node

-- ---- What a part of an event leaves

-- no instance is held since a moment after that of the event
abbrev pub Dated : State → Type 0
Dated s = (p since : ℕ) → option_map (λ (i : Instance). i.since) (slice_get s.instances p) ≡ Some (Some since) → since ≤ s.moment

-- the instances of other nodes than these stay as they were, and there are as many slots, facts and instances
pub record Within (uid size : ℕ) (s s1 : State) : Type 0 where
  pub below : (p : ℕ) → p < uid → slice_get s1.instances p ≡ slice_get s.instances p
  pub above : (p : ℕ) → uid + size ≤ p → slice_get s1.instances p ≡ slice_get s.instances p
  pub slots : length s1.board ≡ length s.board
  pub facts : length s1.facts ≡ length s.facts
  pub instances : length s1.instances ≡ length s.instances
  pub moment : s1.moment ≡ s.moment
  pub dated : Dated s → Dated s1

-- the uid of the node that faulted
abbrev pub fault_of : {A : Type 0} → Result A NodeFault → Option ℕ
fault_of (Ok a) = None
fault_of (Err f) = Some f.uid

-- a part of an event ends with an answer that fits its memory and the state, or with a fault of one of these nodes
abbrev pub EndsWith : {A M : Type 0} → (A → M → State → Type 0) → ℕ → ℕ → Result A NodeFault → M → State → Type 0
EndsWith fits uid size (Ok a) m s = fits a m s
EndsWith fits uid size (Err f) m s = (uid ≤ f.uid) × (f.uid < uid + size)

-- what a part of an event that began in a state leaves of these nodes: their rules, but for the path to its fault
pub record Left {A M : Type 0} (rules : Option ℕ → M → State → Type 0) (fits : A → M → State → Type 0) (uid size : ℕ) (s : State) (answer : Result A NodeFault) (m1 : M) (s1 : State) : Type 0 where
  pub sound : rules (fault_of answer) m1 s1
  pub within : Within uid size s s1
  pub ends : EndsWith fits uid size answer m1 s1

-- what a part of an event leaves, by all that it leaves
abbrev pub Leaves : {A M : Type 0} → (Option ℕ → M → State → Type 0) → (A → M → State → Type 0) → ℕ → ℕ → State → Done A M → Type 0
Leaves rules fits uid size s d = Left rules fits uid size s d.answer d.memory d.state

-- ---- Between events

-- what holds of a runner between events at a moment: all nodes keep their rules, the root is IDLE or RUNNING, there is
-- an instance for each uid, and none is held since a later moment
pub record Steady (term : Term) (rows : List Row) (m : Memory) (s : State) : Type 0 where
  pub sound : Sound term rows None 1 m s
  pub root : settled (out-Memory m).status ≡ (out-Memory m).status
  pub room : 1 + (meaning term).size ≤ length s.instances
  pub dated : Dated s

-- .. and of every runner of a run
abbrev pub RunSteady : Term → List Row → RunState → Type 0
RunSteady term rows run =
    (runner : ℕ) (r : Runner) → slice_get run.runners runner ≡ Some r → Steady term rows r.memory (state_of r run.facts run.last)

-- ---- Work

-- a call of `halted` begins no work; no visit tells a leaf anything
abbrev pub begins : Phase → ℕ
begins phase.Halted = 0
begins _ = 1

-- how many of these calls are calls of start and running
abbrev pub begun_calls : List Call → ℕ
begun_calls [] = 0
begun_calls (c ∷ cs) = begins c.phase + begun_calls cs
