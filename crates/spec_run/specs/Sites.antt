-- A node where it stands in a tree, what a term means, and what a node remembers.
use Rattle.std.specs.Prelude.{ℕ, ◌+◌, List, [], ◌∷◌, sum_by, slice_index_or, slice_set}
use Rattle.spec_tree.specs.declared.cell.Cell.{Cell}
use Rattle.spec_run.specs.declared.memory.Memo.{Memo}
use Rattle.spec_run.specs.declared.memory.Memo.TheVariants.{Nothing}
use Rattle.spec_run.specs.declared.memory.Memory.{Memory, out-Memory, roll-Memory}
use Rattle.spec_run.specs.declared.status.Answer.{Answer}
use Rattle.spec_run.specs.declared.status.Status.{Status}
use Rattle.spec_run.specs.declared.status.Status.TheVariants.{Idle}
use Rattle.spec_tree.specs.declared.term.Term.{Term-F}
use Rattle.spec_world.specs.declared.world.Fact.{Fact}
use Rattle.spec_world.specs.declared.world.Row.{Row}
use Rattle.spec_tree.specs.Boards.{Scope, children_scope, names_in}
use Rattle.spec_run.specs.Done.{Done, State}
use Rattle.spec_run.specs.Steps.{Child}

-- what a node sees beside its memory and the state: the rows and the facts of the world, the cells of the
-- tree by slot, and the scope in which it stands
pub record View : Type 0 where
  pub rows : List Row
  pub facts : List Fact
  pub slots : List Cell
  pub scope : Scope

-- what a term means: how many nodes it has, and what a reset and a visit of it do, from what is seen, its
-- uid, its memory and the state on
pub record Meaning : Type 0 where
  pub size : ℕ
  pub reset : View → ℕ → Memory → State → Done (Unit {0}) Memory
  pub visit : View → ℕ → Memory → State → Done Answer Memory

-- a node in its place, with the meaning of each child in the child's place
pub record Site : Type 0 where
  pub node : Term-F Meaning
  pub uid : ℕ
  pub view : View

-- the slot of a key in the scope in which the node stands
abbrev pub slot_at : Site → List ℕ → ℕ
slot_at site key = names_in site.view.slots site.view.scope key

-- how many nodes some terms have
abbrev pub sizes : List Meaning → ℕ
sizes cs = sum_by (λ (c : Meaning). c.size) cs

-- a node's memory
abbrev pub remembered : Status → Memo → List Memory → Memory
remembered status memo children = roll-Memory (record { status = status; memo = memo; children = children })

-- the memory at a place; there is none after the last child
abbrev pub memory_at : List Memory → ℕ → Memory
memory_at ms place = slice_index_or ms place (remembered Idle Nothing [])

-- what the child at this place has done, with its memory among those of the others
abbrev pub placed : {A : Type 0} → ℕ → List Memory → Done A Memory → Done A (List Memory)
placed place ms d = record { answer = d.answer; memory = slice_set ms place d.memory; state = d.state; notes = d.notes; calls = d.calls }

-- a child as its parent sees it
abbrev pub child_of : View → Meaning → ℕ → ℕ → Child
child_of view c uid place = record {
  status = λ ms. (out-Memory (memory_at ms place)).status;
  reset = λ ms s. placed place ms (c.reset view uid (memory_at ms place) s);
  visit = λ ms s. placed place ms (c.visit view uid (memory_at ms place) s);
}

-- children in order, of which the first has this uid and this place
abbrev pub children_from : View → List Meaning → ℕ → ℕ → List Child
children_from view [] uid place = []
children_from view (c ∷ cs) uid place = child_of view c uid place ∷ children_from view cs (uid + c.size) (place + 1)

-- the children of a node, in the scope in which they stand
abbrev pub view_below : Site → View
view_below site = record site.view { scope = children_scope site.node.kind site.uid site.node.ports site.node.autoremap site.view.scope }

-- the children of a node, as it sees them
abbrev pub children_of : Site → List Child
children_of site = children_from (view_below site) site.node.children (site.uid + 1) 0
