-- What it means that a term stands in an arena, and what its nodes keep there.
use Rattle.std.specs.Prelude.{ℕ, ◌+◌, ◌<◌, ◌≤◌, ◌≡◌, List, [], ◌∷◌, length, map, sum_by, take}
use Rattle.spec_run.specs.declared.memory.Memory.{Memory}
use Rattle.spec_tree.specs.declared.term.Term.{Term, Term-F, fold-Term, rec-Term}
use Rattle.spec_tree.specs.Boards.{children_scope}
use Rattle.spec_run.specs.Sites.{View, remembered, sizes}
use Rattle.spec_tree.specs.Trees.{Node as TreeNode}
use Rattle.spec_run.specs.Visit.{meaning}
use Rattle.run_arena.specs.declared.nodes.Kept.{Kept}
use Rattle.run_arena.specs.declared.nodes.Node.{Node}
use Rattle.run_arena.specs.Nodes.{IsNode, kept_at, node_at}

-- ---- Nodes

-- a node of a term, with the number of its children in their place
abbrev pub written : {X : Type 0} → Term-F X → TreeNode
written node = record {
  kind = node.kind;
  id = node.id;
  name = node.name;
  ports = node.ports;
  code = node.code;
  guards = node.guards;
  autoremap = node.autoremap;
  children = length node.children;
}

-- what the children of the node with this uid see
abbrev pub view_under : View → ℕ → TreeNode → View
view_under view uid node = record view { scope = children_scope node.kind uid node.ports node.autoremap view.scope }

-- what says whether something stands among the nodes of an arena, in a view, from a uid on
abbrev pub Standing : Type 1
Standing = List Node → View → ℕ → Type 0

-- items stand in order, each after all that belongs to the one before
abbrev pub StandInOrder : {X : Type 0} → (X → ℕ) → (X → Standing) → List X → Standing
StandInOrder size stands [] nodes view uid = Unit {0}
StandInOrder size stands (c ∷ cs) nodes view uid = stands c nodes view uid × StandInOrder size stands cs nodes view (uid + size c)

-- the uids of items in order, from this one on
abbrev pub uids_in_order : {X : Type 0} → (X → ℕ) → List X → ℕ → List ℕ
uids_in_order size [] uid = []
uids_in_order size (c ∷ cs) uid = uid ∷ uids_in_order size cs (uid + size c)

-- a node, and its children after it
abbrev pub node_stands : (X : Type 0) → (X → Term) → (X → Standing) → Term-F X → Standing
node_stands X term stands node nodes view uid =
    (uid < length nodes)
    × IsNode view (written node) (1 + sizes (map (λ c. meaning (term c)) node.children)) (node_at nodes uid)
    × StandInOrder (λ c. (meaning (term c)).size) stands node.children nodes (view_under view uid (written node)) (uid + 1)
    × ((node_at nodes uid).child_uids ≡ uids_in_order (λ c. (meaning (term c)).size) node.children (uid + 1))

-- A term stands in an arena: the nodes from this uid on are those of the term in pre-order, in this view. Several
-- terms stand there one after the other.
abbrev pub Stands : Term → Standing
Stands = rec-Term Standing node_stands

abbrev pub StandAll : List Term → Standing
StandAll = StandInOrder (λ t. (meaning t).size) Stands

-- the uids of terms that stand in order, from this one on
abbrev pub uids_of : List Term → ℕ → List ℕ
uids_of = uids_in_order (λ t. (meaning t).size)

-- ---- Memories

-- a term as its memory is read: its size, and its memory from what the nodes from a uid on keep
pub record Reading : Type 0 where
  pub size : ℕ
  pub memory : ℕ → List Kept → Memory

abbrev pub memories : List Reading → ℕ → List Kept → List Memory
memories [] uid kept = []
memories (c ∷ cs) uid kept = c.memory uid kept ∷ memories cs (uid + c.size) kept

abbrev pub reading_of_node : Term-F Reading → Reading
reading_of_node node = record {
  size = 1 + sum_by (λ (c : Reading). c.size) node.children;
  memory = λ uid kept. remembered (kept_at kept uid).status (kept_at kept uid).memo (memories node.children (uid + 1) kept);
}

abbrev pub reading : Term → Reading
reading = fold-Term Reading reading_of_node

-- The memory of a term that stands in an arena from this uid on, and of several terms, each after the one before.
abbrev pub memory_of : Term → ℕ → List Kept → Memory
memory_of term = (reading term).memory

abbrev pub memories_of : List Term → ℕ → List Kept → List Memory
memories_of terms = memories (map reading terms)

-- the uid of the term at a place, where the first of the terms has this uid
abbrev pub uid_of : List Term → ℕ → ℕ → ℕ
uid_of terms uid place = uid + sizes (map meaning (take place terms))

-- these nodes keep the same in both
abbrev pub IsKeptAlike : ℕ → ℕ → List Kept → List Kept → Type 0
IsKeptAlike uid size before after = (p : ℕ) → uid ≤ p → p < uid + size → kept_at before p ≡ kept_at after p

-- the other nodes keep what they kept before
pub record Beside (uid size : ℕ) (before after : List Kept) : Type 0 where
  pub below : (p : ℕ) → p < uid → kept_at after p ≡ kept_at before p
  pub above : (p : ℕ) → uid + size ≤ p → kept_at after p ≡ kept_at before p
  pub as_many : length after ≡ length before
