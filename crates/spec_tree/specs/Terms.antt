-- What is counted over a term.
use Rattle.std.specs.List.{flat_map}
use Rattle.spec_script.specs.Numbers.{greatest}
use Rattle.std.specs.Prelude.{ℕ, ◌+◌, ◌*◌, List, [], ◌∷◌, ◌++◌, sum, negsuc, unsigned_abs, if◌then◌else◌}
use Rattle.std.specs.Ordering.{int_eq}
use Rattle.spec_script.specs.declared.value.Value.TheVariants.{Int, Text}
use Rattle.spec_tree.specs.Limits.{most_turns}
use Rattle.spec_tree.specs.declared.term.Port.{Port}
use Rattle.spec_tree.specs.declared.term.PortValue.{PortValue}
use Rattle.spec_tree.specs.declared.term.PortValue.TheVariants.{Lit, Key}
use Rattle.spec_tree.specs.declared.term.Term.{Term, fold-Term}
use Rattle.spec_tree.specs.declared.term.Kind.{Kind}
use Rattle.spec_tree.specs.declared.term.Kind.TheVariants.{Leaf, RecoveryNode, Repeat, Retry, SubTree}

-- the nodes of a term: a node, and those of its children
abbrev pub node_count : Term → ℕ
node_count = fold-Term ℕ (λ node. 1 + sum node.children)

-- the depth of a term: a node without children has depth 1
abbrev pub depth_of : Term → ℕ
depth_of = fold-Term ℕ (λ node. 1 + greatest node.children)

-- the ID of a node that is a leaf, and no other
abbrev pub own_leaf_id : Kind → List ℕ → List (List ℕ)
own_leaf_id Leaf id = id ∷ []
own_leaf_id _ id = []

-- the IDs of the leaves of a term in pre-order
abbrev pub leaf_ids : Term → List (List ℕ)
leaf_ids = fold-Term (List (List ℕ)) (λ node. own_leaf_id node.kind node.id ++ flat_map (λ ids. ids) node.children)

-- how often a Retry or a Repeat visits its child at most in one visit, and a RecoveryNode its second child: by its one
-- port, once where it counts nothing, and 1000 times where a key is read
abbrev pub turns_given : PortValue → ℕ
turns_given (Key key) = most_turns
turns_given (Lit (Int n)) = if int_eq n (negsuc 0) then 1 else unsigned_abs n
turns_given (Lit (Text text)) = 1

-- how often it visits its child by its ports, of which the limit is the first
abbrev pub turns_of : List Port → ℕ
turns_of [] = 1
turns_of (port ∷ ports) = turns_given port.value

-- how often a node of this kind visits its children at most in one visit
abbrev pub times_of : Kind → List Port → ℕ
times_of Retry ports = turns_of ports
times_of Repeat ports = turns_of ports
times_of RecoveryNode ports = turns_of ports
times_of kind ports = 1

-- the work of the child that is visited once more than the others, where these are the works of the children: the
-- first one of a RecoveryNode, with which its visit begins
abbrev pub once_more : Kind → List ℕ → ℕ
once_more RecoveryNode (first ∷ others) = first
once_more kind works = 0

-- the work of a term: how many visits one visit of its root makes at most
abbrev pub work_of : Term → ℕ
work_of = fold-Term ℕ (λ node. 1 + (times_of node.kind node.ports * sum node.children + once_more node.kind node.children))

-- the scopes that a node opens: a SubTree node opens one
abbrev pub own_scopes : Kind → ℕ
own_scopes SubTree = 1
own_scopes _ = 0

-- the scopes that stand in a term beside the one in which it stands
abbrev pub scope_count : Term → ℕ
scope_count = fold-Term ℕ (λ node. own_scopes node.kind + sum node.children)
