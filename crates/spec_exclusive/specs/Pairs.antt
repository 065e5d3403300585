-- The pairs of leaves with listed IDs that may be held together.
use Rattle.std.specs.Prelude.{ℕ, ◌+◌, List, [], ◌∷◌, ◌++◌, map, filter, find, Bool, true, false, ◌&&◌, not, if◌then◌else◌, nat_eq, Option}
use Rattle.std.specs.List.{flat_map, list_any}
use Rattle.std.specs.Str.{bytes_eq}
use Rattle.spec_tree.specs.declared.term.Kind.{Kind}
use Rattle.spec_tree.specs.declared.term.Kind.TheVariants.{Leaf}
use Rattle.spec_tree.specs.declared.term.Term.{Term, fold-Term}
use Rattle.spec_tree.specs.declared.term.Tree.{Tree}
use Rattle.spec_tree.specs.Terms.{leaf_ids}
use Rattle.spec_dead.specs.Dead.{dead_nodes}
use Rattle.spec_exclusive.specs.declared.meeting.Meeting.{Meeting}
use Rattle.spec_exclusive.specs.declared.meeting.Meeting.TheVariants.{Never, Handover, Together}
use Rattle.spec_exclusive.specs.declared.pair.Pair.{Pair}
use Rattle.spec_exclusive.specs.Meetings.{meetings}

-- ---- The leaves

-- whether an ID is among these
abbrev pub is_listed : List (List ℕ) → List ℕ → Bool
is_listed ids id = list_any (λ listed. bytes_eq listed id) ids

-- whether a node of this kind is a leaf, which a row stands for
abbrev pub is_leaf : Kind → Bool
is_leaf Leaf = true
is_leaf _ = false

-- for each node of a term in pre-order whether it is a leaf with a listed ID
abbrev pub listed_marks : List (List ℕ) → Term → List Bool
listed_marks ids = fold-Term (List Bool) (λ node. (is_leaf node.kind && is_listed ids node.id) ∷ flat_map (λ marks. marks) node.children)

-- the uids of the nodes that are marked, of nodes in pre-order of which the first has this uid
abbrev pub marked : ℕ → List Bool → List ℕ
marked uid [] = []
marked uid (true ∷ marks) = uid ∷ marked (uid + 1) marks
marked uid (false ∷ marks) = marked (uid + 1) marks

-- the leaves of a tree with listed IDs, by their uids in rising order
abbrev pub all_listed : List (List ℕ) → Tree → List ℕ
all_listed ids tree = marked 1 (listed_marks ids tree.term)

-- .. that are not dead
abbrev pub listed_leaves : List (List ℕ) → Tree → List ℕ
listed_leaves ids tree = filter (λ uid. not (list_any (nat_eq uid) (dead_nodes tree))) (all_listed ids tree)

-- the first of these IDs that no leaf of the tree has
abbrev pub missing_leaf : List (List ℕ) → Tree → Option (List ℕ)
missing_leaf ids tree = find (λ id. not (is_listed (leaf_ids tree.term) id)) ids

-- ---- The pairs

-- whether two leaves that meet so may be held together at some moment
abbrev pub may_meet : Meeting → Bool
may_meet Never = false
may_meet _ = true

-- two leaves that meet so
abbrev pub pair_of : ℕ → ℕ → Meeting → Pair
pair_of earlier later meeting = record { earlier = earlier; later = later; meeting = meeting }

-- the pairs of an earlier leaf and one of these later ones that may be held together, where it is known how they may meet
abbrev pub pairs_with : (ℕ → ℕ → Meeting) → ℕ → List ℕ → List Pair
pairs_with meeting earlier later =
    filter (λ (pair : Pair). may_meet pair.meeting)
    (map (λ uid. pair_of earlier uid (meeting earlier uid)) later)

-- the pairs of some leaves in order
abbrev pub pairs_among : (ℕ → ℕ → Meeting) → List ℕ → List Pair
pairs_among meeting [] = []
pairs_among meeting (leaf ∷ leaves) = pairs_with meeting leaf leaves ++ pairs_among meeting leaves

-- the pairs of leaves of a tree with listed IDs that may be held together, by the earlier leaf and then by the later one
abbrev pub meeting_pairs : List (List ℕ) → Tree → List Pair
meeting_pairs ids tree = pairs_among ((meetings tree.term).meeting 1) (listed_leaves ids tree)
