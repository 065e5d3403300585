-- Which leaves of a tree an expectation speaks of.
use Rattle.std.specs.Prelude.{ℕ, List, [], ◌∷◌, ◌++◌, map, slice_index_or, Bool, true, false, ◌&&◌}
use Rattle.std.specs.Str.{bytes_eq}
use Rattle.spec_tree.specs.declared.term.Term.{Term, Term-F, fold-Term}
use Rattle.spec_tree.specs.declared.term.Tree.{Tree}
use Rattle.spec_run.specs.Joins.{is_leaf}
use Rattle.spec_tree_file.specs.Patterns.{matches}
use Rattle.spec_tree_file.specs.Substitutions.{inside}
use Rattle.spec_expect.specs.declared.place.Pick.{Pick}
use Rattle.spec_expect.specs.declared.place.Pick.TheVariants.{ById, ByName, ByPath}
use Rattle.spec_expect.specs.declared.place.Place.{Place}

-- ---- Nodes and their paths

-- the nodes of some terms, one term after the other, where paths begin with this text
abbrev pub places_all : List (List ℕ → List Place) → List ℕ → List Place
places_all [] above = []
places_all (child ∷ children) above = child above ++ places_all children above

-- the nodes of a term in pre-order, where those of its children are known
abbrev pub places_step : Term-F (List ℕ → List Place) → List ℕ → List Place
places_step node above =
    record { kind = node.kind; id = node.id; name = node.name; path = above ++ node.name }
    ∷ places_all node.children (inside node.kind node.name above)

abbrev pub places_below : Term → List ℕ → List Place
places_below = fold-Term (List ℕ → List Place) places_step

-- the nodes of a tree in pre-order
abbrev pub places_of : Tree → List Place
places_of tree = places_below tree.term []

-- ---- Leaves

-- whether a node is told so
abbrev pub is_picked_so : Pick → Place → Bool
is_picked_so (ById id) place = bytes_eq id place.id
is_picked_so (ByName name) place = bytes_eq name place.name
is_picked_so (ByPath pattern) place = matches pattern place.path

-- whether a node is one of these leaves; built-in leaves are none
abbrev pub is_picked : Pick → Place → Bool
is_picked pick place = is_leaf place.kind && is_picked_so pick place

-- for each uid whether it is that of such a leaf; the uid 0 is no node's
abbrev pub marks_of : Pick → List Place → List Bool
marks_of pick places = false ∷ map (is_picked pick) places

-- whether the leaf of a uid is one of those that are marked
abbrev pub is_marked : List Bool → ℕ → Bool
is_marked marks uid = slice_index_or marks uid false
