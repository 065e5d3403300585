-- What is told of each node of a tree.
use Rattle.std.specs.Prelude.{ℕ, ◌+◌, List, [], ◌∷◌, ◌++◌, length}
use Rattle.spec_tree.specs.declared.term.Term.{Term, Term-F, fold-Term}
use Rattle.spec_tree.specs.declared.term.Tree.{Tree}
use Rattle.spec_tree.specs.Boards.{children_scope_number}
use Rattle.spec_tree_file.specs.Substitutions.{inside}
use Rattle.spec_session.specs.declared.label.Label.{Label}

-- the nodes of some terms, one term after the other, from a uid on, in the scope of a number, where paths begin with this
abbrev pub labels_all : List (ℕ → ℕ → List ℕ → List Label) → ℕ → ℕ → List ℕ → List Label
labels_all [] uid scope above = []
labels_all (child ∷ children) uid scope above =
    child uid scope above ++ labels_all children (uid + length (child uid scope above)) scope above

-- a node, in the scope of a number, where paths begin with this
abbrev pub label_of : {X : Type 0} → Term-F X → ℕ → List ℕ → Label
label_of node scope above =
    record { kind = node.kind; id = node.id; name = node.name; path = above ++ node.name; scope = scope; ports = node.ports }

-- the nodes of a term in pre-order, where those of its children are known
abbrev pub labels_step : Term-F (ℕ → ℕ → List ℕ → List Label) → ℕ → ℕ → List ℕ → List Label
labels_step node uid scope above =
    label_of node scope above
    ∷ labels_all node.children (uid + 1) (children_scope_number node.kind uid scope) (inside node.kind node.name above)

abbrev pub labels_from : Term → ℕ → ℕ → List ℕ → List Label
labels_from = fold-Term (ℕ → ℕ → List ℕ → List Label) labels_step

-- the nodes of a tree in pre-order, by their uid, which begins at 1
abbrev pub labels : Tree → List Label
labels tree = labels_from tree.term 1 0 []
