-- The element that a tree is printed as.
use Rattle.std.specs.Prelude.{ℕ, if◌then◌else◌, List, [], ◌∷◌, ◌++◌, map, codes}
use Rattle.std.specs.List.{flat_map, list_any}
use Rattle.std.specs.Str.{bytes_eq}
use Rattle.spec_tree_file.specs.declared.element.Element.{Element, roll-Element}
use Rattle.spec_tree.specs.declared.term.Kind.{Kind}
use Rattle.spec_tree.specs.declared.term.Kind.TheVariants.{SubTree}
use Rattle.spec_tree.specs.declared.term.Term.{Term, Term-F, fold-Term}
use Rattle.spec_tree.specs.declared.term.Tree.{Tree}
use Rattle.spec_tree.specs.PrintedTree.{Attribute, element_name, node_attributes, root_attributes, written_below}

-- an element that has no place yet
abbrev pub element : List ℕ → List Attribute → List Element → Element
element name attributes children = roll-Element (record { name = name; attributes = attributes; children = children; place = 0 })

-- a tree by its ID, with the elements in it
abbrev pub Subtree : Type 0
Subtree = List ℕ × List Element

-- what is printed of a term: its element, and the trees that it opens, in pre-order
pub record Said : Type 0 where
  pub node : Element
  pub opened : List Subtree

-- the tree that a node opens itself
abbrev pub own_tree : Kind → List ℕ → List Element → List Subtree
own_tree SubTree id below = (id, below) ∷ []
own_tree kind id below = []

abbrev pub said_node : Term-F Said → Said
said_node f =
    let below = map (λ (c : Said). c.node) f.children in
    record {
      node = element (element_name f.kind f.id) (node_attributes f) (written_below f.kind below);
      opened = own_tree f.kind f.id below ++ flat_map (λ (c : Said). c.opened) f.children;
    }

abbrev pub said : Term → Said
said = fold-Term Said said_node

-- a tree is added, unless one of its ID is there already
abbrev pub with_subtree : List Subtree → Subtree → List Subtree
with_subtree trees t = if list_any (λ (known : Subtree). bytes_eq t.0 known.0) trees then trees else trees ++ t ∷ []

abbrev pub with_subtrees : List Subtree → List Subtree → List Subtree
with_subtrees trees [] = trees
with_subtrees trees (t ∷ ts) = with_subtrees (with_subtree trees t) ts

-- the main tree, and then each tree that is opened, once, in the order of their first openings
abbrev pub subtrees_of : Tree → List Subtree
subtrees_of tree = with_subtrees ((tree.main, (said tree.term).node ∷ []) ∷ []) (said tree.term).opened

abbrev pub subtree_element : Subtree → Element
subtree_element t = element (codes "BehaviorTree") ((codes "ID", t.0) ∷ []) t.1

-- the document element of the printed tree
abbrev pub element_of : Tree → Element
element_of tree = element (codes "root") (root_attributes tree) (map subtree_element (subtrees_of tree))
