-- The lines of a printed tree are those of its element.
use Rattle.std.proofs.Common.{◌≡◌, ◌≤◌, ℕ, Bool, ◌||◌, if◌then◌else◌, List, [], ◌∷◌, ◌++◌, map, refl, ap, sym, ◌∙◌, subst, arith, codes, true, false}
use Rattle.std.proofs.lemmas.List.{map-append}
use Rattle.std.specs.List.{concat, flat_map, list_any}
use Rattle.std.specs.Str.{bytes_eq}
use Rattle.spec_tree_file.specs.declared.element.Element.{Element, fold-roll-Element}
use Rattle.spec_tree.specs.declared.term.Kind.{Kind}
use Rattle.spec_tree.specs.declared.term.Kind.TheVariants.{SubTree}
use Rattle.spec_tree.specs.declared.term.Term.{Term, Term-F, roll-Term, fold-roll-Term, ind-Term}
use Rattle.spec_tree.specs.declared.term.Tree.{Tree}
use Rattle.spec_tree.specs.PrintedTree.{Attribute, Lines, Printed, WrittenTree, element_lines, element_name, node_attributes, opened_by, printed, printed_node, root_attributes, tree_element, tree_lines, trees_of, with_tree, with_trees, written_below}
use Rattle.spec_tree_file.specs.Elements.{Spells}
use Rattle.spec_tree.specs.Terms.{depth_of as term_depth}
use Rattle.tree_round_trip.proofs.Depths.{tree_within}
use Rattle.tree_round_trip.proofs.Elements.{element_spelled}
use Rattle.tree_elements.specs.Written.{can_be_written}
use Rattle.tree_round_trip.specs.Printed.{lines_of, lines_step, unplaced}
use Rattle.tree_round_trip.specs.TreeElements.{Said, Subtree, element, element_of, own_tree, said, said_node, subtree_element, subtrees_of, with_subtree, with_subtrees}

-- the lines of a tree's elements
abbrev shown : Subtree → WrittenTree
shown t = (t.0, map lines_of t.1)

lines_element : (name : List ℕ) (attributes : List Attribute) (children : List Element) → lines_of (element name attributes children) ≡ element_lines name attributes (map lines_of children)
lines_element name attributes children = fold-roll-Element Lines lines_step (record { name = name; attributes = attributes; children = children; place = 0 })

record IsShown (t : Term) : Type 0 where
  lines : (printed t).lines ≡ lines_of (said t).node
  opened : (printed t).opened ≡ map shown (said t).opened

abbrev bare : List ((t : Term) × IsShown t) → List Term
bare ts = map (λ t. t.0) ts

abbrev parts : Term-F ((t : Term) × IsShown t) → Term-F Term
parts y = record { kind = y.kind; id = y.id; name = y.name; ports = y.ports; code = y.code; guards = y.guards; autoremap = y.autoremap; children = bare y.children }

abbrev nodes_of : List Term → List Element
nodes_of ts = map (λ (c : Said). c.node) (map said ts)

lines_each : (ts : List ((t : Term) × IsShown t)) → map (λ (c : Printed). c.lines) (map printed (bare ts)) ≡ map lines_of (nodes_of (bare ts))
lines_each [] = refl
lines_each (t ∷ ts) =
    ap (λ (z : Lines). z ∷ map (λ (c : Printed). c.lines) (map printed (bare ts))) t.1.lines
    ∙ ap (λ (z : List Lines). lines_of (said t.0).node ∷ z) (lines_each ts)

opened_each : (ts : List ((t : Term) × IsShown t)) → flat_map (λ (c : Printed). c.opened) (map printed (bare ts)) ≡ map shown (flat_map (λ (c : Said). c.opened) (map said (bare ts)))
opened_each [] = refl
opened_each (t ∷ ts) =
    ap (λ (z : List WrittenTree). z ++ flat_map (λ (c : Printed). c.opened) (map printed (bare ts))) t.1.opened
    ∙ ap (λ (z : List WrittenTree). map shown (said t.0).opened ++ z) (opened_each ts)
    ∙ sym (map-append shown (said t.0).opened (flat_map (λ (c : Said). c.opened) (map said (bare ts))))

below_each : (kind : Kind) (es : List Element) → written_below kind (map lines_of es) ≡ map lines_of (written_below kind es)
below_each SubTree es = refl
below_each kind es = refl

own_shown : (kind : Kind) (id : List ℕ) (es : List Element) → opened_by kind id (map lines_of es) ≡ map shown (own_tree kind id es)
own_shown SubTree id es = refl
own_shown kind id es = refl

whole_shown : (y : Term-F ((t : Term) × IsShown t)) → IsShown (roll-Term (parts y))
whole_shown y =
    let x = parts y in
    let name = element_name y.kind y.id in
    let attributes = node_attributes x in
    let nodes = nodes_of x.children in
    record {
      lines =
          ap (λ (p : Printed). p.lines) (fold-roll-Term Printed printed_node x)
          ∙ ap (λ (ls : List Lines). element_lines name attributes (written_below y.kind ls)) (lines_each y.children)
          ∙ ap (λ (ls : List Lines). element_lines name attributes ls) (below_each y.kind nodes)
          ∙ sym (lines_element name attributes (written_below y.kind nodes))
          ∙ ap (λ (s : Said). lines_of s.node) (sym (fold-roll-Term Said said_node x));
      opened =
          ap (λ (p : Printed). p.opened) (fold-roll-Term Printed printed_node x)
          ∙ ap (λ (ls : List Lines). opened_by y.kind y.id ls ++ flat_map (λ (c : Printed). c.opened) (map printed x.children)) (lines_each y.children)
          ∙ ap (λ (z : List WrittenTree). z ++ flat_map (λ (c : Printed). c.opened) (map printed x.children)) (own_shown y.kind y.id nodes)
          ∙ ap (λ (z : List WrittenTree). map shown (own_tree y.kind y.id nodes) ++ z) (opened_each y.children)
          ∙ sym (map-append shown (own_tree y.kind y.id nodes) (flat_map (λ (c : Said). c.opened) (map said x.children)))
          ∙ ap (λ (s : Said). map shown s.opened) (sym (fold-roll-Term Said said_node x));
    }

term_shown : (t : Term) → IsShown t
term_shown = ind-Term IsShown (λ x y is. subst (λ (z : Term-F Term). IsShown (roll-Term z)) is (whole_shown y))

-- ---- The trees

known_shown : (id : List ℕ) (ts : List Subtree) → list_any (λ (known : Subtree). bytes_eq id known.0) ts ≡ list_any (λ (known : WrittenTree). bytes_eq id known.0) (map shown ts)
known_shown id [] = refl
known_shown id (t ∷ ts) = ap (λ (rest : Bool). bytes_eq id t.0 || rest) (known_shown id ts)

either_shown : (is : Bool) (ts : List Subtree) (t : Subtree) → map shown (if is then ts else ts ++ t ∷ []) ≡ (if is then map shown ts else map shown ts ++ shown t ∷ [])
either_shown true ts t = refl
either_shown false ts t = map-append shown ts (t ∷ [])

with_shown : (ts : List Subtree) (t : Subtree) → map shown (with_subtree ts t) ≡ with_tree (map shown ts) (shown t)
with_shown ts t =
    either_shown (list_any (λ (known : Subtree). bytes_eq t.0 known.0) ts) ts t
    ∙ ap (λ (is : Bool). if is then map shown ts else map shown ts ++ shown t ∷ []) (known_shown t.0 ts)

all_shown : (ts us : List Subtree) → map shown (with_subtrees ts us) ≡ with_trees (map shown ts) (map shown us)
all_shown ts [] = refl
all_shown ts (u ∷ us) = all_shown (with_subtree ts u) us ∙ ap (λ (z : List WrittenTree). with_trees z (map shown us)) (with_shown ts u)

trees_shown : (tree : Tree) → trees_of tree ≡ map shown (subtrees_of tree)
trees_shown tree =
    let s = term_shown tree.term in
    ap (λ (ls : Lines). with_trees ((tree.main, ls ∷ []) ∷ []) (printed tree.term).opened) s.lines
    ∙ ap (λ (z : List WrittenTree). with_trees ((tree.main, lines_of (said tree.term).node ∷ []) ∷ []) z) s.opened
    ∙ sym (all_shown ((tree.main, (said tree.term).node ∷ []) ∷ []) (said tree.term).opened)

elements_shown : (ts : List Subtree) → map tree_element (map shown ts) ≡ map lines_of (map subtree_element ts)
elements_shown [] = refl
elements_shown (t ∷ ts) =
    ap (λ (z : Lines). z ∷ map tree_element (map shown ts)) (sym (lines_element (codes "BehaviorTree") ((codes "ID", t.0) ∷ []) t.1))
    ∙ ap (λ (z : List Lines). lines_of (subtree_element t) ∷ z) (elements_shown ts)

-- the lines of a printed tree are those of its element
pub tree_shown : (tree : Tree) → tree_lines tree ≡ lines_of (element_of tree) []
tree_shown tree =
    ap (λ (ts : List WrittenTree). element_lines (codes "root") (root_attributes tree) (map tree_element ts) []) (trees_shown tree)
    ∙ ap (λ (ls : List Lines). element_lines (codes "root") (root_attributes tree) ls []) (elements_shown (subtrees_of tree))
    ∙ ap (λ (ls : Lines). ls []) (sym (lines_element (codes "root") (root_attributes tree) (map subtree_element (subtrees_of tree))))

-- the printed bytes of a tree spell its element, where it can be written
pub element_of_spelled :
    (tree : Tree) → can_be_written (element_of tree) ≡ true → term_depth tree.term ≤ 256 →
    (f : Element) × Spells (concat (tree_lines tree)) f × (unplaced f ≡ unplaced (element_of tree))
element_of_spelled tree can deep =
    let e = element_of tree in
    subst (λ (z : List (List ℕ)). (f : Element) × Spells (concat z) f × (unplaced f ≡ unplaced e)) (sym (tree_shown tree)) (element_spelled e can (omega (arith, deep, tree_within tree)))
