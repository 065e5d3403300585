-- The element of a valid tree can be written.
use Rattle.std.proofs.Common.{◌≡◌, ℕ, Bool, true, false, ◌&&◌, if◌then◌else◌, List, [], ◌∷◌, ◌++◌, map, refl, ap, sym, ◌∙◌, subst, codes}
use Rattle.std.specs.List.{concat, flat_map, list_all, list_any, AllByRecursion}
use Rattle.std.specs.Str.{bytes_eq}
use Rattle.spec_script.proofs.Bools.{both}
use Rattle.spec_tree_file.specs.Elements.{Spells}
use Rattle.spec_script.specs.Texts.{name_stands, value_stands}
use Rattle.spec_tree_file.specs.Marks.{no_name_twice}
use Rattle.tree_elements.specs.Written.{can_be_written, can_stand, writes_step}
use Rattle.spec_tree_file.specs.declared.element.Element.{Element, fold-roll-Element}
use Rattle.spec_tree.specs.PrintedTree.{Attribute, element_name, node_attributes, root_attributes, tree_lines, written_below}
use Rattle.spec_tree.specs.Trees.{IsValid, Node, NodeFits, nodes_of, nodes_step}
use Rattle.spec_tree.specs.declared.term.Kind.{Kind}
use Rattle.spec_tree.specs.declared.term.Kind.TheVariants.{SubTree}
use Rattle.spec_tree.specs.declared.term.Term.{Term, Term-F, roll-Term, fold-roll-Term, ind-Term}
use Rattle.spec_tree.specs.declared.term.Tree.{Tree}
use Rattle.tree_round_trip.specs.Printed.{unplaced}
use Rattle.tree_round_trip.specs.TreeElements.{Said, Subtree, element, element_of, own_tree, said, said_node, subtree_element, subtrees_of, with_subtree, with_subtrees}
use Rattle.tree_round_trip.proofs.Trees.{element_of_spelled}
use Rattle.tree_round_trip.proofs.Values.{and_true}
use Rattle.tree_elements.proofs.Ascii.{literal, literal_value}
use Rattle.tree_round_trip.proofs.Marks.{element_name_stands, node_single, node_stands}

all_can : (es : List Element) → list_all can_be_written es ≡ true → list_all (λ (child : Bool). child) (map can_be_written es) ≡ true
all_can [] h = refl
all_can (e ∷ es) h =
    let t = both (can_be_written e) (list_all can_be_written es) h in
    and_true (can_be_written e) (list_all (λ (child : Bool). child) (map can_be_written es)) t.0 (all_can es t.1)

element_can : (name : List ℕ) (attributes : List Attribute) (children : List Element) → name_stands name ≡ true → list_all can_stand attributes ≡ true → no_name_twice attributes ≡ true → list_all can_be_written children ≡ true → can_be_written (element name attributes children) ≡ true
element_can name attributes children n a s c =
    let below = list_all (λ (child : Bool). child) (map can_be_written children) in
    fold-roll-Element Bool writes_step (record { name = name; attributes = attributes; children = children; place = 0 })
    ∙ and_true (name_stands name) (list_all can_stand attributes && (no_name_twice attributes && below)) n
    (and_true (list_all can_stand attributes) (no_name_twice attributes && below) a (and_true (no_name_twice attributes) below s (all_can children c)))

record Written (t : Subtree) : Type 0 where
  id : value_stands t.0 ≡ true
  nodes : list_all can_be_written t.1 ≡ true

record CanWrite (t : Term) : Type 0 where
  node : can_be_written (said t).node ≡ true
  opened : AllByRecursion Written (said t).opened

abbrev Claim : Term → Type 0
Claim t = AllByRecursion NodeFits (nodes_of t) → CanWrite t

abbrev bare : List ((t : Term) × Claim t) → List Term
bare ts = map (λ t. t.0) ts

abbrev parts : Term-F ((t : Term) × Claim t) → Term-F Term
parts y = record { kind = y.kind; id = y.id; name = y.name; ports = y.ports; code = y.code; guards = y.guards; autoremap = y.autoremap; children = bare y.children }

abbrev elements_of : List Term → List Element
elements_of ts = map (λ (c : Said). c.node) (map said ts)

front_all : (P : Node → Type 0) (xs ys : List Node) → AllByRecursion P (xs ++ ys) → AllByRecursion P xs
front_all P [] ys h = tt
front_all P (x ∷ xs) ys h = (h.0, front_all P xs ys h.1)

back_all : (P : Node → Type 0) (xs ys : List Node) → AllByRecursion P (xs ++ ys) → AllByRecursion P ys
back_all P [] ys h = h
back_all P (x ∷ xs) ys h = back_all P xs ys h.1

joined : (ts us : List Subtree) → AllByRecursion Written ts → AllByRecursion Written us → AllByRecursion Written (ts ++ us)
joined [] us p q = q
joined (t ∷ ts) us p q = (p.0, joined ts us p.1 q)

record AllWrite (ts : List Term) : Type 0 where
  nodes : list_all can_be_written (elements_of ts) ≡ true
  opened : AllByRecursion Written (flat_map (λ (c : Said). c.opened) (map said ts))

all_write : (ts : List ((t : Term) × Claim t)) → AllByRecursion NodeFits (flat_map (λ nodes. nodes) (map nodes_of (bare ts))) → AllWrite (bare ts)
all_write [] fit = record { nodes = refl; opened = tt }
all_write (t ∷ ts) fit =
    let more = flat_map (λ (nodes : List Node). nodes) (map nodes_of (bare ts)) in
    let one = t.1 (front_all NodeFits (nodes_of t.0) more fit) in
    let rest = all_write ts (back_all NodeFits (nodes_of t.0) more fit) in
    record {
      nodes = and_true (can_be_written (said t.0).node) (list_all can_be_written (elements_of (bare ts))) one.node rest.nodes;
      opened = joined (said t.0).opened (flat_map (λ (c : Said). c.opened) (map said (bare ts))) one.opened rest.opened;
    }

below_can : (kind : Kind) (es : List Element) → list_all can_be_written es ≡ true → list_all can_be_written (written_below kind es) ≡ true
below_can SubTree es h = refl
below_can kind es h = h

own_can : (kind : Kind) (id : List ℕ) (es : List Element) → value_stands id ≡ true → list_all can_be_written es ≡ true → AllByRecursion Written (own_tree kind id es)
own_can SubTree id es v h = (record { id = v; nodes = h }, tt)
own_can kind id es v h = tt

whole_can : (y : Term-F ((t : Term) × Claim t)) → Claim (roll-Term (parts y))
whole_can y fit =
    let x = parts y in
    let below = elements_of x.children in
    let fits = subst (AllByRecursion NodeFits) (fold-roll-Term (List Node) nodes_step x) fit in
    let texts = fits.0.texts in
    let each = all_write y.children fits.1 in
    let is = fold-roll-Term Said said_node x in
    let node = element_can (element_name y.kind y.id) (node_attributes x) (written_below y.kind below) (element_name_stands y.kind y.id fits.0.id texts.id)
    (node_stands x texts.id texts.name texts.ports texts.code texts.guards) (node_single x fits.0.ports texts.ports fits.0.code texts.apart) (below_can y.kind below each.nodes) in
    record {
      node = ap (λ (s : Said). can_be_written s.node) is ∙ node;
      opened =
          subst (λ (s : Said). AllByRecursion Written s.opened) (sym is)
          (joined (own_tree y.kind y.id below) (flat_map (λ (c : Said). c.opened) (map said x.children)) (own_can y.kind y.id below texts.id each.nodes) each.opened);
    }

term_can : (t : Term) → Claim t
term_can = ind-Term Claim (λ x y is. subst (λ (z : Term-F Term). Claim (roll-Term z)) is (whole_can y))

either_can : (is : Bool) (ts : List Subtree) (t : Subtree) → AllByRecursion Written ts → Written t → AllByRecursion Written (if is then ts else ts ++ t ∷ [])
either_can true ts t p q = p
either_can false ts t p q = joined ts (t ∷ []) p (q, tt)

trees_can : (ts us : List Subtree) → AllByRecursion Written ts → AllByRecursion Written us → AllByRecursion Written (with_subtrees ts us)
trees_can ts [] p q = p
trees_can ts (u ∷ us) p q = trees_can (with_subtree ts u) us (either_can (list_any (λ (known : Subtree). bytes_eq u.0 known.0) ts) ts u p q.0) q.1

elements_can : (ts : List Subtree) → AllByRecursion Written ts → list_all can_be_written (map subtree_element ts) ≡ true
elements_can [] p = refl
elements_can (t ∷ ts) p =
    let first : Written t = p.0 in
    let attribute = and_true (can_stand (codes "ID", t.0)) true (and_true (name_stands (codes "ID")) (value_stands t.0) (literal (codes "ID") refl refl) first.id) refl in
    and_true (can_be_written (subtree_element t)) (list_all can_be_written (map subtree_element ts))
    (element_can (codes "BehaviorTree") ((codes "ID", t.0) ∷ []) t.1 (literal (codes "BehaviorTree") refl refl) attribute refl first.nodes) (elements_can ts p.1)

-- the element of a valid tree can be written
pub tree_can : (tree : Tree) → IsValid tree → can_be_written (element_of tree) ≡ true
tree_can tree valid =
    let t = term_can tree.term valid.fit in
    let first : Written (tree.main, (said tree.term).node ∷ []) = record { id = valid.main; nodes = and_true (can_be_written (said tree.term).node) true t.node refl } in
    let trees = trees_can ((tree.main, (said tree.term).node ∷ []) ∷ []) (said tree.term).opened (first, tt) t.opened in
    let format = and_true (name_stands (codes "BTCPP_format")) (value_stands (codes "4")) (literal (codes "BTCPP_format") refl refl) (literal_value (codes "4") refl refl) in
    let named = and_true (name_stands (codes "main_tree_to_execute")) (value_stands tree.main) (literal (codes "main_tree_to_execute") refl refl) valid.main in
    let attributes = and_true (can_stand (codes "BTCPP_format", codes "4")) (list_all can_stand ((codes "main_tree_to_execute", tree.main) ∷ [])) format
    (and_true (can_stand (codes "main_tree_to_execute", tree.main)) true named refl) in
    element_can (codes "root") (root_attributes tree) (map subtree_element (subtrees_of tree)) (literal (codes "root") refl refl) attributes refl (elements_can (subtrees_of tree) trees)

-- the bytes of a printed tree spell its element
pub tree_spelled :
    (tree : Tree) → IsValid tree →
    (f : Element) × Spells (concat (tree_lines tree)) f × (unplaced f ≡ unplaced (element_of tree))
tree_spelled tree valid = element_of_spelled tree (tree_can tree valid) valid.limits.depth
