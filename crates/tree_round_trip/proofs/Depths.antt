-- A printed tree is at most two levels deeper than the tree.
use Rattle.std.proofs.Common.{◌≡◌, ℕ, ◌+◌, ◌≤◌, max, Bool, true, false, if◌then◌else◌, List, [], ◌∷◌, ◌++◌, map, ap, sym, ◌∙◌, subst, arith, codes}
use Rattle.std.specs.List.{flat_map, list_any, AllByRecursion}
use Rattle.std.specs.Str.{bytes_eq}
use Rattle.spec_script.specs.Numbers.{greatest as greatest_term}
use Rattle.spec_tree_file.specs.declared.element.Element.{Element, fold-roll-Element}
use Rattle.spec_tree_file.specs.Elements.{depth_of, depth_step, greatest}
use Rattle.spec_tree.specs.declared.term.Kind.{Kind}
use Rattle.spec_tree.specs.declared.term.Kind.TheVariants.{SubTree}
use Rattle.spec_tree.specs.declared.term.Term.{Term, Term-F, roll-Term, fold-roll-Term, ind-Term}
use Rattle.spec_tree.specs.declared.term.Tree.{Tree}
use Rattle.spec_tree.specs.PrintedTree.{Attribute, element_name, node_attributes, root_attributes, written_below}
use Rattle.spec_tree.specs.Terms.{depth_of as term_depth}
use Rattle.tree_round_trip.specs.TreeElements.{Said, Subtree, element, element_of, own_tree, said, said_node, subtree_element, subtrees_of, with_subtree, with_subtrees}

element_depth : (name : List ℕ) (attributes : List Attribute) (children : List Element) → depth_of (element name attributes children) ≡ 1 + greatest (map depth_of children)
element_depth name attributes children = fold-roll-Element ℕ depth_step (record { name = name; attributes = attributes; children = children; place = 0 })

-- the elements of a tree are not deeper than this
abbrev Within : ℕ → Subtree → Type 0
Within n t = greatest (map depth_of t.1) ≤ n

record IsWithin (t : Term) : Type 0 where
  node : depth_of (said t).node ≤ term_depth t
  opened : AllByRecursion (Within (term_depth t)) (said t).opened

abbrev bare : List ((t : Term) × IsWithin t) → List Term
bare ts = map (λ t. t.0) ts

abbrev parts : Term-F ((t : Term) × IsWithin t) → Term-F Term
parts y = record { kind = y.kind; id = y.id; name = y.name; ports = y.ports; code = y.code; guards = y.guards; autoremap = y.autoremap; children = bare y.children }

abbrev nodes_of : List Term → List Element
nodes_of ts = map (λ (c : Said). c.node) (map said ts)

wider : (n m : ℕ) (ts : List Subtree) → n ≤ m → AllByRecursion (Within n) ts → AllByRecursion (Within m) ts
wider n m [] h all = tt
wider n m (t ∷ ts) h all =
    let first : Within n t = all.0 in
    let now : Within m t = omega (arith, first, h) in
    (now, wider n m ts h all.1)

both_within : (n : ℕ) (ts us : List Subtree) → AllByRecursion (Within n) ts → AllByRecursion (Within n) us → AllByRecursion (Within n) (ts ++ us)
both_within n [] us p q = q
both_within n (t ∷ ts) us p q = (p.0, both_within n ts us p.1 q)

nodes_within : (ts : List ((t : Term) × IsWithin t)) → greatest (map depth_of (nodes_of (bare ts))) ≤ greatest_term (map term_depth (bare ts))
nodes_within [] = omega arith
nodes_within (t ∷ ts) = omega (arith, nodes_within ts, t.1.node)

opened_within : (ts : List ((t : Term) × IsWithin t)) → AllByRecursion (Within (greatest_term (map term_depth (bare ts)))) (flat_map (λ (c : Said). c.opened) (map said (bare ts)))
opened_within [] = tt
opened_within (t ∷ ts) =
    let others = greatest_term (map term_depth (bare ts)) in
    let first = (said t.0).opened in
    let more = flat_map (λ (c : Said). c.opened) (map said (bare ts)) in
    let high : term_depth t.0 ≤ max (term_depth t.0) others = omega arith in
    let low : others ≤ max (term_depth t.0) others = omega arith in
    both_within (max (term_depth t.0) others) first more (wider (term_depth t.0) (max (term_depth t.0) others) first high t.1.opened)
    (wider others (max (term_depth t.0) others) more low (opened_within ts))

below_within : (kind : Kind) (es : List Element) → greatest (map depth_of (written_below kind es)) ≤ greatest (map depth_of es)
below_within SubTree es = omega arith
below_within kind es = omega arith

own_within : (n : ℕ) (kind : Kind) (id : List ℕ) (es : List Element) → greatest (map depth_of es) ≤ n → AllByRecursion (Within n) (own_tree kind id es)
own_within n SubTree id es h = (h, tt)
own_within n kind id es h = tt

whole_within : (y : Term-F ((t : Term) × IsWithin t)) → IsWithin (roll-Term (parts y))
whole_within y =
    let x = parts y in
    let nodes = nodes_of x.children in
    let deepest = greatest_term (map term_depth x.children) in
    let depth : term_depth (roll-Term x) ≡ 1 + deepest = fold-roll-Term ℕ (λ node. 1 + greatest_term node.children) x in
    let is : said (roll-Term x) ≡ said_node (record { kind = x.kind; id = x.id; name = x.name; ports = x.ports; code = x.code; guards = x.guards; autoremap = x.autoremap; children = map said x.children }) = fold-roll-Term Said said_node x in
    let each = nodes_within y.children in
    let below = written_below y.kind nodes in
    let node_depth : depth_of (said (roll-Term x)).node ≡ 1 + greatest (map depth_of below) =
    ap (λ (s : Said). depth_of s.node) is ∙ element_depth (element_name y.kind y.id) (node_attributes x) below in
    let node : depth_of (said (roll-Term x)).node ≤ term_depth (roll-Term x) = omega (arith, node_depth, depth, each, below_within y.kind nodes) in
    let low : deepest ≤ term_depth (roll-Term x) = omega (arith, depth) in
    let own_low : greatest (map depth_of nodes) ≤ term_depth (roll-Term x) = omega (arith, depth, each) in
    let own = own_within (term_depth (roll-Term x)) y.kind y.id nodes own_low in
    let others = wider deepest (term_depth (roll-Term x)) (flat_map (λ (c : Said). c.opened) (map said x.children)) low (opened_within y.children) in
    record {
      node = node;
      opened =
          subst (λ (s : Said). AllByRecursion (Within (term_depth (roll-Term x))) s.opened) (sym is)
          (both_within (term_depth (roll-Term x)) (own_tree y.kind y.id nodes) (flat_map (λ (c : Said). c.opened) (map said x.children)) own others);
    }

term_within : (t : Term) → IsWithin t
term_within = ind-Term IsWithin (λ x y is. subst (λ (z : Term-F Term). IsWithin (roll-Term z)) is (whole_within y))

either_within : (n : ℕ) (is : Bool) (ts : List Subtree) (t : Subtree) → AllByRecursion (Within n) ts → Within n t → AllByRecursion (Within n) (if is then ts else ts ++ t ∷ [])
either_within n true ts t p q = p
either_within n false ts t p q = both_within n ts (t ∷ []) p (q, tt)

all_within : (n : ℕ) (ts us : List Subtree) → AllByRecursion (Within n) ts → AllByRecursion (Within n) us → AllByRecursion (Within n) (with_subtrees ts us)
all_within n ts [] p q = p
all_within n ts (u ∷ us) p q =
    all_within n (with_subtree ts u) us (either_within n (list_any (λ (known : Subtree). bytes_eq u.0 known.0) ts) ts u p q.0) q.1

trees_within : (n : ℕ) (ts : List Subtree) → AllByRecursion (Within n) ts → greatest (map depth_of (map subtree_element ts)) ≤ 1 + n
trees_within n [] p = omega arith
trees_within n (t ∷ ts) p =
    let first : Within n t = p.0 in
    omega (arith, first, element_depth (codes "BehaviorTree") ((codes "ID", t.0) ∷ []) t.1, trees_within n ts p.1)

-- the document element is two levels deeper at most
pub tree_within : (tree : Tree) → depth_of (element_of tree) ≤ 2 + term_depth tree.term
tree_within tree =
    let n = term_depth tree.term in
    let s = term_within tree.term in
    let main : Within n (tree.main, (said tree.term).node ∷ []) = omega (arith, s.node) in
    let all = all_within n ((tree.main, (said tree.term).node ∷ []) ∷ []) (said tree.term).opened (main, tt) s.opened in
    omega (arith, element_depth (codes "root") (root_attributes tree) (map subtree_element (subtrees_of tree)), trees_within n (subtrees_of tree) all)
