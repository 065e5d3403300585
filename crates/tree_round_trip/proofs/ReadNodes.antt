-- A printed node is read as the node, with all below it.
use Rattle.std.proofs.Common.{◌≡◌, ◌⊎◌, inl, inr, ℕ, zero, suc, ◌+◌, ◌-◌, ◌<◌, ◌≤◌, Bool, true, false, not, if◌then◌else◌, List, [], ◌∷◌, ◌++◌, map, length, sum, Some, Result, Ok, refl, ap, sym, ◌∙◌, subst, arith}
use Rattle.std.specs.Prelude.{nat_eq, flat_map}
use Rattle.std.proofs.lemmas.Bool.Decides.{nat_tests}
use Rattle.std.proofs.lemmas.List.{length-map}
use Rattle.std.proofs.lemmas.List.Sums.{sum-map, sum_by-cons}
use Rattle.std.specs.List.{list_all, AllByRecursion}
use Rattle.spec_script.proofs.Bools.{both}
use Rattle.spec_script.specs.Numbers.{greatest}
use Rattle.spec_tree_file.specs.declared.element.Element.{Element, Element-F, roll-Element, out-Element, out-roll-Element, fold-roll-Element, fold_out-Element}
use Rattle.spec_tree.specs.declared.term.Kind.{Kind}
use Rattle.spec_tree.specs.declared.term.Kind.TheVariants.{Leaf, SubTree}
use Rattle.spec_tree.specs.declared.term.Term.{Term, Term-F, roll-Term, fold-roll-Term, ind-Term}
use Rattle.spec_tree.specs.BuiltIns.{takes}
use Rattle.spec_tree.specs.Names.{is_among}
use Rattle.spec_tree.specs.PrintedTree.{Attribute, element_name, node_attributes, written_below}
use Rattle.spec_tree.specs.Terms.{depth_of, node_count, own_scopes, scope_count}
use Rattle.spec_tree.specs.Trees.{Node, NodeFits, nodes_of, nodes_step}
use Rattle.spec_tree_file.specs.Attributes.{Attributes}
use Rattle.spec_tree_file.specs.Models.{attributes_of, children_of, name_of}
use Rattle.spec_tree_file.specs.ReadSteps.{go_on}
use Rattle.spec_tree_file.specs.declared.content.Content.{Content}
use Rattle.spec_tree_file.specs.declared.build_fault.BuildFault.{BuildFault}
use Rattle.spec_tree_file.specs.declared.head.Head.{Head}
use Rattle.spec_tree_file.specs.declared.numbers.Numbers.{Numbers}
use Rattle.spec_tree_file.specs.declared.version.Version.TheVariants.{Four}
use Rattle.spec_tree_file.specs.Content.{content_in}
use Rattle.spec_tree_file.specs.Heads.{head_of, plain_head}
use Rattle.spec_tree_file.specs.Reads.{File, Reader, Trees, is_subtree, node_by, node_of, nodes_by, opened_by, read_node, term_of, tree_of}
use Rattle.tree_build.specs.ReadSteps.{node_with, one_node_more, one_scope_more, plain_by, with_first}
use Rattle.tree_build.proofs.PortTexts.{not_true}
use Rattle.tree_build.proofs.Walk.{node_opened, node_plain, read_some}
use Rattle.tree_round_trip.specs.Openings.{fresh_by, fresh_step, opens_fresh}
use Rattle.tree_round_trip.specs.Printed.{unplaced, unplaced_step}
use Rattle.tree_round_trip.specs.TreeElements.{Said, Subtree, element, own_tree, said, said_node}
use Rattle.tree_round_trip.proofs.ReadContent.{content_of, content_reads, counted, id_reads, name_reads}
use Rattle.tree_round_trip.proofs.ReadHeads.{head_reads}

-- ---- The parts of an element, apart from its place

pub record HasParts (e : Element) (n : List ℕ) (a : List Attribute) (c : List Element) : Type 0 where
  pub name : name_of e ≡ n
  pub attributes : attributes_of e ≡ a
  pub children : map unplaced (children_of e) ≡ map unplaced c

abbrev bare_element : List ℕ → List Attribute → List Element → Element-F Element
bare_element name attributes children = record { name = name; attributes = attributes; children = children; place = 0 }

-- an element without its place has these parts
pub has_parts : (e : Element) (n : List ℕ) (a : List Attribute) (c : List Element) → unplaced e ≡ unplaced (element n a c) → HasParts e n a c
has_parts e n a c h =
    let whole : roll-Element (bare_element (name_of e) (attributes_of e) (map unplaced (children_of e))) ≡ roll-Element (bare_element n a (map unplaced c)) =
    sym (fold_out-Element Element unplaced_step e) ∙ h ∙ fold-roll-Element Element unplaced_step (record { name = n; attributes = a; children = c; place = 0 }) in
    let same : bare_element (name_of e) (attributes_of e) (map unplaced (children_of e)) ≡ bare_element n a (map unplaced c) =
    sym (out-roll-Element (bare_element (name_of e) (attributes_of e) (map unplaced (children_of e)))) ∙ ap (λ (x : Element). out-Element x) whole ∙ out-roll-Element (bare_element n a (map unplaced c)) in
    record { name = ap (λ (x : Element-F Element). x.name) same; attributes = ap (λ (x : Element-F Element). x.attributes) same; children = ap (λ (x : Element-F Element). x.children) same }

length_same : (xs ys : List Element) → map unplaced xs ≡ map unplaced ys → length xs ≡ length ys
length_same xs ys h = sym (length-map xs unplaced) ∙ ap (λ (zs : List Element). length zs) h ∙ length-map ys unplaced

-- ---- What must hold of a term that is to be read

-- there is a tree of this ID, with these elements in it
abbrev pub Known : Trees → Subtree → Type 0
Known trees t = (e : Element) × (tree_of t.0 trees ≡ Some e) × (map unplaced (children_of e) ≡ map unplaced t.1)

abbrev pub elements_of : List Term → List Element
elements_of ts = map (λ (c : Said). c.node) (map said ts)

abbrev pub opened_in : List Term → List Subtree
opened_in ts = flat_map (λ (c : Said). c.opened) (map said ts)

-- the numbers after a term, and after several terms
abbrev pub following : Numbers → Term → Numbers
following n t = record { nodes = n.nodes + node_count t; scopes = n.scopes + scope_count t }

abbrev after_all : Numbers → List Term → Numbers
after_all n ts = record { nodes = n.nodes + sum (map node_count ts); scopes = n.scopes + sum (map scope_count ts) }

-- the file of these trees, which has no models and is of version 4
abbrev pub plain_file : Trees → File
plain_file trees = record { trees = trees; models = []; version = Four }

pub record Given (trees : Trees) (left : ℕ) (opened : List (List ℕ)) (n : Numbers) (t : Term) : Type 0 where
  pub depth : depth_of t ≤ left
  pub nodes : n.nodes + node_count t ≤ 4096
  pub scopes : n.scopes + scope_count t ≤ 256
  pub fit : AllByRecursion NodeFits (nodes_of t)
  pub fresh : opens_fresh t opened ≡ true
  pub known : AllByRecursion (Known trees) (said t).opened

-- what must hold of several terms
record AllGiven (trees : Trees) (left : ℕ) (opened : List (List ℕ)) (n : Numbers) (ts : List Term) : Type 0 where
  depth : greatest (map depth_of ts) ≤ left
  nodes : n.nodes + sum (map node_count ts) ≤ 4096
  scopes : n.scopes + sum (map scope_count ts) ≤ 256
  fit : AllByRecursion NodeFits (flat_map (λ nodes. nodes) (map nodes_of ts))
  fresh : list_all (λ (child : List (List ℕ) → Bool). child opened) (map opens_fresh ts) ≡ true
  known : AllByRecursion (Known trees) (opened_in ts)

abbrev pub ReadsBack : Trees → Term → Type 0
ReadsBack trees t = (left : ℕ) (opened : List (List ℕ)) (n : Numbers) (e : Element) → Given trees left opened n t → unplaced e ≡ unplaced (said t).node →
    read_node (plain_file trees) left e opened n ≡ Ok (t, following n t)

abbrev bare : {trees : Trees} → List ((t : Term) × ReadsBack trees t) → List Term
bare ts = map (λ t. t.0) ts

abbrev parts : {trees : Trees} → Term-F ((t : Term) × ReadsBack trees t) → Term-F Term
parts y = record { kind = y.kind; id = y.id; name = y.name; ports = y.ports; code = y.code; guards = y.guards; autoremap = y.autoremap; children = bare y.children }

-- ---- Some terms

summed : (f : Term → ℕ) (t : Term) (ts : List Term) → sum (map f (t ∷ ts)) ≡ f t + sum (map f ts)
summed f t ts = sum-map f (t ∷ ts) ∙ sum_by-cons f t ts ∙ ap (λ (n : ℕ). f t + n) (sym (sum-map f ts))

same_numbers : (a b c d : ℕ) → a ≡ c → b ≡ d → ◌≡◌ {A = Numbers} (record { nodes = a; scopes = b }) (record { nodes = c; scopes = d })
same_numbers a b c d p q = ap (λ (x : ℕ). record { nodes = x; scopes = b }) p ∙ ap (λ (x : ℕ). record { nodes = c; scopes = x }) q

both_parts : {A : Type 0} (P : A → Type 0) (xs ys : List A) → AllByRecursion P (xs ++ ys) → AllByRecursion P xs × AllByRecursion P ys
both_parts P [] ys p = (tt, p)
both_parts P (x ∷ xs) ys p = let t = both_parts P xs ys p.1 in ((p.0, t.0), t.1)

first_given : (trees : Trees) (left : ℕ) (opened : List (List ℕ)) (n : Numbers) (t : Term) (ts : List Term) → AllGiven trees left opened n (t ∷ ts) → Given trees left opened n t
first_given trees left opened n t ts g = record {
  depth = omega (arith, g.depth);
  nodes = omega (arith, g.nodes, summed node_count t ts);
  scopes = omega (arith, g.scopes, summed scope_count t ts);
  fit = (both_parts NodeFits (nodes_of t) (flat_map (λ (nodes : List Node). nodes) (map nodes_of ts)) g.fit).0;
  fresh = (both (opens_fresh t opened) (list_all (λ (child : List (List ℕ) → Bool). child opened) (map opens_fresh ts)) g.fresh).0;
  known = (both_parts (Known trees) (said t).opened (opened_in ts) g.known).0;
}

rest_given : (trees : Trees) (left : ℕ) (opened : List (List ℕ)) (n : Numbers) (t : Term) (ts : List Term) → AllGiven trees left opened n (t ∷ ts) → AllGiven trees left opened (following n t) ts
rest_given trees left opened n t ts g = record {
  depth = omega (arith, g.depth);
  nodes = omega (arith, g.nodes, summed node_count t ts);
  scopes = omega (arith, g.scopes, summed scope_count t ts);
  fit = (both_parts NodeFits (nodes_of t) (flat_map (λ (nodes : List Node). nodes) (map nodes_of ts)) g.fit).1;
  fresh = (both (opens_fresh t opened) (list_all (λ (child : List (List ℕ) → Bool). child opened) (map opens_fresh ts)) g.fresh).1;
  known = (both_parts (Known trees) (said t).opened (opened_in ts) g.known).1;
}

-- equal lists have equal parts
pub heads_same : (x y : Element) (xs ys : List Element) → ◌≡◌ {A = List Element} (x ∷ xs) (y ∷ ys) → (x ≡ y) × (xs ≡ ys)
heads_same x y xs ys h = (let e : x ≡ y = cc in e, let e : xs ≡ ys = cc in e)

nodes_read : (trees : Trees) (left : ℕ) (opened : List (List ℕ)) (n : Numbers) (ts : List ((t : Term) × ReadsBack trees t)) (es : List Element) → AllGiven trees left opened n (bare ts) →
    map unplaced es ≡ map unplaced (elements_of (bare ts)) → nodes_by (read_node (plain_file trees) left) opened es n ≡ Ok (bare ts, after_all n (bare ts))
nodes_read trees left opened n [] [] g h = ap (λ (m : Numbers). Ok ([], m)) (same_numbers n.nodes n.scopes (n.nodes + 0) (n.scopes + 0) (omega arith) (omega arith))
nodes_read trees left opened n [] (e ∷ es) g h = absurd (cc)
nodes_read trees left opened n (t ∷ ts) [] g h = absurd (cc)
nodes_read trees left opened n (t ∷ ts) (e ∷ es) g h =
    let same = heads_same (unplaced e) (unplaced (said t.0).node) (map unplaced es) (map unplaced (elements_of (bare ts))) h in
    let reader = read_node (plain_file trees) left in
    let next = following n t.0 in
    ap (λ (r : Result (Term × Numbers) BuildFault). go_on (λ r. with_first r.0 (nodes_by reader opened es r.1)) r) (t.1 left opened n e (first_given trees left opened n t.0 (bare ts) g) same.0)
    ∙ ap (with_first t.0) (nodes_read trees left opened next ts es (rest_given trees left opened n t.0 (bare ts) g) same.1)
    ∙ ap (λ (m : Numbers). Ok (t.0 ∷ bare ts, m))
    (same_numbers (next.nodes + sum (map node_count (bare ts))) (next.scopes + sum (map scope_count (bare ts))) (n.nodes + sum (map node_count (t.0 ∷ bare ts))) (n.scopes + sum (map scope_count (t.0 ∷ bare ts)))
    (omega (arith, summed node_count t.0 (bare ts))) (omega (arith, summed scope_count t.0 (bare ts))))

-- ---- A node

node_read : (below : Reader) (head : Head) (A : Attributes) (opened : List (List ℕ)) (es : List Element) (n m : Numbers) (uid : ℕ) (content : Content) (ts : List Term) →
    content_in uid [] head.kind head.id head.form A ≡ Ok content → nodes_by below opened es n ≡ Ok (ts, m) → node_of [] below head A opened es n uid ≡ Ok (term_of head A content ts, m)
node_read below head A opened es n m uid content ts h k =
    ap (λ (r : Result Content BuildFault). go_on (λ content. go_on (node_with head A content) (nodes_by below opened es n)) r) h
    ∙ ap (λ (r : Result (List Term × Numbers) BuildFault). go_on (node_with head A content) r) k

leaf_has_none : (kind : Kind) (m : ℕ) → takes kind m ≡ true → kind ≡ Leaf → nat_eq m 0 ≡ true
leaf_has_none kind m h leaf = subst (λ (k : Kind). takes k m ≡ true) leaf h

-- the term that is made of what is read
term_again : (x : Term-F Term) (n : ℕ) → NodeFits (counted x n) → term_of (plain_head x.kind x.id) (node_attributes x) (content_of x) x.children ≡ roll-Term x
term_again x n fits =
    ap (λ (name : List ℕ). roll-Term (record { kind = x.kind; id = x.id; name = name; ports = x.ports; code = x.code; guards = x.guards; autoremap = x.autoremap; children = x.children })) (name_reads x n fits)

-- the IDs of the trees that are open where the children of a node are read
abbrev below_opened : Kind → List ℕ → List (List ℕ) → List (List ℕ)
below_opened SubTree id opened = opened ++ id ∷ []
below_opened kind id opened = opened

abbrev below_numbers : Kind → Numbers → Numbers
below_numbers SubTree n = one_scope_more (one_node_more n)
below_numbers kind n = one_node_more n

fresh_below : (kind : Kind) (id : List ℕ) (ts : List Term) (opened : List (List ℕ)) → fresh_by kind id (map opens_fresh ts) opened ≡ true →
    list_all (λ (child : List (List ℕ) → Bool). child (below_opened kind id opened)) (map opens_fresh ts) ≡ true
fresh_below SubTree id ts opened h =
    (both (not (is_among id opened)) (list_all (λ (child : List (List ℕ) → Bool). child (opened ++ id ∷ [])) (map opens_fresh ts)) h).1
fresh_below kind id ts opened h = h

nodes_below : (kind : Kind) (n : Numbers) → (below_numbers kind n).nodes ≡ n.nodes + 1
nodes_below SubTree n = refl
nodes_below kind n = refl

scopes_below : (kind : Kind) (n : Numbers) → (below_numbers kind n).scopes ≡ n.scopes + own_scopes kind
scopes_below SubTree n = refl
scopes_below kind n = omega arith

children_given : (trees : Trees) (left : ℕ) (opened : List (List ℕ)) (n : Numbers) (x : Term-F Term) → Given trees (suc left) opened n (roll-Term x) →
    AllGiven trees left (below_opened x.kind x.id opened) (below_numbers x.kind n) x.children
children_given trees left opened n x g =
    let nodes = nodes_below x.kind n in
    let scopes = scopes_below x.kind n in
    let known = subst (λ (s : Said). AllByRecursion (Known trees) s.opened) (fold-roll-Term Said said_node x) g.known in
    record {
      depth = omega (arith, g.depth, fold-roll-Term ℕ (λ node. 1 + greatest node.children) x);
      nodes = omega (arith, g.nodes, nodes, fold-roll-Term ℕ (λ node. 1 + sum node.children) x);
      scopes = omega (arith, g.scopes, scopes, fold-roll-Term ℕ (λ node. own_scopes node.kind + sum node.children) x);
      fit = (subst (AllByRecursion NodeFits) (fold-roll-Term (List Node) nodes_step x) g.fit).1;
      fresh = fresh_below x.kind x.id x.children opened (sym (ap (λ (f : List (List ℕ) → Bool). f opened) (fold-roll-Term (List (List ℕ) → Bool) fresh_step x)) ∙ g.fresh);
      known = (both_parts (Known trees) (own_tree x.kind x.id (elements_of x.children)) (opened_in x.children) known).1;
    }

-- the numbers after the children are those after the node
numbers_after : (n : Numbers) (x : Term-F Term) → after_all (below_numbers x.kind n) x.children ≡ following n (roll-Term x)
numbers_after n x =
    let m = below_numbers x.kind n in
    same_numbers (m.nodes + sum (map node_count x.children)) (m.scopes + sum (map scope_count x.children)) (n.nodes + node_count (roll-Term x)) (n.scopes + scope_count (roll-Term x))
    (omega (arith, nodes_below x.kind n, fold-roll-Term ℕ (λ node. 1 + sum node.children) x))
    (omega (arith, scopes_below x.kind n, fold-roll-Term ℕ (λ node. own_scopes node.kind + sum node.children) x))

sort_by : (kind : Kind) → (kind ≡ SubTree) ⊎ (is_subtree kind ≡ false)
sort_by SubTree = inl refl
sort_by kind = inr refl

plain_below : (kind : Kind) (es : List Element) → is_subtree kind ≡ false → written_below kind es ≡ es
plain_below SubTree es h = absurd (cc)
plain_below kind es h = refl

plain_numbers : (kind : Kind) (n : Numbers) → is_subtree kind ≡ false → below_numbers kind n ≡ one_node_more n
plain_numbers SubTree n h = absurd (cc)
plain_numbers kind n h = refl

plain_opened : (kind : Kind) (id : List ℕ) (opened : List (List ℕ)) → is_subtree kind ≡ false → below_opened kind id opened ≡ opened
plain_opened SubTree id opened h = absurd (cc)
plain_opened kind id opened h = refl

-- the element of a node, and what must hold so that it is read
record NodeGiven (trees : Trees) (left : ℕ) (opened : List (List ℕ)) (n : Numbers) (e : Element) (x : Term-F Term) : Type 0 where
  given : Given trees (suc left) opened n (roll-Term x)
  fits : NodeFits (counted x (length x.children))
  parts : HasParts e (element_name x.kind x.id) (node_attributes x) (written_below x.kind (elements_of x.children))
  below : (es : List Element) → map unplaced es ≡ map unplaced (elements_of x.children) →
      nodes_by (read_node (plain_file trees) left) (below_opened x.kind x.id opened) es (below_numbers x.kind n) ≡ Ok (x.children, after_all (below_numbers x.kind n) x.children)

elements_count : (ts : List Term) → length (elements_of ts) ≡ length ts
elements_count ts = length-map (map said ts) (λ (c : Said). c.node) ∙ length-map ts said

-- what a whole node is read as
node_made : (trees : Trees) (left : ℕ) (opened : List (List ℕ)) (n : Numbers) (e : Element) (x : Term-F Term) (es : List Element) → NodeGiven trees left opened n e x → map unplaced es ≡ map unplaced (elements_of x.children) →
    node_of [] (read_node (plain_file trees) left) (plain_head x.kind x.id) (attributes_of e) (below_opened x.kind x.id opened) es (below_numbers x.kind n) (n.nodes + 1) ≡ Ok (roll-Term x, following n (roll-Term x))
node_made trees left opened n e x es g h =
    let below = read_node (plain_file trees) left in
    let head = plain_head x.kind x.id in
    let m = below_numbers x.kind n in
    ap (λ (A : Attributes). node_of [] below head A (below_opened x.kind x.id opened) es m (n.nodes + 1)) g.parts.attributes
    ∙ node_read below head (node_attributes x) (below_opened x.kind x.id opened) es m (after_all m x.children) (n.nodes + 1) (content_of x) x.children
    (content_reads (n.nodes + 1) x (length x.children) g.fits) (g.below es h)
    ∙ ap (λ (t : Term). Ok (t, after_all m x.children)) (term_again x (length x.children) g.fits)
    ∙ ap (λ (k : Numbers). Ok (roll-Term x, k)) (numbers_after n x)

few : (n : Numbers) (x : Term-F Term) → n.nodes + node_count (roll-Term x) ≤ 4096 → n.nodes < 4096
few n x h = omega (arith, h, fold-roll-Term ℕ (λ node. 1 + sum node.children) x)

some_scope : (n : Numbers) (x : Term-F Term) → x.kind ≡ SubTree → n.scopes + scope_count (roll-Term x) ≤ 256 → n.scopes < 256
some_scope n x subtree h =
    let one : own_scopes x.kind ≡ 1 = ap own_scopes subtree in
    omega (arith, h, one, fold-roll-Term ℕ (λ node. own_scopes node.kind + sum node.children) x)

head_is : (trees : Trees) (left : ℕ) (opened : List (List ℕ)) (n : Numbers) (e : Element) (x : Term-F Term) → NodeGiven trees left opened n e x →
    head_of Four (name_of e) (attributes_of e) (length (children_of e)) ≡ Some (plain_head x.kind x.id)
head_is trees left opened n e x g =
    ap (λ (name : List ℕ). head_of Four name (attributes_of e) (length (children_of e))) g.parts.name
    ∙ ap (λ (A : Attributes). head_of Four (element_name x.kind x.id) A (length (children_of e))) g.parts.attributes
    ∙ head_reads x.kind x.id (node_attributes x) (length (children_of e)) g.fits.id (id_reads x (length x.children) g.fits)
    (λ leaf. ap (λ (m : ℕ). nat_eq m 0) (no_children leaf) ∙ leaf_has_none x.kind (length x.children) g.fits.children leaf)
  where
    no_children : x.kind ≡ Leaf → length (children_of e) ≡ length x.children
    no_children leaf =
        length_same (children_of e) (written_below x.kind (elements_of x.children)) g.parts.children
        ∙ ap (λ (es : List Element). length es) (plain_below x.kind (elements_of x.children) (ap is_subtree leaf)) ∙ elements_count x.children

plain_reads : (trees : Trees) (left : ℕ) (opened : List (List ℕ)) (n : Numbers) (e : Element) (x : Term-F Term) → NodeGiven trees left opened n e x → is_subtree x.kind ≡ false →
    node_by (plain_file trees) (read_node (plain_file trees) left) (plain_head x.kind x.id) e opened n ≡ Ok (roll-Term x, following n (roll-Term x))
plain_reads trees left opened n e x g plain =
    let file = plain_file trees in
    let below = read_node file left in
    let head = plain_head x.kind x.id in
    let es = children_of e in
    let same : map unplaced es ≡ map unplaced (elements_of x.children) = g.parts.children ∙ ap (map unplaced) (plain_below x.kind (elements_of x.children) plain) in
    let count : length es ≡ length x.children = length_same es (elements_of x.children) same ∙ elements_count x.children in
    node_plain file below head e opened n (attributes_of e) es refl refl plain (ap (takes x.kind) count ∙ g.fits.children)
    ∙ ap (λ (o : List (List ℕ)). node_of [] below head (attributes_of e) o es (one_node_more n) (n.nodes + 1)) (sym (plain_opened x.kind x.id opened plain))
    ∙ ap (λ (m : Numbers). node_of [] below head (attributes_of e) (below_opened x.kind x.id opened) es m (n.nodes + 1)) (sym (plain_numbers x.kind n plain))
    ∙ node_made trees left opened n e x es g same

-- what holds of a SubTree node
record SubtreeGiven (trees : Trees) (opened : List (List ℕ)) (x : Term-F Term) : Type 0 where
  fresh : is_among x.id opened ≡ false
  known : Known trees (x.id, elements_of x.children)
  one : length x.children ≡ 1

one_child : (m : ℕ) → nat_eq m 1 ≡ true → m ≡ 1
one_child m h = grind (arith, nat_tests)

subtree_given : (trees : Trees) (left : ℕ) (opened : List (List ℕ)) (n : Numbers) (e : Element) (x : Term-F Term) → NodeGiven trees left opened n e x → x.kind ≡ SubTree → SubtreeGiven trees opened x
subtree_given trees left opened n e x g subtree =
    let fresh = sym (ap (λ (f : List (List ℕ) → Bool). f opened) (fold-roll-Term (List (List ℕ) → Bool) fresh_step x)) ∙ g.given.fresh in
    let own = subst (λ (k : Kind). fresh_by k x.id (map opens_fresh x.children) opened ≡ true) subtree fresh in
    let known = subst (λ (s : Said). AllByRecursion (Known trees) s.opened) (fold-roll-Term Said said_node x) g.given.known in
    let trees_known = (both_parts (Known trees) (own_tree x.kind x.id (elements_of x.children)) (opened_in x.children) known).0 in
    record {
      fresh = not_true (is_among x.id opened) (both (not (is_among x.id opened)) (list_all (λ (child : List (List ℕ) → Bool). child (opened ++ x.id ∷ [])) (map opens_fresh x.children)) own).0;
      known = (subst (λ (k : Kind). AllByRecursion (Known trees) (own_tree k x.id (elements_of x.children))) subtree trees_known).0;
      one = one_child (length x.children) (subst (λ (k : Kind). takes k (length x.children) ≡ true) subtree g.fits.children);
    }

subtree_reads : (trees : Trees) (left : ℕ) (opened : List (List ℕ)) (n : Numbers) (e : Element) (x : Term-F Term) → NodeGiven trees left opened n e x → x.kind ≡ SubTree →
    node_by (plain_file trees) (read_node (plain_file trees) left) (plain_head x.kind x.id) e opened n ≡ Ok (roll-Term x, following n (roll-Term x))
subtree_reads trees left opened n e x g subtree =
    let file = plain_file trees in
    let below = read_node file left in
    let head = plain_head x.kind x.id in
    let s = subtree_given trees left opened n e x g subtree in
    let tree = s.known.0 in
    let roots = children_of tree in
    let none : length (children_of e) ≡ 0 =
    length_same (children_of e) (written_below x.kind (elements_of x.children)) g.parts.children ∙ ap (λ (k : Kind). length (written_below k (elements_of x.children))) subtree in
    let one : length roots ≡ 1 = length_same roots (elements_of x.children) s.known.2 ∙ elements_count x.children ∙ s.one in
    ap (λ (b : Bool). if b then opened_by file below head e opened n (tree_of x.id trees) else plain_by file below head e opened n) (ap is_subtree subtree)
    ∙ node_opened file below head e tree opened (opened ++ x.id ∷ []) n (attributes_of e) (children_of e) roots refl refl refl (sym s.known.1) s.fresh (some_scope n x subtree g.given.scopes) none one refl
    ∙ ap (λ (o : List (List ℕ)). node_of [] below head (attributes_of e) o roots (one_scope_more (one_node_more n)) (n.nodes + 1)) (sym (ap (λ (k : Kind). below_opened k x.id opened) subtree))
    ∙ ap (λ (m : Numbers). node_of [] below head (attributes_of e) (below_opened x.kind x.id opened) roots m (n.nodes + 1)) (sym (ap (λ (k : Kind). below_numbers k n) subtree))
    ∙ node_made trees left opened n e x roots g s.known.2

node_reads : (trees : Trees) (left : ℕ) (opened : List (List ℕ)) (n : Numbers) (e : Element) (x : Term-F Term) → NodeGiven trees left opened n e x → (x.kind ≡ SubTree) ⊎ (is_subtree x.kind ≡ false) →
    node_by (plain_file trees) (read_node (plain_file trees) left) (plain_head x.kind x.id) e opened n ≡ Ok (roll-Term x, following n (roll-Term x))
node_reads trees left opened n e x g (inl subtree) = subtree_reads trees left opened n e x g subtree
node_reads trees left opened n e x g (inr plain) = plain_reads trees left opened n e x g plain

level_reads : (trees : Trees) (left : ℕ) (opened : List (List ℕ)) (n : Numbers) (e : Element) (x : Term-F Term) → NodeGiven trees left opened n e x →
    read_node (plain_file trees) (suc left) e opened n ≡ Ok (roll-Term x, following n (roll-Term x))
level_reads trees left opened n e x g =
    let file = plain_file trees in
    let level : suc left - 1 ≡ left = omega arith in
    read_some file (suc left) e opened n (plain_head x.kind x.id) (omega arith) (few n x g.given.nodes) (sym (head_is trees left opened n e x g))
    ∙ ap (λ (k : ℕ). node_by file (read_node file k) (plain_head x.kind x.id) e opened n) level
    ∙ node_reads trees left opened n e x g (sort_by x.kind)

whole_reads : (trees : Trees) (y : Term-F ((t : Term) × ReadsBack trees t)) → ReadsBack trees (roll-Term (parts y))
whole_reads trees y zero opened n e g h = absurd (omega (arith, g.depth, fold-roll-Term ℕ (λ node. 1 + greatest node.children) (parts y)))
whole_reads trees y (suc left) opened n e g h =
    let x = parts y in
    let all = children_given trees left opened n x g in
    let fit = subst (AllByRecursion NodeFits) (fold-roll-Term (List Node) nodes_step x) g.fit in
    level_reads trees left opened n e x
    (record {
      given = g;
      fits = subst (λ (m : ℕ). NodeFits (counted x m)) (length-map x.children nodes_of) fit.0;
      parts = has_parts e (element_name x.kind x.id) (node_attributes x) (written_below x.kind (elements_of x.children)) (h ∙ ap (λ (s : Said). unplaced s.node) (fold-roll-Term Said said_node x));
      below = λ es same. nodes_read trees left (below_opened x.kind x.id opened) (below_numbers x.kind n) y.children es all same;
    })

-- every term that fits is read back from its element
pub term_reads : (trees : Trees) (t : Term) → ReadsBack trees t
term_reads trees = ind-Term (ReadsBack trees) (λ x y is. subst (λ (z : Term-F Term). ReadsBack trees (roll-Term z)) is (whole_reads trees y))
