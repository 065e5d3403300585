-- Elements that are written line by line, and the trees that are written.
use Rattle.std.proofs.Common.{◌≡◌, ℕ, ◌+◌, ◌<◌, ◌≤◌, ◌==◌, Bool, true, false, ◌||◌, if◌then◌else◌, List, [], ◌∷◌, ◌++◌, Option, codes, map, length, get_or, take, refl, ap, sym, subst, ◌∙◌, append-nil, arith, length-append}
use Rattle.std.proofs.lemmas.Bool.Decides.{nat_tests}
use Rattle.std.proofs.lemmas.Grind.{flat_map-append}
use Rattle.std.proofs.lemmas.List.{length-map, take_all, take_more}
use Rattle.std.proofs.lemmas.List.Folds.{concat-append, flat_map-map}
use Rattle.std.proofs.lemmas.Simd.{map-map}
use Rattle.std.specs.List.{concat, flat_map, list_any}
use Rattle.std.specs.Str.{bytes_eq}
use Rattle.spec_tree.specs.declared.term.Kind.{Kind}
use Rattle.spec_tree.specs.declared.term.Kind.TheVariants.{SubTree}
use Rattle.spec_tree.specs.declared.term.Term.{Term, out-Term, fold_out-Term}
use Rattle.spec_tree.specs.declared.term.Tree.{Tree}
use Rattle.spec_tree.specs.PrintedTree.{Attribute, Lines, Printed, WrittenTree, deeper, element_lines, element_name, node_attributes, opened_by, printed, printed_node, root_attributes, tree_element, tree_lines, trees_of, with_tree, with_trees, written_below}
use Rattle.spec_outside.specs.Appending.{Appended, AppendedPrefix}
use Rattle.base_outside.proofs.Appends.{Appended-trans, AppendedPrefix-after, AppendedPrefix-longer}
use Rattle.text_lines.proofs.Lines.{Appended-map_more, AppendedPrefix-map_next}
use Rattle.text_lines.specs.declared.tree.WrittenTree.{WrittenTree as Written}
use Rattle.text_lines.specs.Trees.{end_mark, node_mark, start_mark, written}

-- ---- The trees that are written

-- whether a tree is in the code's list, and whether it is written
pub has_written : (id : List ℕ) (ts : List Written) → list_any (λ t. bytes_eq id t.id.now) ts ≡ list_any (λ (known : WrittenTree). bytes_eq id known.0) (map written ts)
has_written id [] = refl
has_written id (t ∷ ts) = ap (λ (rest : Bool). bytes_eq id t.id.now || rest) (has_written id ts)

-- a tree that is there already is not added
pub with_known : (trees : List WrittenTree) (t : WrittenTree) → list_any (λ (known : WrittenTree). bytes_eq t.0 known.0) trees ≡ true → with_tree trees t ≡ trees
with_known trees t h = ap (λ (b : Bool). if b then trees else trees ++ t ∷ []) h

-- a new tree is added
pub with_new : (trees : List WrittenTree) (t : WrittenTree) → list_any (λ (known : WrittenTree). bytes_eq t.0 known.0) trees ≡ false → with_tree trees t ≡ trees ++ t ∷ []
with_new trees t h = ap (λ (b : Bool). if b then trees else trees ++ t ∷ []) h

-- trees are added, and then others
pub with_trees-append : (trees a b : List WrittenTree) → with_trees trees (a ++ b) ≡ with_trees (with_trees trees a) b
with_trees-append trees [] b = refl
with_trees-append trees (t ∷ ts) b = with_trees-append (with_tree trees t) ts b

-- the trees of one more node are added
pub with_trees-more :
    {X : Type 0} (f : X → List WrittenTree) (trees : List WrittenTree) (xs : List X) (i : ℕ) (d : X) → i < length xs →
    with_trees trees (flat_map f (take (i + 1) xs)) ≡ with_trees (with_trees trees (flat_map f (take i xs))) (f (get_or xs i d))
with_trees-more f trees xs i d h =
    ap (λ ys. with_trees trees (flat_map f ys)) (take_more xs i d h)
    ∙ ap (with_trees trees) (flat_map-append f (take i xs) (get_or xs i d ∷ []))
    ∙ ap (λ (ys : List WrittenTree). with_trees trees (flat_map f (take i xs) ++ ys)) (append-nil (f (get_or xs i d)))
    ∙ with_trees-append trees (flat_map f (take i xs)) (f (get_or xs i d))

lines_each : (ts : List Term) → map (λ (c : Printed). c.lines) (map printed ts) ≡ map (λ t. (printed t).lines) ts
lines_each [] = refl
lines_each (t ∷ ts) = ap (λ (ls : List Lines). (printed t).lines ∷ ls) (lines_each ts)

opened_each : (ts : List Term) → flat_map (λ (c : Printed). c.opened) (map printed ts) ≡ flat_map (λ t. (printed t).opened) ts
opened_each ts = flat_map-map (λ (c : Printed). c.opened) printed ts

-- what a node opens, and then what its children open
pub opened_out :
    (t : Term) → (printed t).opened
    ≡ opened_by (out-Term t).kind (out-Term t).id (map (λ c. (printed c).lines) (out-Term t).children)
    ++ flat_map (λ c. (printed c).opened) (out-Term t).children
opened_out t =
    let node = out-Term t in
    ap (λ (p : Printed). p.opened) (fold_out-Term Printed printed_node t)
    ∙ ap (λ (ls : List Lines). opened_by node.kind node.id ls ++ flat_map (λ (c : Printed). c.opened) (map printed node.children)) (lines_each node.children)
    ∙ ap (λ (ts : List WrittenTree). opened_by node.kind node.id (map (λ c. (printed c).lines) node.children) ++ ts) (opened_each node.children)

-- the tree that a node opens itself, and then those that its children open
pub with_trees-opened :
    (trees : List WrittenTree) (t : Term) →
    with_trees (with_trees trees (opened_by (out-Term t).kind (out-Term t).id (map (λ c. (printed c).lines) (out-Term t).children)))
    (flat_map (λ c. (printed c).opened) (out-Term t).children)
    ≡ with_trees trees (printed t).opened
with_trees-opened trees t =
    let node = out-Term t in
    sym (with_trees-append trees (opened_by node.kind node.id (map (λ c. (printed c).lines) node.children)) (flat_map (λ c. (printed c).opened) node.children))
    ∙ sym (ap (with_trees trees) (opened_out t))

-- ---- Lines of elements

below_each : (kind : Kind) (ts : List Term) → written_below kind (map (λ t. (printed t).lines) ts) ≡ map (λ t. (printed t).lines) (written_below kind ts)
below_each SubTree ts = refl
below_each kind ts = refl

-- the lines of a node are those of its element
pub lines_out :
    (t : Term) → (printed t).lines
    ≡ element_lines (element_name (out-Term t).kind (out-Term t).id) (node_attributes (out-Term t))
    (map (λ n. (printed n).lines) (written_below (out-Term t).kind (out-Term t).children))
lines_out t =
    let node = out-Term t in
    let name = element_name node.kind node.id in
    ap (λ (p : Printed). p.lines) (fold_out-Term Printed printed_node t)
    ∙ ap (λ (ls : List Lines). element_lines name (node_attributes node) (written_below node.kind ls)) (lines_each node.children)
    ∙ ap (λ (ls : List Lines). element_lines name (node_attributes node) ls) (below_each node.kind node.children)

text_each : {X : Type 0} (f : X → Lines) (blanks : List ℕ) (xs : List X) → concat (flat_map (λ (below : Lines). below blanks) (map f xs)) ≡ concat (map (λ x. concat (f x blanks)) xs)
text_each f blanks [] = refl
text_each f blanks (x ∷ xs) =
    concat-append (f x blanks) (flat_map (λ (below : Lines). below blanks) (map f xs))
    ∙ ap (λ (rest : List ℕ). concat (f x blanks) ++ rest) (text_each f blanks xs)

-- an element with nothing in it
pub text_empty :
    {X : Type 0} (f : X → Lines) (name : List ℕ) (attributes : List Attribute) (blanks : List ℕ) (xs : List X) → length xs ≡ 0 →
    concat (element_lines name attributes (map f xs) blanks) ≡ start_mark blanks name attributes (codes "/>")
text_empty f name attributes blanks [] h = append-nil (start_mark blanks name attributes (codes "/>"))
text_empty f name attributes blanks (x ∷ xs) h = absurd (omega (arith, h))

-- an element with something in it
pub text_filled :
    {X : Type 0} (f : X → Lines) (name : List ℕ) (attributes : List Attribute) (blanks : List ℕ) (xs : List X) → 0 < length xs →
    concat (element_lines name attributes (map f xs) blanks)
    ≡ start_mark blanks name attributes (codes ">") ++ (concat (map (λ x. concat (f x (deeper blanks))) xs) ++ end_mark blanks name)
text_filled f name attributes blanks [] h = absurd (omega (arith, h))
text_filled f name attributes blanks (x ∷ xs) h =
    let below = flat_map (λ (below : Lines). below (deeper blanks)) (map f (x ∷ xs)) in
    ap (λ (rest : List ℕ). start_mark blanks name attributes (codes ">") ++ rest)
    (concat-append below (end_mark blanks name ∷ [])
    ∙ ap (λ (rest : List ℕ). concat below ++ rest) (append-nil (end_mark blanks name))
    ∙ ap (λ (rest : List ℕ). rest ++ end_mark blanks name) (text_each f (deeper blanks) (x ∷ xs)))

-- the one mark of an element with nothing in it was written
pub Appended-element_empty :
    {X : Type 0} (f : X → Lines) (name : List ℕ) (attributes : List Attribute) (blanks : List ℕ) (xs : List X) (a b : Option (List ℕ)) → length xs ≡ 0 →
    Appended a b (start_mark blanks name attributes (codes "/>")) → Appended a b (concat (element_lines name attributes (map f xs) blanks))
Appended-element_empty f name attributes blanks xs a b h p = subst (Appended a b) (sym (text_empty f name attributes blanks xs h)) p

-- a prefix of the one mark of an element with nothing in it was written
pub AppendedPrefix-element_empty :
    {X : Type 0} (f : X → Lines) (name : List ℕ) (attributes : List Attribute) (blanks : List ℕ) (xs : List X) (a b : Option (List ℕ)) → length xs ≡ 0 →
    AppendedPrefix a b (start_mark blanks name attributes (codes "/>")) → AppendedPrefix a b (concat (element_lines name attributes (map f xs) blanks))
AppendedPrefix-element_empty f name attributes blanks xs a b h p = subst (AppendedPrefix a b) (sym (text_empty f name attributes blanks xs h)) p

-- an element was written, mark by mark
pub Appended-element :
    {X : Type 0} (f : X → Lines) (name : List ℕ) (attributes : List Attribute) (blanks : List ℕ) (xs : List X) (a b c d : Option (List ℕ)) → 0 < length xs →
    Appended a b (start_mark blanks name attributes (codes ">")) → Appended b c (concat (map (λ x. concat (f x (deeper blanks))) xs)) →
    Appended c d (end_mark blanks name) → Appended a d (concat (element_lines name attributes (map f xs) blanks))
Appended-element f name attributes blanks xs a b c d h p q r =
    let nodes = concat (map (λ x. concat (f x (deeper blanks))) xs) in
    let start = start_mark blanks name attributes (codes ">") in
    subst (Appended a d) (sym (text_filled f name attributes blanks xs h))
    (Appended-trans a b d start (nodes ++ end_mark blanks name) p (Appended-trans b c d nodes (end_mark blanks name) q r))

-- a prefix of the start mark of an element was written
pub AppendedPrefix-element_start :
    {X : Type 0} (f : X → Lines) (name : List ℕ) (attributes : List Attribute) (blanks : List ℕ) (xs : List X) (a b : Option (List ℕ)) → 0 < length xs →
    AppendedPrefix a b (start_mark blanks name attributes (codes ">")) → AppendedPrefix a b (concat (element_lines name attributes (map f xs) blanks))
AppendedPrefix-element_start f name attributes blanks xs a b h p =
    let nodes = concat (map (λ x. concat (f x (deeper blanks))) xs) in
    let start = start_mark blanks name attributes (codes ">") in
    subst (AppendedPrefix a b) (sym (text_filled f name attributes blanks xs h)) (AppendedPrefix-longer a b start (nodes ++ end_mark blanks name) p)

-- the start mark of an element was written, and a prefix of what is in it
pub AppendedPrefix-element_below :
    {X : Type 0} (f : X → Lines) (name : List ℕ) (attributes : List Attribute) (blanks : List ℕ) (xs : List X) (a b c : Option (List ℕ)) → 0 < length xs →
    Appended a b (start_mark blanks name attributes (codes ">")) → AppendedPrefix b c (concat (map (λ x. concat (f x (deeper blanks))) xs)) →
    AppendedPrefix a c (concat (element_lines name attributes (map f xs) blanks))
AppendedPrefix-element_below f name attributes blanks xs a b c h p q =
    let nodes = concat (map (λ x. concat (f x (deeper blanks))) xs) in
    let start = start_mark blanks name attributes (codes ">") in
    subst (AppendedPrefix a c) (sym (text_filled f name attributes blanks xs h))
    (AppendedPrefix-after a b c start (nodes ++ end_mark blanks name) p (AppendedPrefix-longer b c nodes (end_mark blanks name) q))

-- an element was written without its end mark, and a prefix of this
pub AppendedPrefix-element_end :
    {X : Type 0} (f : X → Lines) (name : List ℕ) (attributes : List Attribute) (blanks : List ℕ) (xs : List X) (a b c d : Option (List ℕ)) → 0 < length xs →
    Appended a b (start_mark blanks name attributes (codes ">")) → Appended b c (concat (map (λ x. concat (f x (deeper blanks))) xs)) →
    AppendedPrefix c d (end_mark blanks name) → AppendedPrefix a d (concat (element_lines name attributes (map f xs) blanks))
AppendedPrefix-element_end f name attributes blanks xs a b c d h p q r =
    let nodes = concat (map (λ x. concat (f x (deeper blanks))) xs) in
    let start = start_mark blanks name attributes (codes ">") in
    subst (AppendedPrefix a d) (sym (text_filled f name attributes blanks xs h))
    (AppendedPrefix-after a b d start (nodes ++ end_mark blanks name) p (AppendedPrefix-after b c d nodes (end_mark blanks name) q r))

-- ---- Items, one after the other

-- one more item was written
pub Appended-item :
    {X : Type 0} (f : X → List ℕ) (xs : List X) (i : ℕ) (x : X) (a b c : Option (List ℕ)) → i < length xs → x ≡ get_or xs i x →
    Appended a b (concat (map f (take i xs))) → Appended b c (f x) → Appended a c (concat (map f (take (i + 1) xs)))
Appended-item f xs i x a b c h e p q = Appended-map_more f xs i x a b c h p (subst (λ y. Appended b c (f y)) e q)

-- the items before a place were written, and a prefix of the next
pub AppendedPrefix-item :
    {X : Type 0} (f : X → List ℕ) (xs : List X) (i : ℕ) (x : X) (a b c : Option (List ℕ)) → i < length xs → x ≡ get_or xs i x →
    Appended a b (concat (map f (take i xs))) → AppendedPrefix b c (f x) → AppendedPrefix a c (concat (map f xs))
AppendedPrefix-item f xs i x a b c h e p q = AppendedPrefix-map_next f xs i x a b c h p (subst (λ y. AppendedPrefix b c (f y)) e q)

-- all items were written
pub Appended-all :
    {X : Type 0} (f : X → List ℕ) (xs : List X) (i : ℕ) (a b : Option (List ℕ)) → length xs ≤ i →
    Appended a b (concat (map f (take i xs))) → Appended a b (concat (map f xs))
Appended-all f xs i a b h p = subst (λ ys. Appended a b (concat (map f ys))) (take_all i xs h) p

-- a list that passes the test is empty
pub length_empty : {X : Type 0} (xs : List X) (is : Bool) → is ≡ (length xs == 0) → is ≡ true → length xs ≡ 0
length_empty xs is h t = grind (arith, nat_tests)

pub length_filled : {X : Type 0} (xs : List X) (is : Bool) → is ≡ (length xs == 0) → is ≡ false → 0 < length xs
length_filled xs is h f = grind (arith, nat_tests)

-- ---- Lines of nodes

lines_of_node :
    (t : Term) (nodes : List Term) → nodes ≡ written_below (out-Term t).kind (out-Term t).children →
    (printed t).lines ≡ element_lines (element_name (out-Term t).kind (out-Term t).id) (node_attributes (out-Term t)) (map (λ n. (printed n).lines) nodes)
lines_of_node t nodes h =
    let node = out-Term t in
    lines_out t ∙ ap (λ (ns : List Term). element_lines (element_name node.kind node.id) (node_attributes node) (map (λ n. (printed n).lines) ns)) (sym h)

node_empty :
    (t : Term) (nodes : List Term) (blanks : List ℕ) → nodes ≡ written_below (out-Term t).kind (out-Term t).children → length nodes ≡ 0 →
    node_mark blanks t (codes "/>") ≡ concat ((printed t).lines blanks)
node_empty t nodes blanks h e =
    let node = out-Term t in
    sym (ap (λ (ls : Lines). concat (ls blanks)) (lines_of_node t nodes h)
    ∙ text_empty (λ n. (printed n).lines) (element_name node.kind node.id) (node_attributes node) blanks nodes e)

-- the one mark of a node with nothing in it was written
pub Appended-node_empty :
    (t : Term) (nodes : List Term) (blanks : List ℕ) (a b : Option (List ℕ)) → nodes ≡ written_below (out-Term t).kind (out-Term t).children → length nodes ≡ 0 →
    Appended a b (node_mark blanks t (codes "/>")) → Appended a b (concat ((printed t).lines blanks))
Appended-node_empty t nodes blanks a b h e p = subst (Appended a b) (node_empty t nodes blanks h e) p

-- a prefix of the one mark of a node with nothing in it was written
pub AppendedPrefix-node_empty :
    (t : Term) (nodes : List Term) (blanks : List ℕ) (a b : Option (List ℕ)) → nodes ≡ written_below (out-Term t).kind (out-Term t).children → length nodes ≡ 0 →
    AppendedPrefix a b (node_mark blanks t (codes "/>")) → AppendedPrefix a b (concat ((printed t).lines blanks))
AppendedPrefix-node_empty t nodes blanks a b h e p = subst (AppendedPrefix a b) (node_empty t nodes blanks h e) p

-- a node was written, mark by mark
pub Appended-node :
    (t : Term) (nodes : List Term) (blanks : List ℕ) (a b c d : Option (List ℕ)) → nodes ≡ written_below (out-Term t).kind (out-Term t).children → 0 < length nodes →
    Appended a b (node_mark blanks t (codes ">")) → Appended b c (concat (map (λ n. concat ((printed n).lines (deeper blanks))) nodes)) →
    Appended c d (end_mark blanks (element_name (out-Term t).kind (out-Term t).id)) → Appended a d (concat ((printed t).lines blanks))
Appended-node t nodes blanks a b c d e h p q r =
    let node = out-Term t in
    subst (λ (ls : Lines). Appended a d (concat (ls blanks))) (sym (lines_of_node t nodes e))
    (Appended-element (λ n. (printed n).lines) (element_name node.kind node.id) (node_attributes node) blanks nodes a b c d h p q r)

-- a prefix of the start mark of a node was written
pub AppendedPrefix-node_start :
    (t : Term) (nodes : List Term) (blanks : List ℕ) (a b : Option (List ℕ)) → nodes ≡ written_below (out-Term t).kind (out-Term t).children → 0 < length nodes →
    AppendedPrefix a b (node_mark blanks t (codes ">")) → AppendedPrefix a b (concat ((printed t).lines blanks))
AppendedPrefix-node_start t nodes blanks a b e h p =
    let node = out-Term t in
    subst (λ (ls : Lines). AppendedPrefix a b (concat (ls blanks))) (sym (lines_of_node t nodes e))
    (AppendedPrefix-element_start (λ n. (printed n).lines) (element_name node.kind node.id) (node_attributes node) blanks nodes a b h p)

-- the start mark of a node was written, and a prefix of what is in it
pub AppendedPrefix-node_below :
    (t : Term) (nodes : List Term) (blanks : List ℕ) (a b c : Option (List ℕ)) → nodes ≡ written_below (out-Term t).kind (out-Term t).children → 0 < length nodes →
    Appended a b (node_mark blanks t (codes ">")) → AppendedPrefix b c (concat (map (λ n. concat ((printed n).lines (deeper blanks))) nodes)) →
    AppendedPrefix a c (concat ((printed t).lines blanks))
AppendedPrefix-node_below t nodes blanks a b c e h p q =
    let node = out-Term t in
    subst (λ (ls : Lines). AppendedPrefix a c (concat (ls blanks))) (sym (lines_of_node t nodes e))
    (AppendedPrefix-element_below (λ n. (printed n).lines) (element_name node.kind node.id) (node_attributes node) blanks nodes a b c h p q)

-- a node was written without its end mark, and a prefix of this
pub AppendedPrefix-node_end :
    (t : Term) (nodes : List Term) (blanks : List ℕ) (a b c d : Option (List ℕ)) → nodes ≡ written_below (out-Term t).kind (out-Term t).children → 0 < length nodes →
    Appended a b (node_mark blanks t (codes ">")) → Appended b c (concat (map (λ n. concat ((printed n).lines (deeper blanks))) nodes)) →
    AppendedPrefix c d (end_mark blanks (element_name (out-Term t).kind (out-Term t).id)) → AppendedPrefix a d (concat ((printed t).lines blanks))
AppendedPrefix-node_end t nodes blanks a b c d e h p q r =
    let node = out-Term t in
    subst (λ (ls : Lines). AppendedPrefix a d (concat (ls blanks))) (sym (lines_of_node t nodes e))
    (AppendedPrefix-element_end (λ n. (printed n).lines) (element_name node.kind node.id) (node_attributes node) blanks nodes a b c d h p q r)

-- ---- The file

grown : (is : Bool) (trees : List WrittenTree) (t : WrittenTree) → length trees ≤ length (if is then trees else trees ++ t ∷ [])
grown true trees t = omega arith
grown false trees t = omega (arith, length-append trees (t ∷ []))

with_tree-length : (trees : List WrittenTree) (t : WrittenTree) → length trees ≤ length (with_tree trees t)
with_tree-length trees t = grown (list_any (λ (known : WrittenTree). bytes_eq t.0 known.0) trees) trees t

with_trees-length : (trees more : List WrittenTree) → length trees ≤ length (with_trees trees more)
with_trees-length trees [] = omega arith
with_trees-length trees (t ∷ ts) = omega (arith, with_tree-length trees t, with_trees-length (with_tree trees t) ts)

trees_of-filled : (tree : Tree) → 0 < length (trees_of tree)
trees_of-filled tree = omega (arith, with_trees-length ((tree.main, (printed tree.term).lines ∷ []) ∷ []) (printed tree.term).opened)

-- the main tree is always there
pub written-filled : (tree : Tree) (ts : List Written) → map written ts ≡ trees_of tree → 0 < length ts
written-filled tree ts h = omega (arith, trees_of-filled tree, ap length h, length-map ts written)

-- the lines of the file are those of its root
pub file_lines :
    (tree : Tree) (ts : List Written) → map written ts ≡ trees_of tree →
    element_lines (codes "root") (root_attributes tree) (map (λ t. tree_element (written t)) ts) [] ≡ tree_lines tree
file_lines tree ts h =
    ap (λ (ls : List Lines). element_lines (codes "root") (root_attributes tree) ls []) (sym (map-map tree_element written ts) ∙ ap (map tree_element) h)
