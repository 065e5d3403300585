-- What is said of the leaves of a tree, node by node and element by element, is what the definition says of each ID.
use Rattle.std.proofs.Common.{◌≡◌, ℕ, ◌+◌, ◌<◌, ◌≤◌, length, get_or, drop, not, Bool, true, false, ◌&&◌, ◌||◌, cond, if◌then◌else◌, List, [], ◌∷◌, ◌++◌, map, filter, Option, Some, None, refl, sym, ap, ◌∙◌, subst, append_assoc, append-nil}
use Rattle.std.specs.Prelude.{bytes_eq, option_to_list}
use Rattle.std.specs.List.{flat_map, list_all, list_any}
use Rattle.std.specs.Cmp.Lexicographic.{nat_list_eq_equiv}
use Rattle.std.proofs.lemmas.Bool.{both_ways, or_right}
use Rattle.std.proofs.lemmas.List.{drop_all, drop_more, length-map, map-append, map-id}
use Rattle.std.proofs.lemmas.List.Concat.{flat_map-append}
use Rattle.std.proofs.lemmas.List.Folds.{flat_map-map, list_any-append}
use Rattle.std.proofs.lemmas.Simd.{map-map}
use Rattle.std.proofs.lemmas.Slice.Eq.{bytes_eq-Decides}
use Rattle.spec_run.specs.Joins.{is_leaf}
use Rattle.spec_serve.specs.Rows.{each_once, is_condition, is_of, model_elements, node_id, ports_given, Start, starts_in, starts_of, told_rows, tree_starts, with_name, with_names}
use Rattle.spec_tree.specs.declared.term.Kind.{Kind}
use Rattle.spec_tree.specs.declared.term.Kind.TheVariants.{Leaf}
use Rattle.spec_tree.specs.declared.term.Term.{Term, Term-F, fold_out-Term, fold-roll-Term, ind-Term, out-Term}
use Rattle.spec_tree.specs.Names.{is_among}
use Rattle.spec_tree.specs.Terms.{leaf_ids, own_leaf_id}
use Rattle.spec_tree.specs.Trees.{Node, names_of, nodes_of, nodes_step}
use Rattle.spec_tree_file.specs.declared.element.Element.{Element, fold_out-Element}
use Rattle.spec_tree_file.specs.Models.{children_of, holds_models, name_of}
use Rattle.cli_serve.specs.Leaves.{Leaves, Seen, after_start, after_starts, changed_at, ids_of, no_condition, own_node, own_start, row_of_leaf, unseen, with_id, with_node, with_nodes, without_condition}

-- ---- Names

-- two lists have the same members
abbrev SameMembers : List (List ℕ) → List (List ℕ) → Type 0
SameMembers xs ys = (name : List ℕ) → is_among name xs ≡ is_among name ys

-- a name that is not among some differs from each of them
pub apart : (name new : List ℕ) (ys : List (List ℕ)) → is_among new ys ≡ true → is_among name ys ≡ false → bytes_eq new name ≡ false
apart name new ys there gone = by (bytes_eq new name) refl
  where
    by : (b : Bool) → bytes_eq new name ≡ b → b ≡ false
    by false e = refl
    by true e = absurd (both_ways (is_among name ys) gone (ap (λ (x : List ℕ). is_among x ys) (sym ((bytes_eq-Decides new name).0 e)) ∙ there))

module _ {X : Type 0} (f g : List ℕ → X) (new : List ℕ) (differ : (id : List ℕ) → bytes_eq new id ≡ false → f id ≡ g id) where
  -- where two functions agree on all names but one that has stood before, so do they on names once each
  once_map : (xs ys names : List (List ℕ)) → SameMembers xs ys → is_among new ys ≡ true → map f (each_once xs names) ≡ map g (each_once ys names)
  once_map xs ys [] same there = refl
  once_map xs ys (name ∷ names) same there =
      ap (λ (b : Bool). map f (if b then each_once xs names else name ∷ each_once (name ∷ xs) names)) (same name)
      ∙ by (is_among name ys) refl (once_map xs ys names same there)
      (once_map (name ∷ xs) (name ∷ ys) names (λ n. ap (λ (b : Bool). bytes_eq n name || b) (same n)) (or_right (bytes_eq new name) (is_among new ys) there))
    where
      by : (b : Bool) → is_among name ys ≡ b → map f (each_once xs names) ≡ map g (each_once ys names) → map f (each_once (name ∷ xs) names) ≡ map g (each_once (name ∷ ys) names)
          → map f (if b then each_once xs names else name ∷ each_once (name ∷ xs) names) ≡ map g (if b then each_once ys names else name ∷ each_once (name ∷ ys) names)
      by true e before after = before
      by false e before after = ap (λ (x : X). x ∷ map f (each_once (name ∷ xs) names)) (differ name (apart name new ys there e)) ∙ ap (λ (all : List X). g name ∷ all) after

names_twice : (xs ys others : List (List ℕ)) → with_names ys (with_names xs others) ≡ with_names (xs ++ ys) others
names_twice [] ys others = refl
names_twice (x ∷ xs) ys others = names_twice xs ys (with_name x others)

-- ---- All that nodes say

-- that its nodes give these ports too
abbrev pub with_all_ports : List (List ℕ) → Seen → Seen
with_all_ports names seen = record seen { ports = with_names names seen.ports }

-- with a leaf of this ID that gives these ports
abbrev pub with_whole_leaf : List ℕ → List (List ℕ) → Leaves → Leaves
with_whole_leaf id ports leaves = changed_at id (with_all_ports ports) (with_id id leaves)

-- with a node, if it is a leaf
abbrev pub with_whole_node : Node → Leaves → Leaves
with_whole_node node leaves = if is_leaf node.kind then with_whole_leaf node.id (names_of node.ports) leaves else leaves

-- with some nodes
abbrev pub with_whole_nodes : List Node → Leaves → Leaves
with_whole_nodes [] leaves = leaves
with_whole_nodes (node ∷ nodes) leaves = with_whole_nodes nodes (with_whole_node node leaves)

-- ---- One node more

-- the IDs of the leaves among nodes
abbrev leaf_ids_in : List Node → List (List ℕ)
leaf_ids_in nodes = flat_map (λ (n : Node). own_leaf_id n.kind n.id) nodes

abbrev leaves_of : List ℕ → List Node → List Node
leaves_of id nodes = filter (λ (n : Node). is_leaf n.kind && bytes_eq n.id id) nodes

abbrev ports_of : List Node → List (List ℕ)
ports_of nodes = flat_map (λ (n : Node). names_of n.ports) nodes

-- the leaf of an ID that gives these ports, and one that was there before
abbrev fresh : (List ℕ → List (List ℕ)) → List ℕ → List ℕ × Seen
fresh given id = (id, with_all_ports (given id) unseen)

abbrev further : (List ℕ → List (List ℕ)) → List ℕ × Seen → List ℕ × Seen
further given leaf = (leaf.0, with_all_ports (given leaf.0) leaf.1)

-- leaves with those of these IDs, which give these ports
abbrev with_all : (List ℕ → List (List ℕ)) → List (List ℕ) → Leaves → Leaves
with_all given ids leaves = map (further given) leaves ++ map (fresh given) (each_once (ids_of leaves) ids)

abbrev given_by : List Node → List ℕ → List (List ℕ)
given_by nodes id = ports_of (leaves_of id nodes)

own_id : (kind : Kind) (id : List ℕ) → own_leaf_id kind id ≡ (if is_leaf kind then id ∷ [] else [])
own_id Leaf id = refl
own_id _ id = refl

module _ (id : List ℕ) (change : Seen → Seen) where
  same_ids : (leaves : Leaves) → ids_of (changed_at id change leaves) ≡ ids_of leaves
  same_ids [] = refl
  same_ids (leaf ∷ leaves) = ap (λ (x : List ℕ). x ∷ ids_of (changed_at id change leaves)) (by (bytes_eq id leaf.0)) ∙ ap (λ (xs : List (List ℕ)). leaf.0 ∷ xs) (same_ids leaves)
    where
      by : (b : Bool) → (if b then (leaf.0, change leaf.1) else leaf).0 ≡ leaf.0
      by true = refl
      by false = refl

module _ (node : Node) (nodes : List Node) where
  abbrev names : List (List ℕ)
  names = names_of node.ports

  -- the ports that leaves of an ID give, by whether the first node is a leaf of it
  abbrev given_if : Bool → List ℕ → List (List ℕ)
  given_if is id = ports_of (cond is (node ∷ leaves_of id nodes) (leaves_of id nodes))

  abbrev given_more : Bool → List ℕ → List (List ℕ)
  given_more leaf id = given_if (leaf && bytes_eq node.id id) id

  one_more : (leaf : List ℕ × Seen) → further (given_by nodes) (if bytes_eq node.id leaf.0 then (leaf.0, with_all_ports names leaf.1) else leaf) ≡ further (given_more true) leaf
  one_more leaf = by (bytes_eq node.id leaf.0)
    where
      by : (b : Bool) → further (given_by nodes) (if b then (leaf.0, with_all_ports names leaf.1) else leaf) ≡ (leaf.0, with_all_ports (given_if b leaf.0) leaf.1)
      by true = ap (λ (ports : List (List ℕ)). (leaf.0, record leaf.1 { ports = ports })) (names_twice names (given_by nodes leaf.0) leaf.1.ports)
      by false = refl

  all_more : (leaves : Leaves) → map (further (given_by nodes)) (changed_at node.id (with_all_ports names) leaves) ≡ map (further (given_more true)) leaves
  all_more [] = refl
  all_more (leaf ∷ leaves) =
      ap (λ (x : List ℕ × Seen). x ∷ map (further (given_by nodes)) (changed_at node.id (with_all_ports names) leaves)) (one_more leaf)
      ∙ ap (λ (xs : Leaves). further (given_more true) leaf ∷ xs) (all_more leaves)

  other_ports : (id : List ℕ) → bytes_eq node.id id ≡ false → fresh (given_by nodes) id ≡ fresh (given_more true) id
  other_ports id e = ap (λ (b : Bool). fresh (given_if b) id) (sym e)

  own_ports : further (given_by nodes) (node.id, with_all_ports names unseen) ≡ fresh (given_more true) node.id
  own_ports =
      ap (λ (ports : List (List ℕ)). (node.id, record unseen { ports = ports })) (names_twice names (given_by nodes node.id) [])
      ∙ ap (λ (b : Bool). fresh (given_if b) node.id) (sym (nat_list_eq_equiv.refl node.id))

  -- a leaf whose ID has stood before
  known : (leaves : Leaves) → is_among node.id (ids_of leaves) ≡ true
      → with_all (given_by nodes) (leaf_ids_in nodes) (changed_at node.id (with_all_ports names) leaves) ≡ with_all (given_more true) (node.id ∷ leaf_ids_in nodes) leaves
  known leaves there =
      let ids = leaf_ids_in nodes in
      ap (λ (before : List (List ℕ)). map (further (given_by nodes)) (changed_at node.id (with_all_ports names) leaves) ++ map (fresh (given_by nodes)) (each_once before ids)) (same_ids node.id (with_all_ports names) leaves)
      ∙ (λ i. all_more leaves i ++ once_map (fresh (given_by nodes)) (fresh (given_more true)) node.id other_ports (ids_of leaves) (ids_of leaves) ids (λ n. refl) there i)
      ∙ ap (λ (b : Bool). map (further (given_more true)) leaves ++ map (fresh (given_more true)) (if b then each_once (ids_of leaves) ids else node.id ∷ each_once (node.id ∷ ids_of leaves) ids)) (sym there)

  swapped : (xs : List (List ℕ)) → SameMembers (xs ++ node.id ∷ []) (node.id ∷ xs)
  swapped xs name = list_any-append (bytes_eq name) xs (node.id ∷ []) ∙ by (is_among name xs) (bytes_eq name node.id)
    where
      by : (a b : Bool) → (a || (b || false)) ≡ (b || a)
      by true true = refl
      by true false = refl
      by false true = refl
      by false false = refl

  last_ids : (leaves : Leaves) → ids_of (changed_at node.id (with_all_ports names) leaves ++ (node.id, with_all_ports names unseen) ∷ []) ≡ ids_of leaves ++ node.id ∷ []
  last_ids leaves =
      map-append (λ (leaf : List ℕ × Seen). leaf.0) (changed_at node.id (with_all_ports names) leaves) ((node.id, with_all_ports names unseen) ∷ [])
      ∙ ap (λ (ids : List (List ℕ)). ids ++ node.id ∷ []) (same_ids node.id (with_all_ports names) leaves)

  -- a leaf whose ID is new
  new : (leaves : Leaves) → is_among node.id (ids_of leaves) ≡ false
      → with_all (given_by nodes) (leaf_ids_in nodes) (changed_at node.id (with_all_ports names) (leaves ++ (node.id, unseen) ∷ [])) ≡ with_all (given_more true) (node.id ∷ leaf_ids_in nodes) leaves
  new leaves gone =
      let ids = leaf_ids_in nodes in
      let changed = changed_at node.id (with_all_ports names) leaves in
      let own : List ℕ × Seen = (node.id, with_all_ports names unseen) in
      let rest = map (fresh (given_more true)) (each_once (node.id ∷ ids_of leaves) ids) in
      ap (with_all (given_by nodes) ids)
      (map-append (λ (leaf : List ℕ × Seen). if bytes_eq node.id leaf.0 then (leaf.0, with_all_ports names leaf.1) else leaf) leaves ((node.id, unseen) ∷ [])
      ∙ ap (λ (b : Bool). changed ++ (if b then own else (node.id, unseen)) ∷ []) (nat_list_eq_equiv.refl node.id))
      ∙ (λ i. map-append (further (given_by nodes)) changed (own ∷ []) i ++ map (fresh (given_by nodes)) (each_once (last_ids leaves i) ids))
      ∙ (λ i. (all_more leaves i ++ own_ports i ∷ [])
      ++ once_map (fresh (given_by nodes)) (fresh (given_more true)) node.id other_ports (ids_of leaves ++ node.id ∷ []) (node.id ∷ ids_of leaves) ids (swapped (ids_of leaves))
      (ap (λ (b : Bool). b || is_among node.id (ids_of leaves)) (nat_list_eq_equiv.refl node.id)) i)
      ∙ append_assoc (map (further (given_more true)) leaves) (fresh (given_more true) node.id ∷ []) rest
      ∙ ap (λ (b : Bool). map (further (given_more true)) leaves ++ map (fresh (given_more true)) (if b then each_once (ids_of leaves) ids else node.id ∷ each_once (node.id ∷ ids_of leaves) ids)) (sym gone)

  node_more : (leaves : Leaves) → with_all (given_by nodes) (leaf_ids_in nodes) (with_whole_node node leaves) ≡ with_all (given_by (node ∷ nodes)) (leaf_ids_in (node ∷ nodes)) leaves
  node_more leaves =
      by (is_leaf node.kind) ∙ ap (λ (own : List (List ℕ)). with_all (given_by (node ∷ nodes)) (own ++ leaf_ids_in nodes) leaves) (sym (own_id node.kind node.id))
    where
      by_id : (b : Bool) → is_among node.id (ids_of leaves) ≡ b
          → with_all (given_by nodes) (leaf_ids_in nodes) (changed_at node.id (with_all_ports names) (if b then leaves else leaves ++ (node.id, unseen) ∷ [])) ≡ with_all (given_more true) (node.id ∷ leaf_ids_in nodes) leaves
      by_id true e = known leaves e
      by_id false e = new leaves e

      by : (b : Bool) → with_all (given_by nodes) (leaf_ids_in nodes) (if b then with_whole_leaf node.id names leaves else leaves)
          ≡ with_all (given_more b) ((if b then node.id ∷ [] else []) ++ leaf_ids_in nodes) leaves
      by true = by_id (is_among node.id (ids_of leaves)) refl
      by false = refl

-- leaves with those of some nodes
with_nodes_is : (nodes : List Node) (leaves : Leaves) → with_whole_nodes nodes leaves ≡ with_all (given_by nodes) (leaf_ids_in nodes) leaves
with_nodes_is [] leaves = sym (append-nil (map (further (λ id. [])) leaves) ∙ map-id leaves)
with_nodes_is (node ∷ nodes) leaves = with_nodes_is nodes (with_whole_node node leaves) ∙ node_more node nodes leaves

-- some nodes after others
pub nodes_after : (has : List ℕ → Bool) (xs ys : List Node) (leaves : Leaves) → with_nodes has (xs ++ ys) leaves ≡ with_nodes has ys (with_nodes has xs leaves)
nodes_after has [] ys leaves = refl
nodes_after has (x ∷ xs) ys leaves = nodes_after has xs ys (with_node has x leaves)

-- ---- The leaves of a tree

abbrev HasIds : Term → Type 0
HasIds t = leaf_ids t ≡ leaf_ids_in (nodes_of t)

abbrev AllHaveIds : List Term → Type 0
AllHaveIds ts = flat_map (λ (ids : List (List ℕ)). ids) (map leaf_ids ts) ≡ leaf_ids_in (flat_map (λ (ns : List Node). ns) (map nodes_of ts))

all_ids : (ts : List ((t : Term) × HasIds t)) → AllHaveIds (map (λ e. e.0) ts)
all_ids [] = refl
all_ids (e ∷ ts) =
    let others = map {B = Term} (λ x. x.0) ts in
    (λ i. e.1 i ++ all_ids ts i) ∙ sym (flat_map-append (λ (n : Node). own_leaf_id n.kind n.id) (nodes_of e.0) (flat_map (λ (ns : List Node). ns) (map nodes_of others)))

-- the IDs of the leaves are those of the nodes that are leaves
pub ids_in_nodes : (t : Term) → leaf_ids t ≡ leaf_ids_in (nodes_of t)
ids_in_nodes = ind-Term HasIds (λ x y is.
    let children = subst (λ (z : Term-F Term). AllHaveIds z.children) is (all_ids y.children) in
    fold-roll-Term (List (List ℕ)) (λ node. own_leaf_id node.kind node.id ++ flat_map (λ ids. ids) node.children) x
    ∙ ap (λ (ids : List (List ℕ)). own_leaf_id x.kind x.id ++ ids) children
    ∙ sym (ap leaf_ids_in (fold-roll-Term (List Node) nodes_step x)))

-- the leaves of a tree by its nodes
abbrev pub leaf_of : Term → List ℕ → List ℕ × Seen
leaf_of term id = (id, record { condition = true; ports = ports_given id term })

pub leaves_of_tree : (term : Term) → with_whole_nodes (nodes_of term) [] ≡ map (leaf_of term) (each_once [] (leaf_ids term))
leaves_of_tree term = with_nodes_is (nodes_of term) [] ∙ ap (λ (ids : List (List ℕ)). map (leaf_of term) (each_once [] ids)) (sym (ids_in_nodes term))

-- ---- Elements

-- whether each start of an ID is that of a condition
abbrev pub all_conditions : List ℕ → List Start → Bool
all_conditions id starts = list_all (λ (e : Start). is_condition e.name) (filter (λ (e : Start). is_of id e.name e.attributes) starts)

-- a leaf, of whose ID there are these starts too
abbrev pub marked : List Start → List ℕ × Seen → List ℕ × Seen
marked starts leaf = (leaf.0, record leaf.1 { condition = leaf.1.condition && all_conditions leaf.0 starts })

and_true : (b : Bool) → b ≡ (b && true)
and_true true = refl
and_true false = refl

and_false : (b : Bool) → false ≡ (b && false)
and_false true = refl
and_false false = refl

none_marked : (leaves : Leaves) → leaves ≡ map (marked []) leaves
none_marked [] = refl
none_marked (leaf ∷ leaves) =
    ap (λ (b : Bool). (leaf.0, record leaf.1 { condition = b }) ∷ leaves) (and_true leaf.1.condition)
    ∙ ap (λ (all : Leaves). marked [] leaf ∷ all) (none_marked leaves)

module _ (start : Start) (starts : List Start) where
  -- whether all starts of an ID are those of conditions, by whether the first is one, and whose it is
  abbrev all_if : Bool → Option (List ℕ) → List ℕ → Bool
  all_if is of id = if list_any (bytes_eq id) (option_to_list of) then is && all_conditions id starts else all_conditions id starts

  abbrev marked_if : Bool → Option (List ℕ) → List ℕ × Seen → List ℕ × Seen
  marked_if is of leaf = (leaf.0, record leaf.1 { condition = leaf.1.condition && all_if is of leaf.0 })

  all_is : (id : List ℕ) → all_if (is_condition start.name) (node_id start.name start.attributes) id ≡ all_conditions id (start ∷ starts)
  all_is id = by (is_of id start.name start.attributes)
    where
      by : (b : Bool) → (if b then is_condition start.name && all_conditions id starts else all_conditions id starts) ≡ list_all (λ (e : Start). is_condition e.name) (cond b (start ∷ filter (λ (e : Start). is_of id e.name e.attributes) starts) (filter (λ (e : Start). is_of id e.name e.attributes) starts))
      by true = refl
      by false = refl

  of_condition : (of : Option (List ℕ)) (leaf : List ℕ × Seen) → marked starts leaf ≡ marked_if true of leaf
  of_condition of leaf = by (list_any (bytes_eq leaf.0) (option_to_list of))
    where
      by : (b : Bool) → marked starts leaf ≡ (leaf.0, record leaf.1 { condition = leaf.1.condition && (if b then true && all_conditions leaf.0 starts else all_conditions leaf.0 starts) })
      by true = refl
      by false = refl

  of_action : (id : List ℕ) (leaf : List ℕ × Seen) → marked starts (if bytes_eq id leaf.0 then (leaf.0, no_condition leaf.1) else leaf) ≡ marked_if false (Some id) leaf
  of_action id leaf =
      by (bytes_eq id leaf.0)
      ∙ ap (λ (b : Bool). (leaf.0, record leaf.1 { condition = leaf.1.condition && (if b || false then false && all_conditions leaf.0 starts else all_conditions leaf.0 starts) })) (nat_list_eq_equiv.symm id leaf.0)
    where
      by : (b : Bool) → marked starts (if b then (leaf.0, no_condition leaf.1) else leaf)
          ≡ (leaf.0, record leaf.1 { condition = leaf.1.condition && (if b || false then false && all_conditions leaf.0 starts else all_conditions leaf.0 starts) })
      by true = ap (λ (b : Bool). (leaf.0, record leaf.1 { condition = b })) (and_false leaf.1.condition)
      by false = refl

  conditions : (of : Option (List ℕ)) (leaves : Leaves) → map (marked starts) leaves ≡ map (marked_if true of) leaves
  conditions of [] = refl
  conditions of (leaf ∷ leaves) = λ i. of_condition of leaf i ∷ conditions of leaves i

  actions : (id : List ℕ) (leaves : Leaves) → map (marked starts) (changed_at id no_condition leaves) ≡ map (marked_if false (Some id)) leaves
  actions id [] = refl
  actions id (leaf ∷ leaves) = λ i. of_action id leaf i ∷ actions id leaves i

  one_start : (is : Bool) (of : Option (List ℕ)) (leaves : Leaves) → map (marked starts) (if is then leaves else without_condition of leaves) ≡ map (marked_if is of) leaves
  one_start true of leaves = conditions of leaves
  one_start false None leaves = refl
  one_start false (Some id) leaves = actions id leaves

  whole_start : (leaves : Leaves) → map (marked_if (is_condition start.name) (node_id start.name start.attributes)) leaves ≡ map (marked (start ∷ starts)) leaves
  whole_start [] = refl
  whole_start (leaf ∷ leaves) = λ i. (leaf.0, record leaf.1 { condition = leaf.1.condition && all_is leaf.0 i }) ∷ whole_start leaves i

-- leaves after the starts of some elements
pub after_starts_is : (starts : List Start) (leaves : Leaves) → after_starts starts leaves ≡ map (marked starts) leaves
after_starts_is [] leaves = none_marked leaves
after_starts_is (start ∷ starts) leaves =
    after_starts_is starts (after_start start leaves)
    ∙ one_start start starts (is_condition start.name) (node_id start.name start.attributes) leaves
    ∙ whole_start start starts leaves

-- some starts after others
pub starts_after : (xs ys : List Start) (leaves : Leaves) → after_starts (xs ++ ys) leaves ≡ after_starts ys (after_starts xs leaves)
starts_after [] ys leaves = refl
starts_after (x ∷ xs) ys leaves = starts_after xs ys (after_start x leaves)

-- ---- Rows

-- the rows of the leaves of a tree, after the starts of the elements of its file
pub rows_are : (root : Element) (term : Term)
    → map (row_of_leaf (model_elements (children_of root))) (after_starts (tree_starts root) (with_whole_nodes (nodes_of term) [])) ≡ told_rows root term
rows_are root term =
    let rows = map (row_of_leaf (model_elements (children_of root))) in
    ap rows (after_starts_is (tree_starts root) (with_whole_nodes (nodes_of term) []) ∙ ap (map (marked (tree_starts root))) (leaves_of_tree term))
    ∙ ap rows (map-map (marked (tree_starts root)) (leaf_of term) (each_once [] (leaf_ids term)))
    ∙ map-map (row_of_leaf (model_elements (children_of root))) (λ id. marked (tree_starts root) (leaf_of term id)) (each_once [] (leaf_ids term))

-- ---- One child after another

-- a term's node, and then those of its children
nodes_out : (term : Term) → nodes_of term ≡ own_node term ∷ flat_map nodes_of (out-Term term).children
nodes_out term =
    let children = (out-Term term).children in
    fold_out-Term (List Node) nodes_step term
    ∙ ap (λ (count : ℕ). record (own_node term) { children = count } ∷ flat_map (λ (ns : List Node). ns) (map nodes_of children)) (length-map children nodes_of)
    ∙ ap (λ (ns : List Node). own_node term ∷ ns) (flat_map-map (λ (ns : List Node). ns) nodes_of children)

module _ (has : List ℕ → Bool) (items : List Term) (i : ℕ) where
  pub child_more : (child : Term) (leaves more whole : Leaves) → i < length items → child ≡ get_or items i child → more ≡ with_nodes has (nodes_of child) leaves
      → with_nodes has (flat_map nodes_of (drop i items)) leaves ≡ whole → with_nodes has (flat_map nodes_of (drop (i + 1) items)) more ≡ whole
  child_more child leaves more whole within is added so_far =
      ap (with_nodes has (flat_map nodes_of (drop (i + 1) items))) added
      ∙ sym (nodes_after has (nodes_of child) (flat_map nodes_of (drop (i + 1) items)) leaves)
      ∙ ap (λ (terms : List Term). with_nodes has (flat_map nodes_of terms) leaves)
      (ap (λ (t : Term). t ∷ drop (i + 1) items) is ∙ sym (drop_more items i child within))
      ∙ so_far

  pub all_children : (term : Term) (leaves old : Leaves) → length items ≤ i → items ≡ (out-Term term).children
      → with_nodes has (flat_map nodes_of (drop i items)) leaves ≡ with_nodes has (flat_map nodes_of items) (with_node has (own_node term) old) → leaves ≡ with_nodes has (nodes_of term) old
  all_children term leaves old ended is so_far =
      ap (λ (terms : List Term). with_nodes has (flat_map nodes_of terms) leaves) (sym (drop_all i items ended)) ∙ so_far
      ∙ ap (λ (terms : List Term). with_nodes has (flat_map nodes_of terms) (with_node has (own_node term) old)) is
      ∙ ap (λ (ns : List Node). with_nodes has ns old) (sym (nodes_out term))

-- an element's start, and then those in it
starts_out : (e : Element) → starts_of e ≡ own_start e ∷ flat_map starts_of (children_of e)
starts_out e =
    fold_out-Element (List Start) (λ e. record { name = e.name; attributes = e.attributes } ∷ flat_map (λ below. below) e.children) e
    ∙ ap (λ (ss : List Start). own_start e ∷ ss) (flat_map-map (λ (ss : List Start). ss) starts_of (children_of e))

module _ (items : List Element) (i : ℕ) where
  pub inner_more : (child : Element) (leaves more whole : Leaves) → i < length items → child ≡ get_or items i child → more ≡ after_starts (starts_of child) leaves
      → after_starts (flat_map starts_of (drop i items)) leaves ≡ whole → after_starts (flat_map starts_of (drop (i + 1) items)) more ≡ whole
  inner_more child leaves more whole within is marked so_far =
      ap (after_starts (flat_map starts_of (drop (i + 1) items))) marked
      ∙ sym (starts_after (starts_of child) (flat_map starts_of (drop (i + 1) items)) leaves)
      ∙ ap (λ (es : List Element). after_starts (flat_map starts_of es) leaves)
      (ap (λ (e : Element). e ∷ drop (i + 1) items) is ∙ sym (drop_more items i child within))
      ∙ so_far

  pub all_inner : (e : Element) (leaves old : Leaves) → length items ≤ i → items ≡ children_of e
      → after_starts (flat_map starts_of (drop i items)) leaves ≡ after_starts (flat_map starts_of items) (after_start (own_start e) old) → leaves ≡ after_starts (starts_of e) old
  all_inner e leaves old ended is so_far =
      ap (λ (es : List Element). after_starts (flat_map starts_of es) leaves) (sym (drop_all i items ended)) ∙ so_far
      ∙ ap (λ (es : List Element). after_starts (flat_map starts_of es) (after_start (own_start e) old)) is
      ∙ ap (λ (ss : List Start). after_starts ss old) (sym (starts_out e))

  first_starts : (e : Element) (es : List Element) → starts_in (e ∷ es) ≡ starts_in (e ∷ []) ++ starts_in es
  first_starts e es = by (not (holds_models (name_of e)))
    where
      by : (b : Bool) → flat_map starts_of (cond b (e ∷ filter (λ x. not (holds_models (name_of x))) es) (filter (λ x. not (holds_models (name_of x))) es))
          ≡ flat_map starts_of (cond b (e ∷ []) []) ++ starts_in es
      by true = ap (λ (ss : List Start). ss ++ starts_in es) (sym (append-nil (starts_of e)))
      by false = refl

  pub tree_more : (e : Element) (leaves more whole : Leaves) → i < length items → e ≡ get_or items i e → more ≡ after_starts (starts_in (e ∷ [])) leaves
      → after_starts (starts_in (drop i items)) leaves ≡ whole → after_starts (starts_in (drop (i + 1) items)) more ≡ whole
  tree_more e leaves more whole within is marked so_far =
      ap (after_starts (starts_in (drop (i + 1) items))) marked
      ∙ sym (starts_after (starts_in (e ∷ [])) (starts_in (drop (i + 1) items)) leaves)
      ∙ ap (λ (ss : List Start). after_starts ss leaves) (sym (first_starts e (drop (i + 1) items)))
      ∙ ap (λ (es : List Element). after_starts (starts_in es) leaves)
      (ap (λ (x : Element). x ∷ drop (i + 1) items) is ∙ sym (drop_more items i e within))
      ∙ so_far
