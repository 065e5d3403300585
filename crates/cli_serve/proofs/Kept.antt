-- What is kept of leaves makes the same rows as all that is said of them, up to those that are beyond the limits.
use Rattle.std.proofs.Common.{◌≡◌, ◌≤◌, ◌<◌, ℕ, suc, nat_le, Bool, true, false, ◌&&◌, if◌then◌else◌, List, [], ◌∷◌, ◌++◌, length, map, filter, Option, Some, None, Ok, Err, refl, sym, ap, subst, ◌∙◌, ◌⊎◌, inl, inr, arith}
use Rattle.std.specs.Prelude.{Result, Vec, bytes_eq, is_some}
use Rattle.std.specs.Global.{Global}
use Rattle.std.specs.List.{list_all}
use Rattle.std.proofs.lemmas.Bool.{and_parts, both_ways, leb-false, lt-leb}
use Rattle.std.proofs.lemmas.Slice.Eq.{bytes_eq-Decides}
use Rattle.cli_refusals.specs.declared.refusal.Refusal.{Refusal}
use Rattle.cli_refusals.specs.declared.refusal.Refusal.TheVariants as refusal
use Rattle.spec_run.specs.Joins.{is_leaf}
use Rattle.spec_serve.specs.Rows.{Start, is_before, is_small_row, model_elements, model_of, row_for, told_row, told_rows, told_sort, tree_starts, with_name, with_names}
use Rattle.spec_tree.specs.declared.term.Term.{Term}
use Rattle.spec_tree.specs.Limits.{most_made_ports, most_made_rows}
use Rattle.spec_tree.specs.Names.{is_among}
use Rattle.spec_tree.specs.Trees.{Node, names_of, nodes_of}
use Rattle.spec_tree_file.specs.declared.element.Element.{Element}
use Rattle.spec_tree_file.specs.Models.{children_of, is_model, name_of}
use Rattle.spec_world.specs.declared.world.Row.{Row}
use Rattle.spec_world.specs.Worlds.{outs_told}
use Rattle.cli_serve.proofs.Leaves.{after_starts_is, all_conditions, marked, rows_are, with_all_ports, with_whole_leaf, with_whole_node, with_whole_nodes}
use Rattle.cli_serve.specs.Leaves.{Leaves, Seen, after_starts, changed_at, ids_of, row_of_leaf, unseen, with_id, with_leaf, with_node, with_nodes, with_ports, with_some}
use Rattle.cli_serve.specs.Rows.{RowsGive}

-- ---- Names

abbrev candidates : List Element → List Element
candidates es = filter (λ m. is_model (name_of m)) es

-- there are no fewer with one more
longer : (name : List ℕ) (names : List (List ℕ)) → length names ≤ length (with_name name names)
longer name [] = omega arith
longer name (other ∷ names) = by (is_before name other) (bytes_eq name other) (longer name names)
  where
    by : (a b : Bool) → length names ≤ length (with_name name names)
        → length (other ∷ names) ≤ length (if a then name ∷ other ∷ names else if b then other ∷ names else other ∷ with_name name names)
    by true b more = omega arith
    by false true more = omega arith
    by false false more = omega (arith, more)

longer_all : (names others : List (List ℕ)) → length others ≤ length (with_names names others)
longer_all [] others = omega arith
longer_all (name ∷ names) others =
    let one = longer name others in
    let more = longer_all names (with_name name others) in
    omega (arith, one, more)

-- names are kept where they are all, or both are too many
abbrev AreKept : List (List ℕ) → List (List ℕ) → Type 0
AreKept kept all = (kept ≡ all) ⊎ ((most_made_ports < length kept) × (most_made_ports < length all))

kept_more : (names kept all : List (List ℕ)) → AreKept kept all → AreKept (with_some names kept) (with_names names all)
kept_more [] kept all are = are
kept_more (name ∷ names) kept all (inl same) =
    subst (λ (xs : List (List ℕ)). AreKept (with_some (name ∷ names) kept) (with_names (name ∷ names) xs)) same
    (by (nat_le (length kept) most_made_ports) refl (kept_more names (with_name name kept) (with_name name kept) (inl refl)))
  where
    by : (b : Bool) → nat_le (length kept) most_made_ports ≡ b → AreKept (with_some names (with_name name kept)) (with_names names (with_name name kept))
        → AreKept (if b then with_some names (with_name name kept) else kept) (with_names names (with_name name kept))
    by true e more = more
    by false e more =
        let over = leb-false (length kept) most_made_ports e in
        let long = longer_all (name ∷ names) kept in
        inr (over, omega (arith, over, long))
kept_more (name ∷ names) kept all (inr over) =
    subst (λ (b : Bool). AreKept (if b then with_some names (with_name name kept) else kept) (with_names (name ∷ names) all))
    (sym (lt-leb (length kept) most_made_ports over.0))
    (inr (over.0, let long = longer_all (name ∷ names) all in let all_over = over.1 in omega (arith, all_over, long)))

-- ---- Leaves

module _ (has : List ℕ → Bool) where
  -- ports that do not count, or are kept
  abbrev PortsAlike : Bool → List (List ℕ) → List (List ℕ) → Type 0
  PortsAlike true kept all = Unit {0}
  PortsAlike false kept all = AreKept kept all

  record IsAlike (kept all : List ℕ × Seen) : Type 0 where
    id : kept.0 ≡ all.0
    condition : kept.1.condition ≡ all.1.condition
    ports : PortsAlike (has all.0) kept.1.ports all.1.ports

  abbrev AllAlike : Leaves → Leaves → Type 0
  AllAlike [] [] = Unit {0}
  AllAlike [] (b ∷ all) = ⊥
  AllAlike (a ∷ kept) [] = ⊥
  AllAlike (a ∷ kept) (b ∷ all) = IsAlike a b × AllAlike kept all

  alike_ids : (kept all : Leaves) → AllAlike kept all → ids_of kept ≡ ids_of all
  alike_ids [] [] h = refl
  alike_ids [] (b ∷ all) h = absurd h
  alike_ids (a ∷ kept) [] h = absurd h
  alike_ids (a ∷ kept) (b ∷ all) h = λ i. h.0.id i ∷ alike_ids kept all h.1 i

  alike_last : (kept all : Leaves) (leaf : List ℕ × Seen) → AllAlike kept all → IsAlike leaf leaf → AllAlike (kept ++ leaf ∷ []) (all ++ leaf ∷ [])
  alike_last [] [] leaf h own = (own, tt)
  alike_last [] (b ∷ all) leaf h own = absurd h
  alike_last (a ∷ kept) [] leaf h own = absurd h
  alike_last (a ∷ kept) (b ∷ all) leaf h own = (h.0, alike_last kept all leaf h.1 own)

  new_alike : (id : List ℕ) → IsAlike (id, unseen) (id, unseen)
  new_alike id = record { id = refl; condition = refl; ports = by (has id) }
    where
      by : (b : Bool) → PortsAlike b [] []
      by true = tt
      by false = inl refl

  id_alike : (id : List ℕ) (kept all : Leaves) → AllAlike kept all → AllAlike (with_id id kept) (with_id id all)
  id_alike id kept all h =
      subst (λ (ids : List (List ℕ)). AllAlike (if is_among id ids then kept else kept ++ (id, unseen) ∷ []) (with_id id all)) (sym (alike_ids kept all h))
      (by (is_among id (ids_of all)))
    where
      by : (b : Bool) → AllAlike (if b then kept else kept ++ (id, unseen) ∷ []) (if b then all else all ++ (id, unseen) ∷ [])
      by true = h
      by false = alike_last kept all (id, unseen) h (new_alike id)

  module _ (id : List ℕ) (ports : List (List ℕ)) where
    ports_more : (b : Bool) (kept all : List (List ℕ)) → PortsAlike b kept all → PortsAlike b (with_some ports kept) (with_names ports all)
    ports_more true kept all h = tt
    ports_more false kept all h = kept_more ports kept all h

    one_more : (a b : List ℕ × Seen) → IsAlike a b
        → IsAlike (if bytes_eq id a.0 then (a.0, with_ports ports a.1) else a) (if bytes_eq id b.0 then (b.0, with_all_ports ports b.1) else b)
    one_more a b h =
        subst (λ (key : List ℕ). IsAlike (if bytes_eq id key then (a.0, with_ports ports a.1) else a) (if bytes_eq id b.0 then (b.0, with_all_ports ports b.1) else b)) (sym h.id)
        (by (bytes_eq id b.0))
      where
        by : (c : Bool) → IsAlike (if c then (a.0, with_ports ports a.1) else a) (if c then (b.0, with_all_ports ports b.1) else b)
        by true = record { id = h.id; condition = h.condition; ports = ports_more (has b.0) a.1.ports b.1.ports h.ports }
        by false = h

    changed_alike : (kept all : Leaves) → AllAlike kept all → AllAlike (changed_at id (with_ports ports) kept) (changed_at id (with_all_ports ports) all)
    changed_alike [] [] h = tt
    changed_alike [] (b ∷ all) h = absurd h
    changed_alike (a ∷ kept) [] h = absurd h
    changed_alike (a ∷ kept) (b ∷ all) h = (one_more a b h.0, changed_alike kept all h.1)

    one_kept : has id ≡ true → (a b : List ℕ × Seen) → IsAlike a b → IsAlike a (if bytes_eq id b.0 then (b.0, with_all_ports ports b.1) else b)
    one_kept modelled a b h = by (bytes_eq id b.0) refl
      where
        by : (c : Bool) → bytes_eq id b.0 ≡ c → IsAlike a (if c then (b.0, with_all_ports ports b.1) else b)
        by true same = record {
          id = h.id;
          condition = h.condition;
          ports = subst (λ (m : Bool). PortsAlike m a.1.ports (with_names ports b.1.ports)) (sym modelled ∙ ap has ((bytes_eq-Decides id b.0).0 same)) tt;
        }
        by false apart = h

    all_kept : has id ≡ true → (kept all : Leaves) → AllAlike kept all → AllAlike kept (changed_at id (with_all_ports ports) all)
    all_kept modelled [] [] h = tt
    all_kept modelled [] (b ∷ all) h = absurd h
    all_kept modelled (a ∷ kept) [] h = absurd h
    all_kept modelled (a ∷ kept) (b ∷ all) h = (one_kept modelled a b h.0, all_kept modelled kept all h.1)

    leaf_alike : (kept all : Leaves) → AllAlike kept all → AllAlike (with_leaf has id ports kept) (with_whole_leaf id ports all)
    leaf_alike kept all h = by (has id) refl
      where
        by : (b : Bool) → has id ≡ b → AllAlike (if b then with_id id kept else changed_at id (with_ports ports) (with_id id kept)) (with_whole_leaf id ports all)
        by true modelled = all_kept modelled (with_id id kept) (with_id id all) (id_alike id kept all h)
        by false none = changed_alike (with_id id kept) (with_id id all) (id_alike id kept all h)

  node_alike : (node : Node) (kept all : Leaves) → AllAlike kept all → AllAlike (with_node has node kept) (with_whole_node node all)
  node_alike node kept all h = by (is_leaf node.kind)
    where
      by : (b : Bool) → AllAlike (if b then with_leaf has node.id (names_of node.ports) kept else kept) (if b then with_whole_leaf node.id (names_of node.ports) all else all)
      by true = leaf_alike node.id (names_of node.ports) kept all h
      by false = h

  nodes_alike : (nodes : List Node) (kept all : Leaves) → AllAlike kept all → AllAlike (with_nodes has nodes kept) (with_whole_nodes nodes all)
  nodes_alike [] kept all h = h
  nodes_alike (node ∷ nodes) kept all h = nodes_alike nodes (with_node has node kept) (with_whole_node node all) (node_alike node kept all h)

  marked_alike : (starts : List Start) (kept all : Leaves) → AllAlike kept all → AllAlike (map (marked starts) kept) (map (marked starts) all)
  marked_alike starts [] [] h = tt
  marked_alike starts [] (b ∷ all) h = absurd h
  marked_alike starts (a ∷ kept) [] h = absurd h
  marked_alike starts (a ∷ kept) (b ∷ all) h = (
    record { id = h.0.id; condition = λ i. h.0.condition i && all_conditions (h.0.id i) starts; ports = h.0.ports },
    marked_alike starts kept all h.1,
  )

-- ---- Rows

-- the same row, or two that are beyond the limits
abbrev IsAlikeRow : Row → Row → Type 0
IsAlikeRow kept all = (kept ≡ all) ⊎ ((is_small_row kept ≡ false) × (is_small_row all ≡ false))

abbrev pub AllRowsAlike : List Row → List Row → Type 0
AllRowsAlike [] [] = Unit {0}
AllRowsAlike [] (b ∷ all) = ⊥
AllRowsAlike (a ∷ kept) [] = ⊥
AllRowsAlike (a ∷ kept) (b ∷ all) = IsAlikeRow a b × AllRowsAlike kept all

large : (id : List ℕ) (condition : Bool) (ports : List (List ℕ)) → most_made_ports < length ports → is_small_row (told_row id condition ports ports) ≡ false
large id condition ports over = ap (λ (b : Bool). b && nat_le (length (outs_told (told_sort condition ports))) most_made_ports) (lt-leb (length ports) most_made_ports over)

row_by : (m : Option Element) (id : List ℕ) (condition : Bool) (kept all : List (List ℕ)) → PortsAlike (λ id. true) (is_some m) kept all
    → IsAlikeRow (row_for m id condition kept) (row_for m id condition all)
row_by (Some model) id condition kept all h = inl refl
row_by None id condition kept all (inl same) = inl (ap (λ (ports : List (List ℕ)). told_row id condition ports ports) same)
row_by None id condition kept all (inr over) = inr (large id condition kept over.0, large id condition all over.1)

module _ (models : List Element) (has : List ℕ → Bool) (tells : (id : List ℕ) → has id ≡ is_some (model_of id models)) where
  row_alike : (a b : List ℕ × Seen) → IsAlike has a b → IsAlikeRow (row_of_leaf models a) (row_of_leaf models b)
  row_alike a b h =
      subst (λ (row : Row). IsAlikeRow row (row_of_leaf models b)) (sym (λ i. row_for (model_of (h.id i) models) (h.id i) (h.condition i) a.1.ports))
      (row_by (model_of b.0 models) b.0 b.1.condition a.1.ports b.1.ports (subst (λ (m : Bool). PortsAlike has m a.1.ports b.1.ports) (tells b.0) h.ports))

  rows_alike : (kept all : Leaves) → AllAlike has kept all → AllRowsAlike (map (row_of_leaf models) kept) (map (row_of_leaf models) all)
  rows_alike [] [] h = tt
  rows_alike [] (b ∷ all) h = absurd h
  rows_alike (a ∷ kept) [] h = absurd h
  rows_alike (a ∷ kept) (b ∷ all) h = (row_alike a b h.0, rows_alike kept all h.1)

-- the rows of what is kept of the leaves of a tree are alike to those of its IDs
pub rows_kept : (root : Element) (term : Term) (has : List ℕ → Bool) → ((id : List ℕ) → has id ≡ is_some (model_of id (model_elements (children_of root))))
    → AllRowsAlike (map (row_of_leaf (model_elements (children_of root))) (after_starts (tree_starts root) (with_nodes has (nodes_of term) []))) (told_rows root term)
rows_kept root term has tells =
    let models = model_elements (children_of root) in
    let kept = with_nodes has (nodes_of term) [] in
    let all = with_whole_nodes (nodes_of term) [] in
    subst (λ (rows : List Row). AllRowsAlike (map (row_of_leaf models) (after_starts (tree_starts root) kept)) rows) (rows_are root term)
    (subst (λ (leaves : Leaves). AllRowsAlike (map (row_of_leaf models) leaves) (map (row_of_leaf models) (after_starts (tree_starts root) all))) (sym (after_starts_is (tree_starts root) kept))
    (subst (λ (leaves : Leaves). AllRowsAlike (map (row_of_leaf models) (map (marked (tree_starts root)) kept)) (map (row_of_leaf models) leaves)) (sym (after_starts_is (tree_starts root) all))
    (rows_alike models has tells (map (marked (tree_starts root)) kept) (map (marked (tree_starts root)) all)
    (marked_alike has (tree_starts root) kept all (nodes_alike has (nodes_of term) [] [] tt)))))

-- ---- What is answered for them

count_alike : (kept all : List Row) → AllRowsAlike kept all → length kept ≡ length all
count_alike [] [] h = refl
count_alike [] (b ∷ all) h = absurd h
count_alike (a ∷ kept) [] h = absurd h
count_alike (a ∷ kept) (b ∷ all) h = ap suc (count_alike kept all h.1)

small_by : (a b : Row) → IsAlikeRow a b → is_small_row a ≡ is_small_row b
small_by a b (inl same) = ap is_small_row same
small_by a b (inr over) = over.0 ∙ sym over.1

small_alike : (kept all : List Row) → AllRowsAlike kept all → list_all is_small_row kept ≡ list_all is_small_row all
small_alike [] [] h = refl
small_alike [] (b ∷ all) h = absurd h
small_alike (a ∷ kept) [] h = absurd h
small_alike (a ∷ kept) (b ∷ all) h = λ i. small_by a b h.0 i && small_alike kept all h.1 i

same_by : (a b : Row) → IsAlikeRow a b → is_small_row a ≡ true → a ≡ b
same_by a b (inl same) small = same
same_by a b (inr over) small = absurd (both_ways (is_small_row a) over.0 small)

same_rows : (kept all : List Row) → AllRowsAlike kept all → list_all is_small_row kept ≡ true → kept ≡ all
same_rows [] [] h small = refl
same_rows [] (b ∷ all) h small = absurd h
same_rows (a ∷ kept) [] h small = absurd h
same_rows (a ∷ kept) (b ∷ all) h small =
    let parts = and_parts (is_small_row a) (list_all is_small_row kept) small in
    λ i. same_by a b h.0 parts.0 i ∷ same_rows kept all h.1 parts.1 i

-- what is answered for rows is so for those that are alike
pub gives_alike : (result : Result (Vec Row Global) Refusal) (kept all : List Row) → AllRowsAlike kept all → RowsGive result kept → RowsGive result all
gives_alike (Ok rows) kept all h gives =
    let same = same_rows kept all h gives.2 in
    subst (λ (these : List Row). RowsGive (Ok rows) these) same gives
gives_alike (Err refusal.NoMemory) kept all h gives = tt
gives_alike (Err fault) kept all h gives = (
  gives.0,
  sym (λ i. nat_le (count_alike kept all h i) most_made_rows && small_alike kept all h i) ∙ gives.1,
)

-- what is answered for the rows of what is kept of the leaves of a tree is so for those of its IDs
pub gives_kept : (root : Element) (term : Term) (has : List ℕ → Bool) (models : List Element) (leaves : Leaves) (result : Result (Vec Row Global) Refusal)
    → candidates models ≡ model_elements (children_of root) → ((id : List ℕ) → has id ≡ is_some (model_of id (candidates models)))
    → leaves ≡ after_starts (tree_starts root) (with_nodes has (nodes_of term) [])
    → RowsGive result (map (row_of_leaf (candidates models)) leaves) → RowsGive result (told_rows root term)
gives_kept root term has models leaves result are tells is gives =
    gives_alike result (map (row_of_leaf (model_elements (children_of root))) (after_starts (tree_starts root) (with_nodes has (nodes_of term) []))) (told_rows root term)
    (rows_kept root term has (λ id. tells id ∙ ap (λ (ms : List Element). is_some (model_of id ms)) are))
    (subst (λ (rows : List Row). RowsGive result rows) (λ i. map (row_of_leaf (are i)) (is i)) gives)
