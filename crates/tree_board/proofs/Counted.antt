-- The cells that are found while a tree is gone through, and how many they are.
use Rattle.std.proofs.Common.{◌≡◌, ◌≤◌, ◌<◌, ℕ, List, [], ◌∷◌, ◌++◌, Bool, true, false, true≢false, ◌||◌, cond, map, length, nat_le, Some, Result, Ok, Err, append_assoc, append-nil, ◌+◌, refl, sym, ap, subst, ◌∙◌, arith}
use Rattle.std.proofs.lemmas.Bool.Decides.{nat_tests}
use Rattle.std.proofs.lemmas.Cmp.{eq_by_cmp_equiv}
use Rattle.std.proofs.lemmas.List.Folds.{list_any-append}
use Rattle.std.proofs.lemmas.Map.Keys.{IsDistinct-from_sorted}
use Rattle.std.proofs.lemmas.Map.Made.{length-le_from_is_member}
use Rattle.std.proofs.lemmas.Slice.Eq.{bytes_eq-Decides}
use Rattle.std.specs.BTreeSet.{BTreeSet, insert_key}
use Rattle.std.specs.List.{flat_map, list_any}
use Rattle.std.specs.List.Sorted.{IsStrictlySortedBy}
use Rattle.std.specs.Ordering.{match_ordering}
use Rattle.std.specs.Str.{bytes_eq}
use Rattle.std.specs.declared.cmp.Ordering.TheVariants.{Less, Equal, Greater}
use Rattle.base_texts.specs.declared.stop.Stop.{Stop}
use Rattle.base_texts.specs.declared.stop.Stop.TheVariants as stop
use Rattle.indexmap.specs.IndexSet.{insert_all}
use Rattle.spec_tree.specs.declared.cell.Cell.{Cell}
use Rattle.spec_tree.specs.declared.cell.Naming.{Naming}
use Rattle.spec_tree.specs.declared.term.Kind.TheVariants.{SubTree}
use Rattle.spec_tree.specs.declared.term.Port.{Port}
use Rattle.spec_tree.specs.declared.term.Term.{Term, out-Term}
use Rattle.spec_tree.specs.Boards.{Scope, literal_names, main_scope, named_in, cell_order, in_order, placed, placed_by, scope_below}
use Rattle.tree_board.specs.declared.counting.Inner.{Inner}
use Rattle.tree_board.specs.declared.counting.TooMany.{TooMany}
use Rattle.tree_board.specs.Countings.{AreAmong, Found, cells_left, cells_named, found_so_far}
use Rattle.tree_board.specs.Namings.{HaveSame, keys_of_node, namings_of_term, namings_of_terms}
use Rattle.tree_board.proofs.CellOrder.{cells_total, in_order_any, in_order_is, placed_any}
use Rattle.tree_board.proofs.Named.{any_of_all, both_same, list_any-map, or_assoc, same_from, then_same}
use Rattle.tree_board.proofs.Standings.{other_namings, subtree_namings}

-- ---- a cell is added

inserted : (cell : Cell) (cells : List Cell) → insert_key cell_order cells cell ≡ placed cell cells
inserted cell [] = refl
inserted cell (first ∷ rest) =
    elim (cell_order cell first) as (λ o. match_ordering o (cell ∷ first ∷ rest) (first ∷ rest) (first ∷ insert_key cell_order rest cell) ≡ placed_by o cell first rest (placed cell rest)) [
      | Less ↦ refl
      | Equal ↦ refl
      | Greater ↦ ap (λ (cells : List Cell). first ∷ cells) (inserted cell rest)
    ]

or_last : (a b : Bool) → a || b ≡ b || (a || false)
or_last true true = refl
or_last true false = refl
or_last false true = refl
or_last false false = refl

-- an inserted cell is there with those before
pub added : (before now : List Cell) (cell : Cell) → now ≡ insert_key cell_order before cell → HaveSame now (before ++ cell ∷ [])
added before now cell is p =
    ap (list_any p) (is ∙ inserted cell before)
    ∙ placed_any p cell before
    ∙ or_last (p cell) (list_any p before)
    ∙ sym (list_any-append p before (cell ∷ []))

or_swap : (a b c : Bool) → (a || b) || c ≡ (a || c) || b
or_swap true b c = refl
or_swap false true true = refl
or_swap false true false = refl
or_swap false false true = refl
or_swap false false false = refl

-- and so it is beside the cells of some keys
pub added_beside : (before now keys : List Cell) (cell : Cell) → now ≡ insert_key cell_order before cell → HaveSame (now ++ keys) ((before ++ keys) ++ cell ∷ [])
added_beside before now keys cell is p =
    list_any-append p now keys
    ∙ ap (λ b. b || list_any p keys) (added before now cell is p ∙ list_any-append p before (cell ∷ []))
    ∙ or_swap (list_any p before) (list_any p (cell ∷ [])) (list_any p keys)
    ∙ ap (λ b. b || list_any p (cell ∷ [])) (sym (list_any-append p before keys))
    ∙ sym (list_any-append p (before ++ keys) (cell ∷ []))

-- ---- what is found, and more

or_left : (a b : Bool) → a ≡ true → a || b ≡ true
or_left true b e = refl
or_left false b e = absurd (true≢false (sym e))

or_right : (a b : Bool) → b ≡ true → a || b ≡ true
or_right true b e = refl
or_right false b e = e

-- what has been found is the same by another word for all
pub found_as : {X : Type 0} (r : Result X (Stop TooMany)) (most : ℕ) (scope : Scope) (keys : List (List ℕ)) (cells : BTreeSet Cell) (all others : List Cell)
    → HaveSame all others → Found r most scope keys cells all → Found r most scope keys cells others
found_as (Ok x) most scope keys cells all others same found = λ p. found p ∙ same p
found_as (Err stop.NoMemory) most scope keys cells all others same found = tt
found_as (Err (stop.Fault e)) most scope keys cells all others same found = (λ p h. sym (same p) ∙ found.0 p h, found.1)

-- where a call stops, what it found is a part of the whole
pub stopped : {X : Type 0} (Y : Type 0) (r : Result X (Stop TooMany)) (e : Stop TooMany) (most : ℕ) (scope others : Scope) (keys keys' : List (List ℕ)) (cells : BTreeSet Cell) (some rest whole : List Cell)
    → r ≡ Err e → Found {X = Y} (Err e) most others keys' cells some → HaveSame (some ++ rest) whole → Found r most scope keys cells whole
stopped {X} Y r e most scope others keys keys' cells some rest whole is found same =
    subst (λ (x : Result X (Stop TooMany)). Found x most scope keys cells whole) (sym is) (by e found)
  where
    by : (e : Stop TooMany) → Found {X = Y} (Err e) most others keys' cells some → Found {X = X} (Err e) most scope keys cells whole
    by stop.NoMemory found = tt
    by (stop.Fault f) found = (λ p held. sym (same p) ∙ list_any-append p some rest ∙ or_left (list_any p some) (list_any p rest) (found.0 p held), found.1)

-- the cells are among them, where they are all with those of some keys
pub among_found : (cells keys all : List Cell) → HaveSame (cells ++ keys) all → AreAmong cells all
among_found cells keys all same p held = sym (same p) ∙ list_any-append p cells keys ∙ or_left (list_any p cells) (list_any p keys) held

-- ---- keys of a scope

-- keys, each once, have the cells that they have when they are told again and again
pub cells_once : (scope : Scope) (before names now : List (List ℕ)) → now ≡ insert_all bytes_eq before names → HaveSame (map scope now) (map scope before ++ map scope names)
cells_once scope before names now is p =
    let test = λ (key : List ℕ). p (scope key) in
    list_any-map p scope now
    ∙ ap (list_any test) is
    ∙ any_of_all test before names
    ∙ sym (list_any-append p (map scope before) (map scope names)
    ∙ ap (λ b. b || list_any p (map scope names)) (list_any-map p scope before)
    ∙ ap (λ b. list_any test before || b) (list_any-map p scope names))

-- one more key
pub key_added : (scope : Scope) (before now : List (List ℕ)) (key : List ℕ) (cells : List Cell) (cell : Cell) → now ≡ insert_all bytes_eq before (key ∷ []) → cell ≡ scope key
    → HaveSame (cells ++ map scope now) ((cells ++ map scope before) ++ cell ∷ [])
key_added scope before now key cells cell is is_cell =
    then_same _ _ _ (both_same cells cells _ _ (λ p. refl) (cells_once scope before (key ∷ []) now is))
    (same_from _ _ (sym (append_assoc cells (map scope before) (scope key ∷ [])) ∙ ap (λ (c : Cell). (cells ++ map scope before) ++ c ∷ []) (sym is_cell)))

-- keys that are held have the same cells by two scopes that agree on them
pub held_alike : (f g : Scope) (keys : List (List ℕ)) → ((key : List ℕ) → list_any (bytes_eq key) keys ≡ true → f key ≡ g key) → map f keys ≡ map g keys
held_alike f g [] alike = refl
held_alike f g (key ∷ keys) alike = λ i.
    alike key (or_left (bytes_eq key key) (list_any (bytes_eq key) keys) ((bytes_eq-Decides key key).1 refl)) i
    ∷ held_alike f g keys (λ other held. alike other (or_right (bytes_eq other key) (list_any (bytes_eq other) keys) held)) i

-- ---- what a node names, and its children

pub cells_both : (xs ys : List Naming) → cells_named (xs ++ ys) ≡ cells_named xs ++ cells_named ys
cells_both [] ys = refl
cells_both (x ∷ xs) ys = ap (λ (cells : List Cell). x.cell ∷ cells) (cells_both xs ys)

cells_here : (number : ℕ) (scope : Scope) (keys : List (List ℕ)) → cells_named (map (named_in number scope) keys) ≡ map scope keys
cells_here number scope [] = refl
cells_here number scope (key ∷ keys) = ap (λ (cells : List Cell). scope key ∷ cells) (cells_here number scope keys)

-- the cells of what a node names that is no SubTree node
pub other_cells : (t : Term) (uid number : ℕ) (scope : Scope) → ((out-Term t).kind ≡ SubTree → ⊥)
    → cells_named (namings_of_term t uid number scope) ≡ map scope (keys_of_node t) ++ cells_named (namings_of_terms (out-Term t).children (uid + 1) number scope)
other_cells t uid number scope other =
    let children = namings_of_terms (out-Term t).children (uid + 1) number scope in
    ap cells_named (other_namings t uid number scope other)
    ∙ cells_both (map (named_in number scope) (keys_of_node t)) children
    ∙ ap (λ (cells : List Cell). cells ++ cells_named children) (cells_here number scope (keys_of_node t))

-- and of a SubTree node
pub subtree_cells : (t : Term) (uid number : ℕ) (scope : Scope) → (out-Term t).kind ≡ SubTree
    → cells_named (namings_of_term t uid number scope)
    ≡ map scope (keys_of_node t) ++ map (scope_below uid (out-Term t).ports (out-Term t).autoremap scope) (literal_names (out-Term t).ports)
    ++ cells_named (namings_of_terms (out-Term t).children (uid + 1) uid (scope_below uid (out-Term t).ports (out-Term t).autoremap scope))
subtree_cells t uid number scope is_subtree =
    let below = scope_below uid (out-Term t).ports (out-Term t).autoremap scope in
    let names = literal_names (out-Term t).ports in
    let own = map (named_in number scope) (keys_of_node t) in
    let children = namings_of_terms (out-Term t).children (uid + 1) uid below in
    ap cells_named (subtree_namings t uid number scope uid below is_subtree refl (λ key. refl))
    ∙ cells_both (own ++ map (named_in uid below) names) children
    ∙ ap (λ (cells : List Cell). cells ++ cells_named children) (cells_both own (map (named_in uid below) names))
    ∙ (λ i. (cells_here number scope (keys_of_node t) i ++ cells_here uid below names i) ++ cells_named children)

or_moved : (a k o c : Bool) → (a || (k || o)) || c ≡ (a || k) || (o || c)
or_moved true k o c = refl
or_moved false true o c = refl
or_moved false false o c = refl

-- what a node names that makes no scope, and then its children
pub other_found : (cells keys keys' own children whole : List Cell) → HaveSame keys' (keys ++ own) → whole ≡ own ++ children
    → HaveSame ((cells ++ keys') ++ children) ((cells ++ keys) ++ whole)
other_found cells keys keys' own children whole node is p =
    let n = list_any p cells in
    let k = list_any p keys in
    let o = list_any p own in
    let c = list_any p children in
    list_any-append p (cells ++ keys') children
    ∙ ap (λ b. b || c) (list_any-append p cells keys' ∙ ap (λ b. n || b) (node p ∙ list_any-append p keys own))
    ∙ or_moved n k o c
    ∙ ap (λ b. b || (o || c)) (sym (list_any-append p cells keys))
    ∙ ap (λ b. list_any p (cells ++ keys) || b) (sym (ap (list_any p) is ∙ list_any-append p own children))
    ∙ sym (list_any-append p (cells ++ keys) whole)

subtree_or : (a k o i l : Bool) → (a || (k || o)) || (i || l) ≡ (a || i) || (k || (o || l))
subtree_or true k o i l = refl
subtree_or false true o true l = refl
subtree_or false true o false l = refl
subtree_or false false true true l = refl
subtree_or false false true false l = refl
subtree_or false false false true l = refl
subtree_or false false false false l = refl

whole_or : (a c k o n : Bool) → ((a || false) || c) || (k || (o || n)) ≡ (a || k) || ((o || n) || c)
whole_or true c k o n = refl
whole_or false true true o n = refl
whole_or false false true o n = refl
whole_or false true false true n = refl
whole_or false false false true n = refl
whole_or false true false false true = refl
whole_or false true false false false = refl
whole_or false false false false true = refl
whole_or false false false false false = refl

-- what a SubTree node names, of which its children are known
pub children_found : (cells keys own names children whole : List Cell) → whole ≡ (own ++ names) ++ children
    → HaveSame (((cells ++ []) ++ children) ++ (keys ++ own ++ names)) ((cells ++ keys) ++ whole)
children_found cells keys own names children whole is p =
    let n = list_any p cells in
    let k = list_any p keys in
    let o = list_any p own in
    let m = list_any p names in
    let c = list_any p children in
    list_any-append p ((cells ++ []) ++ children) (keys ++ own ++ names)
    ∙ (λ i. (list_any-append p (cells ++ []) children ∙ ap (λ b. b || c) (list_any-append p cells [])) i
    || (list_any-append p (keys ++ own) names ∙ ap (λ b. b || m) (list_any-append p keys own) ∙ or_assoc k o m) i)
    ∙ whole_or n c k o m
    ∙ ap (λ b. b || ((o || m) || c)) (sym (list_any-append p cells keys))
    ∙ ap (λ b. list_any p (cells ++ keys) || b) (sym (ap (list_any p) is ∙ list_any-append p (own ++ names) children ∙ ap (λ b. b || c) (list_any-append p own names)))
    ∙ sym (list_any-append p (cells ++ keys) whole)

-- and then the keys that are named in its scope
pub subtree_found : (cells cells' keys keys' own inner inner' names children whole : List Cell) → HaveSame keys' (keys ++ own) → HaveSame inner' (inner ++ names)
    → HaveSame (cells' ++ inner) ((cells ++ []) ++ children) → whole ≡ (own ++ names) ++ children → HaveSame ((cells' ++ keys') ++ inner') ((cells ++ keys) ++ whole)
subtree_found cells cells' keys keys' own inner inner' names children whole node below found is p =
    let k = list_any p keys in
    let o = list_any p own in
    let m = list_any p names in
    list_any-append p (cells' ++ keys') inner'
    ∙ (λ i. (list_any-append p cells' keys' ∙ ap (λ b. list_any p cells' || b) (node p ∙ list_any-append p keys own)) i || (below p ∙ list_any-append p inner names) i)
    ∙ subtree_or (list_any p cells') k o (list_any p inner) m
    ∙ ap (λ b. b || (k || (o || m))) (sym (list_any-append p cells' inner) ∙ found p)
    ∙ ap (λ b. list_any p ((cells ++ []) ++ children) || b)
    (sym (list_any-append p (keys ++ own) names ∙ ap (λ b. b || m) (list_any-append p keys own) ∙ or_assoc k o m))
    ∙ sym (list_any-append p ((cells ++ []) ++ children) (keys ++ own ++ names))
    ∙ children_found cells keys own names children whole is p

-- what is found when the scope of a SubTree node has been left
pub subtree_left : (term : Term) (uid number first : ℕ) (scope : Scope) (keys keys' none named named' listed : List (List ℕ)) (cells cells' : BTreeSet Cell) (inner : Inner) (ports : List Port) (terms : List Term)
    → (out-Term term).kind ≡ SubTree → ports ≡ (out-Term term).ports → terms ≡ (out-Term term).children → first ≡ uid + 1 → none ≡ [] → listed ≡ named'
    → keys' ≡ insert_all bytes_eq keys (keys_of_node term)
    → ((n : ℕ) (s : Scope) → HaveSame (found_so_far s named cells') (found_so_far s none cells ++ cells_named (namings_of_terms terms first n s)))
    → named' ≡ insert_all bytes_eq named (literal_names ports)
    → ((outer : Scope) (key : List ℕ) → list_any (bytes_eq key) named' ≡ true → cells_left inner outer key ≡ scope_below uid ports (out-Term term).autoremap outer key)
    → HaveSame (found_so_far scope keys' cells' ++ map (cells_left inner scope) listed) (found_so_far scope keys cells ++ cells_named (namings_of_term term uid number scope))
subtree_left term uid number first scope keys keys' none named named' listed cells cells' inner ports terms is_subtree is_ports is_terms is_first is_none is_listed is_keys found is_named is_inner =
    let node = out-Term term in
    let below = scope_below uid node.ports node.autoremap scope in
    let left = cells_left inner scope in
    let alike : map left listed ≡ map below named' =
    ap (map left) is_listed
    ∙ held_alike left below named' (λ key held. is_inner scope key held ∙ ap (λ (ps : List Port). scope_below uid ps node.autoremap scope key) is_ports) in
    then_same _ _ _ (same_from _ _ (ap (λ (cs : List Cell). found_so_far scope keys' cells' ++ cs) alike))
    (subtree_found cells.keys cells'.keys (map scope keys) (map scope keys') (map scope (keys_of_node term)) (map below named) (map below named')
    (map below (literal_names node.ports)) (cells_named (namings_of_terms node.children (uid + 1) uid below)) _
    (cells_once scope keys (keys_of_node term) keys' is_keys)
    (cells_once below named (literal_names node.ports) named' (is_named ∙ ap (λ (ps : List Port). insert_all bytes_eq named (literal_names ps)) is_ports))
    (then_same _ _ _ (found uid below) (same_from _ _ (λ i. (cells.keys ++ map below (is_none i)) ++ cells_named (namings_of_terms (is_terms i) (is_first i) uid below))))
    (subtree_cells term uid number scope is_subtree))

-- the cells that are still to come beside those of its children
abbrev pub beside_children : Term → ℕ → Scope → List (List ℕ) → List Cell
beside_children term uid scope keys =
    map scope keys ++ map scope (keys_of_node term)
    ++ map (scope_below uid (out-Term term).ports (out-Term term).autoremap scope) (literal_names (out-Term term).ports)

pub subtree_children : (term : Term) (uid number first : ℕ) (scope : Scope) (keys none : List (List ℕ)) (cells : BTreeSet Cell) (terms : List Term)
    → (out-Term term).kind ≡ SubTree → terms ≡ (out-Term term).children → first ≡ uid + 1 → none ≡ []
    → HaveSame ((found_so_far (scope_below uid (out-Term term).ports (out-Term term).autoremap scope) none cells
    ++ cells_named (namings_of_terms terms first uid (scope_below uid (out-Term term).ports (out-Term term).autoremap scope))) ++ beside_children term uid scope keys)
    (found_so_far scope keys cells ++ cells_named (namings_of_term term uid number scope))
subtree_children term uid number first scope keys none cells terms is_subtree is_terms is_first is_none =
    let node = out-Term term in
    let below = scope_below uid node.ports node.autoremap scope in
    then_same _ _ _
    (same_from _ _ (λ i. ((cells.keys ++ map below (is_none i)) ++ cells_named (namings_of_terms (is_terms i) (is_first i) uid below)) ++ beside_children term uid scope keys))
    (children_found cells.keys (map scope keys) (map scope (keys_of_node term)) (map below (literal_names node.ports))
    (cells_named (namings_of_terms node.children (uid + 1) uid below)) _ (subtree_cells term uid number scope is_subtree))

-- what is found of another node with its children
pub other_left : (term : Term) (uid number first : ℕ) (scope : Scope) (keys keys' : List (List ℕ)) (cells : BTreeSet Cell) (terms : List Term)
    → ((out-Term term).kind ≡ SubTree → ⊥) → terms ≡ (out-Term term).children → first ≡ uid + 1 → keys' ≡ insert_all bytes_eq keys (keys_of_node term)
    → HaveSame (found_so_far scope keys' cells ++ cells_named (namings_of_terms terms first number scope)) (found_so_far scope keys cells ++ cells_named (namings_of_term term uid number scope))
other_left term uid number first scope keys keys' cells terms other is_terms is_first is_keys =
    then_same _ _ _
    (same_from _ _ (λ i. found_so_far scope keys' cells ++ cells_named (namings_of_terms (is_terms i) (is_first i) number scope)))
    (other_found cells.keys (map scope keys) (map scope keys') (map scope (keys_of_node term)) (cells_named (namings_of_terms (out-Term term).children (uid + 1) number scope)) _
    (cells_once scope keys (keys_of_node term) keys' is_keys) (other_cells term uid number scope other))

-- ---- how many are found

-- some cells in order, which are all of a tree's, are as many
pub all_found : (cells all : List Cell) (most : ℕ) → IsStrictlySortedBy cell_order cells → HaveSame cells all → nat_le (length cells) most ≡ nat_le (length (in_order all)) most
all_found cells all most ascends same = ap (λ (cs : List Cell). nat_le (length cs) most) (in_order_is cells all ascends same)

-- and where they are among them, no more
pub no_more : (cells all : List Cell) → IsStrictlySortedBy cell_order cells → AreAmong cells all → length cells ≤ length (in_order all)
no_more cells all ascends among =
    length-le_from_is_member (eq_by_cmp_equiv cells_total) cells (in_order all) (IsDistinct-from_sorted cell_order cells ascends)
    (λ q held. in_order_any _ all ∙ among _ held)

-- where all are found, they are counted
pub few_found : (cells : BTreeSet Cell) (none all : List Cell) (most count : ℕ) → IsStrictlySortedBy cell_order cells.keys → count ≡ length cells.keys → none ≡ []
    → HaveSame (found_so_far main_scope [] cells) (none ++ all) → nat_le count most ≡ nat_le (length (in_order all)) most
few_found cells none all most count ascends is_count is_none same =
    ap (λ n. nat_le n most) is_count
    ∙ all_found cells.keys all most ascends
    (then_same _ _ _ (same_from _ _ (sym (append-nil cells.keys))) (then_same _ _ _ same (same_from _ _ (ap (λ (cs : List Cell). cs ++ all) is_none))))

-- and where too many are found, there are too many
pub many_found : {X : Type 0} (r : Result X (Stop TooMany)) (e : Stop TooMany) (f : TooMany) (cells : BTreeSet Cell) (none all : List Cell) (most : ℕ)
    → IsStrictlySortedBy cell_order cells.keys → r ≡ Err e → e ≡ stop.Fault f → none ≡ [] → Found r most main_scope [] cells (none ++ all) → false ≡ nat_le (length (in_order all)) most
many_found {X} r e f cells none all most ascends is_r is_e is_none found =
    let parts = subst (λ (x : Result X (Stop TooMany)). Found x most main_scope [] cells (none ++ all)) (is_r ∙ ap Err is_e) found in
    let among : AreAmong cells.keys all = λ p held. sym (ap (λ (cs : List Cell). list_any p (cs ++ all)) is_none) ∙ parts.0 p held in
    let more : most < length (in_order all) = omega (arith, parts.1, no_more cells.keys all ascends among) in
    grind (arith, nat_tests)
