-- The entries of a tree's names are its table of slots, and the table gives the slot of each of its names.
use Rattle.std.proofs.Common.{◌≡◌, ℕ, zero, suc, ◌<◌, List, [], ◌∷◌, Bool, true, false, true≢false, not, cond, ◌||◌, ◌&&◌, nat_eq, Option, Some, None, map, length, get_or, find, if◌then◌else◌, refl, sym, ap, subst, ◌∙◌, arith}
use Rattle.std.proofs.lemmas.Bool.{eqb-true}
use Rattle.std.proofs.lemmas.Simd.{map-map}
use Rattle.std.specs.List.{All, AllByRecursion, Contains, list_any}
use Rattle.std.specs.List.Sorted.{IsStrictlySortedBy}
use Rattle.std.specs.Option.{option_map}
use Rattle.spec_tree.specs.declared.cell.Cell.{Cell}
use Rattle.spec_tree.specs.declared.cell.Naming.{Naming}
use Rattle.spec_tree.specs.declared.term.Tree.{Tree}
use Rattle.base_tables.specs.SlotTables.{slot_table, slot_of, scope_of, named_keys}
use Rattle.spec_tree.specs.Boards.{slots, slot_in, namings, owner, same_cell, cell_order}
use Rattle.tree_board.specs.declared.slots.Entry.{Entry}
use Rattle.tree_board.specs.declared.rows.Row.{Row}
use Rattle.tree_board.specs.Rows.{IsWithin, cell_by, first_by, naming_by, place_order}
use Rattle.tree_board.specs.Slots.{IsOf, entry_by, entry_order, ranked, table, told_by}
use Rattle.tree_board.specs.Namings.{HaveSame}
use Rattle.tree_board.proofs.CellOrder.{in_order_is, in_order_any}
use Rattle.tree_board.proofs.Named.{list_any-map}
use Rattle.tree_board.proofs.Ranked.{bytes_order, cells_ascend, namings_ranked, ranked_row, ranks, rows_ranked, slot_is_place}
use Rattle.tree_board.proofs.Searched.{same_decides, same_itself}
use Rattle.tree_board.proofs.Sound.{namings_sound, IsTrue_cell}

-- equal numbers are one
and_true : (a b : Bool) → a && b ≡ true → (a ≡ true) × (b ≡ true)
and_true true b e = (refl, e)
and_true false b e = absurd (true≢false (sym e))

same_place : (x y : ℕ × ℕ) → nat_eq x.0 y.0 && nat_eq x.1 y.1 ≡ true → x ≡ y
same_place x y tie = let parts = and_true (nat_eq x.0 y.0) (nat_eq x.1 y.1) tie in λ i. (eqb-true x.0 y.0 parts.0 i, eqb-true x.1 y.1 parts.1 i)

-- an entry of a row
abbrev pub entry_in : List (ℕ × ℕ) → Row → Entry
entry_in places row = record { named = row.named; slot = first_by place_order places row.cell }

-- the slot that a tree gives a key that it names
abbrev slot_for : Tree → Cell → ℕ
slot_for tree k = slot_in (slots tree) (scope_of tree k.scope k.key)

pub all_at : {X : Type 0} (P : X → Type 0) (xs : List X) → AllByRecursion P xs → (k : ℕ) (d : X) → k < length xs → P (get_or xs k d)
all_at P [] all k d within = absurd (omega arith)
all_at P (x ∷ xs) all zero d within = all.0
all_at P (x ∷ xs) all (suc k) d within = all_at P xs all.1 k d (omega arith)

-- rows whose slots are right are a table
as_table : {X : Type 0} (named : X → Cell) (slot : X → ℕ) (tree : Tree) (xs : List X) → ((x : X) → Contains xs x → slot x ≡ slot_for tree (named x))
    → map {B = Cell × ℕ} (λ x. (named x, slot x)) xs ≡ map {B = Cell × ℕ} (λ (k : Cell). (k, slot_for tree k)) (map named xs)
as_table named slot tree [] right = refl
as_table named slot tree (x ∷ xs) right =
    let first = right x (0, omega arith, refl) in
    let rest = as_table named slot tree xs (λ y has. right y (suc has.0, omega (arith, has.1), has.2)) in
    λ i. (named x, first i) ∷ rest i

-- a naming whose cell is not the one to which its scope leads
abbrev strays : Tree → Naming → Bool
strays tree n = not (same_cell n.cell (scope_of tree n.number n.key))

none_strays : (tree : Tree) (ns : List Naming) → AllByRecursion (IsTrue_cell tree) ns → list_any (strays tree) ns ≡ false
none_strays tree [] all = refl
none_strays tree (n ∷ ns) all =
    let tie : same_cell n.cell (scope_of tree n.number n.key) ≡ true = ap (λ (cell : Cell). same_cell cell (scope_of tree n.number n.key)) all.0 ∙ same_itself (scope_of tree n.number n.key) in
    ap (λ b. not b || list_any (strays tree) ns) tie ∙ none_strays tree ns all.1

all_true : (tree : Tree) (ns : List Naming) → list_any (strays tree) ns ≡ false → AllByRecursion (IsTrue_cell tree) ns
all_true tree [] none = tt
all_true tree (n ∷ ns) none =
    let true_cell = scope_of tree n.number n.key in
    elim (same_cell n.cell true_cell) as (λ b. same_cell n.cell true_cell ≡ b → not b || list_any (strays tree) ns ≡ false → AllByRecursion (IsTrue_cell tree) (n ∷ ns)) [
      | true ↦ λ tie rest. (same_decides n.cell true_cell tie, all_true tree ns rest)
      | false ↦ λ _ some. absurd (true≢false some)
    ] refl none

-- the namings of a list that has those of a tree have their true cells
same_true : (tree : Tree) (ns : List Naming) → HaveSame ns (namings tree) → AllByRecursion (IsTrue_cell tree) ns
same_true tree ns same = all_true tree ns (same (strays tree) ∙ none_strays tree (namings tree) (namings_sound tree))

all_from : {X : Type 0} (P : X → Type 0) (xs : List X) → ((x : X) → Contains xs x → P x) → AllByRecursion P xs
all_from P [] has = tt
all_from P (x ∷ xs) has = (has x (0, omega arith, refl), all_from P xs (λ y at. has y (suc at.0, omega (arith, at.1), at.2)))

all_of : {X : Type 0} (P : X → Type 0) (xs : List X) → AllByRecursion P xs → (x : X) → Contains xs x → P x
all_of P xs all x at = subst P at.2 (all_at P xs all at.0 x at.1)

all_map : {X Y : Type 0} (f : X → Y) (P : Y → Type 0) (xs : List X) → AllByRecursion (λ x. P (f x)) xs → AllByRecursion P (map f xs)
all_map f P [] all = tt
all_map f P (x ∷ xs) all = (all.0, all_map f P xs all.1)

all_weaker : {X : Type 0} (P Q : X → Type 0) (xs : List X) → ((x : X) → P x → Q x) → AllByRecursion P xs → AllByRecursion Q xs
all_weaker P Q [] f all = tt
all_weaker P Q (x ∷ xs) f all = (f x all.0, all_weaker P Q xs f all.1)

-- what is named by rows of a tree, whose keys are in order
module _ (tree : Tree) (keys : List (List ℕ)) (ascend : IsStrictlySortedBy bytes_order keys) (rows : List Row)
    (within : AllByRecursion (IsWithin (length keys)) rows) (same_ns : HaveSame (map (naming_by keys) rows) (namings tree)) where
  places_within : (pairs places : List (ℕ × ℕ)) → pairs ≡ map (λ (row : Row). row.cell) rows → ((x : ℕ × ℕ) → Contains places x → Contains pairs x)
      → AllByRecursion (λ (p : ℕ × ℕ). p.1 < length keys) places
  places_within pairs places is from =
      let all = all_map (λ (row : Row). row.cell) (λ (p : ℕ × ℕ). p.1 < length keys) rows (all_weaker (IsWithin (length keys)) _ rows (λ row w. w.1) within) in
      all_from _ places (λ x has. all_of _ _ all x (subst (λ ps. Contains ps x) is (from x has)))

  -- the cells of the places are the slots of the tree
  pub cells_are_slots : (pairs places : List (ℕ × ℕ)) → pairs ≡ map (λ (row : Row). row.cell) rows → IsStrictlySortedBy place_order places
      → ((p : ℕ × ℕ → Bool) → ((x y : ℕ × ℕ) → nat_eq x.0 y.0 && nat_eq x.1 y.1 ≡ true → p x ≡ p y) → list_any p places ≡ list_any p pairs)
      → ((x : ℕ × ℕ) → Contains places x → Contains pairs x)
      → map (cell_by keys) places ≡ slots tree
  cells_are_slots pairs places is places_ascend same from =
      let cell = λ (n : Naming). n.cell in
      let place = λ (row : Row). row.cell in
      in_order_is (map (cell_by keys) places) (map cell (namings tree))
      (cells_ascend keys ascend (λ p. p) places (places_within pairs places is from) places_ascend)
      (λ p. list_any-map p (cell_by keys) places ∙ same (λ x. p (cell_by keys x)) (λ x y tie. ap (λ z. p (cell_by keys z)) (same_place x y tie))
      ∙ ap (list_any (λ x. p (cell_by keys x))) is ∙ list_any-map (λ x. p (cell_by keys x)) place rows
      ∙ sym (list_any-map (λ n. p n.cell) (naming_by keys) rows) ∙ same_ns (λ n. p n.cell) ∙ sym (list_any-map p cell (namings tree)))

  all_entries : (places : List (ℕ × ℕ)) → AllByRecursion (λ (p : ℕ × ℕ). p.1 < length keys) places → map (cell_by keys) places ≡ slots tree
      → (rs : List Row) → AllByRecursion (IsWithin (length keys)) rs → AllByRecursion (IsTrue_cell tree) (map (naming_by keys) rs)
      → AllByRecursion (λ (e : Entry). e.slot ≡ slot_for tree (cell_by keys e.named)) (map (entry_in places) rs)
  all_entries places places_in is [] all_in all = tt
  all_entries places places_in is (r ∷ rs) all_in all = (
    slot_is_place keys ascend places r.cell places_in all_in.0.1 ∙ ap (λ cells. slot_in cells (cell_by keys r.cell)) is ∙ ap (slot_in (slots tree)) all.0,
    all_entries places places_in is rs all_in.1 all.1,
  )

  entries_in : (places : List (ℕ × ℕ)) (rs : List Row) → AllByRecursion (IsWithin (length keys)) rs → AllByRecursion (IsOf (length keys)) (map (entry_in places) rs)
  entries_in places [] all = tt
  entries_in places (r ∷ rs) all = (all.0.0, entries_in places rs all.1)

  -- the entries have the numbers of these keys
  pub entries_within : (places : List (ℕ × ℕ)) (all entries : List Entry) → all ≡ map (entry_in places) rows → ((x : Entry) → Contains entries x → Contains all x)
      → AllByRecursion (IsOf (length keys)) entries
  entries_within places all entries is from =
      all_from _ entries (λ x has. all_of _ _ (entries_in places rows within) x (subst (λ es. Contains es x) is (from x has)))

  -- the entries of the rows, in order and each once, are the table of the tree
  pub entries_are_table : (pairs places : List (ℕ × ℕ)) (cells : List Cell) (all entries : List Entry) → pairs ≡ map (λ (row : Row). row.cell) rows
      → ((x : ℕ × ℕ) → Contains places x → Contains pairs x)
      → cells ≡ slots tree → cells ≡ map (cell_by keys) places → all ≡ map (entry_in places) rows → IsStrictlySortedBy entry_order entries
      → ((p : Entry → Bool) → ((x y : Entry) → nat_eq x.named.0 y.named.0 && nat_eq x.named.1 y.named.1 ≡ true → p x ≡ p y) → list_any p entries ≡ list_any p all)
      → ((x : Entry) → Contains entries x → Contains all x)
      → table keys cells entries ≡ slot_table tree
  entries_are_table pairs places cells all entries is_pairs from_pairs is_cells by_places is_all entries_ascend same from =
      let named = λ (e : Entry). cell_by keys e.named in
      let key = λ (n : Naming). owner n.number n.key in
      let told : map named entries ≡ named_keys tree = in_order_is (map named entries) (map key (namings tree))
      (cells_ascend keys ascend (λ (e : Entry). e.named) entries (entries_within places all entries is_all from) entries_ascend)
      (λ p. list_any-map p named entries ∙ same (λ e. p (named e)) (λ x y tie. ap (λ z. p (cell_by keys z)) (same_place x.named y.named tie))
      ∙ ap (list_any (λ (e : Entry). p (named e))) is_all ∙ list_any-map (λ (e : Entry). p (named e)) (entry_in places) rows
      ∙ sym (list_any-map (λ n. p (key n)) (naming_by keys) rows)
      ∙ same_ns (λ n. p (key n))
      ∙ sym (list_any-map p key (namings tree))) in
      let are_right = all_entries places (places_within pairs places is_pairs from_pairs) (sym by_places ∙ is_cells) rows within (same_true tree (map (naming_by keys) rows) same_ns) in
      let right : (e : Entry) → Contains entries e → e.slot ≡ slot_for tree (named e) = λ e has.
      all_of (λ (x : Entry). x.slot ≡ slot_for tree (named x)) _ are_right e (subst (λ es. Contains es e) is_all (from e has)) in
      let rows_are = as_table named (λ (e : Entry). e.slot) tree entries right ∙ ap (map {B = Cell × ℕ} (λ (k : Cell). (k, slot_for tree k))) told in
      λ i. record { cells = is_cells i; named = rows_are i }

-- what is named by rows of a tree, with the keys as they came and in order, and what is made of it
module _ (tree : Tree) (keys ordered : List (List ℕ)) (ascend : IsStrictlySortedBy bytes_order ordered)
    (same : (p : List ℕ → Bool) → list_any p ordered ≡ list_any p keys)
    (rows : List Row) (within : AllByRecursion (IsWithin (length keys)) rows) (named : HaveSame (map (naming_by keys) rows) (namings tree))
    (pairs places : List (ℕ × ℕ)) (is_pairs : pairs ≡ map (λ (row : Row). ranked (ranks keys ordered ascend same) row.cell) rows)
    (places_ascend : IsStrictlySortedBy place_order places)
    (same_places : (p : ℕ × ℕ → Bool) → ((x y : ℕ × ℕ) → nat_eq x.0 y.0 && nat_eq x.1 y.1 ≡ true → p x ≡ p y) → list_any p places ≡ list_any p pairs)
    (from_places : (x : ℕ × ℕ) → Contains places x → Contains pairs x) where
  abbrev by_rank : List Row
  by_rank = map (ranked_row (ranks keys ordered ascend same)) rows

  rank_pairs : pairs ≡ map (λ (row : Row). row.cell) by_rank
  rank_pairs = is_pairs ∙ sym (map-map (λ (row : Row). row.cell) (ranked_row (ranks keys ordered ascend same)) rows)

  rank_within : AllByRecursion (IsWithin (length ordered)) by_rank
  rank_within = rows_ranked keys ordered ascend same rows within

  rank_named : HaveSame (map (naming_by ordered) by_rank) (namings tree)
  rank_named p = ap (list_any p) (namings_ranked keys ordered ascend same rows within) ∙ named p

  pub slots_by_rank : map (cell_by ordered) places ≡ slots tree
  slots_by_rank = cells_are_slots tree ordered ascend by_rank rank_within rank_named pairs places rank_pairs places_ascend same_places from_places

  pub cells_by_rank : IsStrictlySortedBy cell_order (map (cell_by ordered) places)
  cells_by_rank = cells_ascend ordered ascend (λ p. p) places (places_within tree ordered ascend by_rank rank_within rank_named pairs places rank_pairs from_places) places_ascend

  module _ (all entries : List Entry) (is_all : all ≡ map (entry_by (ranks keys ordered ascend same) places) rows)
      (entries_ascend : IsStrictlySortedBy entry_order entries)
      (same_entries : (p : Entry → Bool) → ((x y : Entry) → nat_eq x.named.0 y.named.0 && nat_eq x.named.1 y.named.1 ≡ true → p x ≡ p y) → list_any p entries ≡ list_any p all)
      (from_entries : (x : Entry) → Contains entries x → Contains all x) where
    rank_all : all ≡ map (entry_in places) by_rank
    rank_all = is_all ∙ sym (map-map (entry_in places) (ranked_row (ranks keys ordered ascend same)) rows)

    pub entries_by_rank : AllByRecursion (IsOf (length ordered)) entries
    entries_by_rank = entries_within tree ordered ascend by_rank rank_within rank_named places all entries rank_all from_entries

    pub table_by_rank : (cells : List Cell) → cells ≡ map (cell_by ordered) places → table ordered cells entries ≡ slot_table tree
    table_by_rank cells is = entries_are_table tree ordered ascend by_rank rank_within rank_named pairs places cells all entries rank_pairs from_places
        (is ∙ slots_by_rank) is rank_all entries_ascend same_entries from_entries

-- ---- the table gives the slot of each name

abbrev pub slot_by : List (Cell × ℕ) → Cell → Option ℕ
slot_by rows cell = option_map (λ (row : Cell × ℕ). row.1) (find (λ (row : Cell × ℕ). same_cell row.0 cell) rows)

found_row : (tree : Tree) (cell : Cell) (keys : List Cell)
    → slot_by (map {B = Cell × ℕ} (λ (k : Cell). (k, slot_for tree k)) keys) cell ≡ (if list_any (λ k. same_cell k cell) keys then Some (slot_for tree cell) else None)
found_row tree cell [] = refl
found_row tree cell (k ∷ keys) =
    elim (same_cell k cell) as (λ b. same_cell k cell ≡ b
    → option_map (λ (row : Cell × ℕ). row.1) (cond b (Some (k, slot_for tree k)) (find (λ (row : Cell × ℕ). same_cell row.0 cell) (map {B = Cell × ℕ} (λ (k : Cell). (k, slot_for tree k)) keys)))
    ≡ (if b || list_any (λ k. same_cell k cell) keys then Some (slot_for tree cell) else None)) [
      | true ↦ λ tie. ap (λ c. Some (slot_for tree c)) (same_decides k cell tie)
      | false ↦ λ _. found_row tree cell keys
    ] refl

-- the slot of a key in the scope of a number is that of its row
pub slot_of_row : (tree : Tree) (number : ℕ) (key : List ℕ) → slot_by (slot_table tree).named (owner number key) ≡ slot_of tree number key
slot_of_row tree number key =
    found_row tree (owner number key) (named_keys tree)
    ∙ ap (λ b. if b then Some (slot_for tree (owner number key)) else None)
    (in_order_any (λ k. same_cell k (owner number key)) (map (λ (n : Naming). owner n.number n.key) (namings tree))
    ∙ list_any-map (λ k. same_cell k (owner number key)) (λ (n : Naming). owner n.number n.key) (namings tree))

-- rows are found as their entries are
pub slot_by_entries : (keys : List (List ℕ)) (cell : Cell) (entries : List Entry)
    → slot_by (map {B = Cell × ℕ} (told_by keys) entries) cell ≡ option_map (λ (e : Entry). e.slot) (find (λ (e : Entry). same_cell (cell_by keys e.named) cell) entries)
slot_by_entries keys cell [] = refl
slot_by_entries keys cell (e ∷ entries) =
    elim (same_cell (cell_by keys e.named) cell) as (λ b. option_map (λ (row : Cell × ℕ). row.1) (cond b (Some (told_by keys e)) (find (λ (row : Cell × ℕ). same_cell row.0 cell) (map {B = Cell × ℕ} (told_by keys) entries)))
    ≡ option_map (λ (x : Entry). x.slot) (cond b (Some e) (find (λ (x : Entry). same_cell (cell_by keys x.named) cell) entries))) [
      | true ↦ refl
      | false ↦ slot_by_entries keys cell entries
    ]

-- where each item fails the test, none is found
pub none_found : {X : Type 0} (p : X → Bool) (xs : List X) → All (λ x. p x ≡ false) xs → find p xs ≡ None
none_found p [] all = refl
none_found p (x ∷ xs) all = ap (λ b. cond b (Some x) (find p xs)) (all 0 x (omega arith)) ∙ none_found p xs (λ k d within. all (suc k) d (omega arith))
