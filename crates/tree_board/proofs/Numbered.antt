-- Keys by their numbers, and rows of numbers, while further keys are added.
use Rattle.std.proofs.Common.{◌≡◌, ℕ, ◌<◌, List, [], ◌∷◌, ◌++◌, true, cond, false, Some, map, length, get_or, slice_get, ◌≤◌, length-append, append_assoc, append-nil, refl, sym, ap, ◌∙◌, arith}
use Rattle.std.proofs.lemmas.List.{get_or_append_left}
use Rattle.std.proofs.lemmas.Option.{get_or_from_slice_get, slice_get_within}
use Rattle.std.proofs.lemmas.Slice.Eq.{bytes_eq-Decides}
use Rattle.std.specs.List.{AllByRecursion, list_any}
use Rattle.std.specs.Str.{bytes_eq}
use Rattle.indexmap.specs.IndexSet.{insert_key}
use Rattle.spec_tree.specs.declared.cell.Naming.{Naming}
use Rattle.spec_tree.specs.Boards.{owner}
use Rattle.tree_board.specs.declared.rows.Row.{Row}
use Rattle.tree_board.specs.Rows.{Grows, IsWithin, key_at, naming_by}

-- a key that is read by its number
pub read_key : (keys : List (List ℕ)) (n : ℕ) (key other : List ℕ) → slice_get keys n ≡ Some other → bytes_eq key other ≡ true
    → (n < length keys) × (get_or keys n [] ≡ key)
read_key keys n key other read tie = (
  slice_get_within keys n other read,
  get_or_from_slice_get keys n other [] read ∙ sym ((bytes_eq-Decides key other).0 tie),
)

pub grows_none : (keys now : List (List ℕ)) → now ≡ keys → Grows keys now
grows_none keys now is = ([], is ∙ sym (append-nil keys))

pub grows_one : (keys now : List (List ℕ)) (key : List ℕ) → now ≡ insert_key bytes_eq keys key → Grows keys now
grows_one keys now key is =
    elim (list_any (bytes_eq key) keys) as (λ b. now ≡ cond b keys (keys ++ key ∷ []) → Grows keys now) [
      | true ↦ λ is. grows_none keys now is
      | false ↦ λ is. (key ∷ [], is)
    ] is

pub grows_more : (before now next : List (List ℕ)) → Grows before now → Grows now next → Grows before next
grows_more before now next a b = (a.0 ++ b.0, b.1 ∙ ap (λ keys. keys ++ b.0) a.1 ∙ append_assoc before a.0 b.0)

pub grows_length : (before now : List (List ℕ)) → Grows before now → length before ≤ length now
grows_length before now g = omega (arith, ap (λ (keys : List (List ℕ)). length keys) g.1, length-append before g.0)

pub grows_key : (before now : List (List ℕ)) → Grows before now → (n : ℕ) → n < length before → key_at now n ≡ key_at before n
grows_key before now g n within = ap (λ keys. key_at keys n) g.1 ∙ get_or_append_left before g.0 [] n within

-- rows say the same when keys are added
pub rows_same : (before now : List (List ℕ)) → Grows before now → (rows : List Row) → AllByRecursion (IsWithin (length before)) rows
    → map (naming_by now) rows ≡ map (naming_by before) rows
rows_same before now g [] all = refl
rows_same before now g (row ∷ rows) all =
    let named = grows_key before now g row.named.1 all.0.0 in
    let owned = grows_key before now g row.cell.1 all.0.1 in
    let rest = rows_same before now g rows all.1 in
    λ i. record { number = row.named.0; key = named i; cell = owner row.cell.0 (owned i) } ∷ rest i

-- and have numbers of these keys alone
pub rows_within : (before now : List (List ℕ)) → Grows before now → (rows : List Row) → AllByRecursion (IsWithin (length before)) rows
    → AllByRecursion (IsWithin (length now)) rows
rows_within before now g [] all = tt
rows_within before now g (row ∷ rows) all = let more = grows_length before now g in ((omega (arith, all.0.0, more), omega (arith, all.0.1, more)), rows_within before now g rows all.1)

pub all_push : {X : Type 0} (P : X → Type 0) (xs : List X) (x : X) → AllByRecursion P xs → P x → AllByRecursion P (xs ++ x ∷ [])
all_push P [] x all p = (p, tt)
all_push P (y ∷ ys) x all p = (all.0, all_push P ys x all.1 p)

pub map_push : {X Y : Type 0} (f : X → Y) (xs : List X) (x : X) → map f (xs ++ x ∷ []) ≡ map f xs ++ f x ∷ []
map_push f [] x = refl
map_push f (y ∷ ys) x = ap (λ zs. f y ∷ zs) (map_push f ys x)

-- what is named, and one more
pub named_more : (before now : List (List ℕ)) → Grows before now → (rows : List Row) (row : Row) (naming : Naming) → AllByRecursion (IsWithin (length before)) rows
    → naming_by now row ≡ naming → map (naming_by now) (rows ++ row ∷ []) ≡ map (naming_by before) rows ++ naming ∷ []
named_more before now g rows row naming all is =
    map_push (naming_by now) rows row ∙ ap (λ ns. ns ++ naming_by now row ∷ []) (rows_same before now g rows all) ∙ ap (λ n. map (naming_by before) rows ++ n ∷ []) is
