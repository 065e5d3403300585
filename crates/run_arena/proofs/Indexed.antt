-- Rows that are found by their IDs, one after the other.
use Rattle.std.proofs.Common.{◌≡◌, ℕ, zero, suc, ◌+◌, ◌<◌, Bool, List, [], ◌∷◌, map, true, false, Option, Some, None, length, drop, get_or, if◌then◌else◌, refl, sym, ap, subst, ◌∙◌}
use Rattle.std.proofs.lemmas.List.{drop_more}
use Rattle.std.proofs.lemmas.Option.{slice_get_read}
use Rattle.std.proofs.lemmas.Slice.Eq.{bytes_eq-Decides}
use Rattle.std.specs.List.{AllByRecursion, IsDistinct}
use Rattle.std.specs.Option.{option_or}
use Rattle.std.specs.Str.{bytes_eq}
use Rattle.std.specs.Prelude.{slice_get}
use Rattle.spec_world.specs.declared.world.Row.{Row}
use Rattle.spec_world.specs.Worlds.{ids_of_rows}
use Rattle.spec_run.specs.Leaves.{row_of}
use Rattle.run_arena.specs.Rows.{row_by}

-- the row that is found for an ID, or else that of the rows still to come
abbrev pub found_or : Option ℕ → List Row → List Row → List ℕ → Option Row
found_or (Some number) rows left id = slice_get rows number
found_or None rows left id = row_of left id

abbrev pub FindsFrom : List Row → List Row → (List ℕ → Option ℕ) → Type 0
FindsFrom rows left number = (id : List ℕ) → found_or (number id) rows left id ≡ row_of rows id

found_first : (rows left : List Row) (row : Row) (number : ℕ) (id : List ℕ) → slice_get rows number ≡ Some row → (old : Option ℕ) →
    found_or old rows (row ∷ left) id ≡ row_of rows id → found_or (option_or old (if bytes_eq row.id id then Some number else None)) rows left id ≡ row_of rows id
found_first rows left row number id is (Some n) found = found
found_first rows left row number id is None found =
    elim (bytes_eq row.id id) as (λ b. (if b then Some row else row_of left id) ≡ row_of rows id → found_or (if b then Some number else None) rows left id ≡ row_of rows id) [
      | true ↦ λ first. is ∙ first
      | false ↦ λ rest. rest
    ] found

-- one more row is found
pub finds_more : (rows : List Row) (number given : ℕ) (row : Row) (old new : List ℕ → Option ℕ) → number < length rows → row ≡ get_or rows number row → given ≡ number
    → ((id : List ℕ) → new id ≡ option_or (old id) (if bytes_eq row.id id then Some given else None))
    → FindsFrom rows (drop number rows) old → FindsFrom rows (drop (number + 1) rows) new
finds_more rows number given row old new within is_row same added found id =
    let here : drop number rows ≡ row ∷ drop (number + 1) rows = drop_more rows number row within ∙ ap (λ (r : Row). r ∷ drop (number + 1) rows) (sym is_row) in
    ap (λ (o : Option ℕ). found_or o rows (drop (number + 1) rows) id) (added id ∙ ap (λ n. option_or (old id) (if bytes_eq row.id id then Some n else None)) same)
    ∙ found_first rows (drop (number + 1) rows) row number id (slice_get_read rows (length rows) number row refl within is_row) (old id) (subst (λ (left : List Row). found_or (old id) rows left id ≡ row_of rows id) here (found id))

-- where no row is still to come, all are found
pub none_left : (rows left : List Row) (number : Option ℕ) (id : List ℕ) → left ≡ [] → found_or number rows left id ≡ row_of rows id → row_by rows number ≡ row_of rows id
none_left rows left (Some number) id none found = found
none_left rows left None id none found = subst (λ (ls : List Row). row_of ls id ≡ row_of rows id) none found

-- ---- IDs that differ

all_rows : (P : List ℕ → Type 0) (rows : List Row) (number : ℕ) (row : Row) → AllByRecursion P (map (λ (r : Row). r.id) rows) → slice_get rows number ≡ Some row → P row.id
all_rows P [] number row all is = absurd (cc is)
all_rows P (r ∷ rows) zero row all is = let same : r ≡ row = cc is in subst (λ (x : Row). P x.id) same all.0
all_rows P (r ∷ rows) (suc number) row all is = all_rows P rows number row all.1 is

-- where no two rows have one ID, a row that has it is that of the ID
pub found_there : (rows : List Row) (number : ℕ) (row : Row) (id : List ℕ) → IsDistinct bytes_eq (ids_of_rows rows) → slice_get rows number ≡ Some row → bytes_eq row.id id ≡ true → slice_get rows number ≡ row_of rows id
unfolding IsDistinct
found_there [] number row id apart is same = absurd (cc is)
found_there (r ∷ rows) zero row id apart is same =
    let first : r ≡ row = cc is in
    ap (λ (b : Bool). if b then Some r else row_of rows id) (sym (ap (λ (x : Row). bytes_eq x.id id) first ∙ same))
found_there (r ∷ rows) (suc number) row id apart is same =
    let other : bytes_eq r.id row.id ≡ false = all_rows (λ (x : List ℕ). bytes_eq r.id x ≡ false) rows number row apart.0 is in
    let own : row.id ≡ id = (bytes_eq-Decides row.id id).0 same in
    found_there rows number row id apart.1 is same
    ∙ ap (λ (b : Bool). if b then Some r else row_of rows id) (sym (ap (bytes_eq r.id) (sym own) ∙ other))
