-- Rows are made one after another, up to the first that is beyond the limits.
use Rattle.std.proofs.Common.{◌≡◌, ◌≤◌, ◌<◌, Bool, true, false, ◌&&◌, if◌then◌else◌, List, [], ◌∷◌, ◌++◌, length, Ok, Err, refl, sym, ap, subst, ◌∙◌}
use Rattle.std.specs.Prelude.{nat_le}
use Rattle.std.specs.List.{list_all}
use Rattle.std.proofs.lemmas.Bool.{and_right, le-leb, lt-leb}
use Rattle.std.proofs.lemmas.List.Folds.{list_all-append}
use Rattle.cli_refusals.specs.declared.refusal.Refusal.{Refusal}
use Rattle.cli_refusals.specs.declared.refusal.Refusal.TheVariants as refusal
use Rattle.spec_serve.specs.Rows.{is_small_row, too_many, world_of}
use Rattle.spec_tree.specs.Limits.{most_made_rows}
use Rattle.spec_world.specs.declared.world.Row.{Row}
use Rattle.cli_serve.specs.Rows.{RowGives, RowsGive, WorldGives}

-- a row that is beyond the limits
pub row_refused : (e : Refusal) (done rest all : List Row) (row : Row) → RowGives (Err e) row → done ++ row ∷ rest ≡ all → RowsGive (Err e) all
row_refused refusal.NoMemory done rest all row h is = tt
row_refused e done rest all row h is = (h.0, by_all all is (small h.1))
  where
    small : is_small_row row ≡ false → list_all is_small_row (done ++ row ∷ rest) ≡ false
    small large =
        list_all-append is_small_row done (row ∷ rest)
        ∙ ap (λ (b : Bool). list_all is_small_row done && (b && list_all is_small_row rest)) large
        ∙ and_right (list_all is_small_row done) false refl

    by_all : (all : List Row) → done ++ row ∷ rest ≡ all → list_all is_small_row (done ++ row ∷ rest) ≡ false → (nat_le (length all) most_made_rows && list_all is_small_row all) ≡ false
    by_all all is large = and_right (nat_le (length all) most_made_rows) (list_all is_small_row all) (ap (list_all is_small_row) (sym is) ∙ large)

-- one row more is within them
pub small_more : (done : List Row) (row : Row) → list_all is_small_row done ≡ true → is_small_row row ≡ true → list_all is_small_row (done ++ row ∷ []) ≡ true
small_more done row all small =
    list_all-append is_small_row done (row ∷ [])
    ∙ ap (λ (b : Bool). b && (is_small_row row && true)) all ∙ ap (λ (b : Bool). b && true) small

-- too many rows
pub many_refused : (all : List Row) → most_made_rows < length all → (nat_le (length all) most_made_rows && list_all is_small_row all) ≡ false
many_refused all many = ap (λ (b : Bool). b && list_all is_small_row all) (lt-leb (length all) most_made_rows many)

-- the world of rows that are beyond the limits
pub world_refused : (e : Refusal) (rows : List Row) → RowsGive (Err e) rows → WorldGives (Err e) (world_of rows)
world_refused refusal.NoMemory rows h = tt
world_refused e rows h =
    subst (λ (r : Refusal). WorldGives (Err r) (world_of rows)) (sym h.0)
    (ap (λ (b : Bool). if b then Ok (record { facts = []; rows = rows; goals = []; runners = 1; events = [] }) else Err too_many) h.1)

-- and that of others
pub world_made : (rows : List Row) → length rows ≤ most_made_rows → list_all is_small_row rows ≡ true → world_of rows ≡ Ok (record { facts = []; rows = rows; goals = []; runners = 1; events = [] })
world_made rows few small =
    ap (λ (b : Bool). if b then Ok (record { facts = []; rows = rows; goals = []; runners = 1; events = [] }) else Err too_many)
    (ap (λ (b : Bool). b && list_all is_small_row rows) (le-leb (length rows) most_made_rows few) ∙ small)
