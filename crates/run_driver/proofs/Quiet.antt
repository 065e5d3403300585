-- Where the counts of held instances are 0, none is held.
use Rattle.std.proofs.Common.{◌≡◌, ℕ, zero, suc, ◌+◌, Bool, true, false, cond, List, [], ◌∷◌, get_or, refl, sym, ap, ◌∙◌, arith}
use Rattle.std.proofs.lemmas.List.Sums.{sum_by-cons}
use Rattle.std.specs.Prelude.{count_by}
use Rattle.spec_run.specs.declared.leaf.Instance.{Instance}
use Rattle.spec_run.specs.Leaf.{fresh}
use Rattle.spec_run.specs.Drivers.{DriverState, NothingHeld, is_held}
use Rattle.base_tables.specs.DriverCalls.{total_held}

first_not : (b : Bool) (n : ℕ) → cond b 1 0 + n ≡ 0 → (b ≡ false) × (n ≡ 0)
first_not true n none = absurd (omega arith)
first_not false n none = (refl, omega arith)

counted : (x : Instance) (xs : List Instance) → count_by is_held (x ∷ xs) ≡ cond (is_held x) 1 0 + count_by is_held xs
counted x xs = sum_by-cons (λ y. cond (is_held y) 1 0) x xs

-- in one table
count_none : (table : List Instance) → count_by is_held table ≡ 0 → (i : ℕ) → is_held (get_or table i fresh) ≡ false
count_none [] none i = refl
count_none (x ∷ xs) none zero = (first_not (is_held x) (count_by is_held xs) (sym (counted x xs) ∙ none)).0
count_none (x ∷ xs) none (suc i) = count_none xs (first_not (is_held x) (count_by is_held xs) (sym (counted x xs) ∙ none)).1 i

none_counted : (table : List Instance) → ((i : ℕ) → is_held (get_or table i fresh) ≡ false) → count_by is_held table ≡ 0
none_counted [] none = refl
none_counted (x ∷ xs) none =
    let first : is_held x ≡ false = none 0 in
    counted x xs ∙ ap (λ b. cond b 1 0 + count_by is_held xs) first ∙ omega (arith, none_counted xs (λ i. none (suc i)))

-- in all drivers
pub total_none : (ds : List DriverState) → total_held ds ≡ 0 → NothingHeld ds
total_none [] none place = λ i. refl
total_none (d ∷ ds) none zero = count_none d.table (omega arith)
total_none (d ∷ ds) none (suc place) = total_none ds (omega arith) place

pub none_total : (ds : List DriverState) → NothingHeld ds → total_held ds ≡ 0
none_total [] none = refl
none_total (d ∷ ds) none = omega (arith, none_counted d.table (none 0), none_total ds (λ place. none (suc place)))
