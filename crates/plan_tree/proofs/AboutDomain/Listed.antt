-- The templates among rows, row by row.
use Rattle.std.proofs.Common.{◌≡◌, ℕ, suc, ◌+◌, ◌<◌, Bool, true, false, if◌then◌else◌, List, [], ◌∷◌, ◌++◌, length, get_or, drop, refl, ap, sym, ◌∙◌, subst, append_assoc, add-one, drop-cons}
use Rattle.spec_world.specs.declared.world.Row.{Row}
use Rattle.spec_plan.specs.declared.domain.Template.{Template}
use Rattle.spec_plan.specs.Templates.{is_template, templates_from}

module _ (i : ℕ) (row : Row) (rest : List Row) where
  by_row : (b : Bool) → is_template row ≡ b → templates_from i (row ∷ rest) ≡ (if b then record { row = i } ∷ templates_from (suc i) rest else templates_from (suc i) rest)
  by_row b is = ap (λ (b : Bool). if b then record { row = i } ∷ templates_from (suc i) rest else templates_from (suc i) rest) is

module _ (rows : List Row) (i : ℕ) (row : Row) (found : List Template) (within : i < length rows) (is : row ≡ get_or rows i row) where
  at_row : drop i rows ≡ row ∷ drop (suc i) rows
  at_row = drop-cons rows i row within ∙ ap (λ (r : Row). r ∷ drop (suc i) rows) (sym is)

  pub taken : is_template row ≡ true → (found ++ record { row = i } ∷ []) ++ templates_from (i + 1) (drop (i + 1) rows) ≡ found ++ templates_from i (drop i rows)
  taken is_one =
      let e : (found ++ record { row = i } ∷ []) ++ templates_from (suc i) (drop (suc i) rows) ≡ found ++ templates_from i (drop i rows) =
      append_assoc found (record { row = i } ∷ []) (templates_from (suc i) (drop (suc i) rows))
      ∙ ap (λ (l : List Template). found ++ l) (sym (ap (templates_from i) at_row ∙ by_row i row (drop (suc i) rows) true is_one)) in
      rw add-one e

  pub passed : is_template row ≡ false → found ++ templates_from (i + 1) (drop (i + 1) rows) ≡ found ++ templates_from i (drop i rows)
  passed is_none =
      let e : found ++ templates_from (suc i) (drop (suc i) rows) ≡ found ++ templates_from i (drop i rows) =
      ap (λ (l : List Template). found ++ l) (sym (ap (templates_from i) at_row ∙ by_row i row (drop (suc i) rows) false is_none)) in
      rw add-one e
