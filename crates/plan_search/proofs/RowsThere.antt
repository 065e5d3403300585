-- The conditions and the actions of a plan tree have rows, which are found by their IDs.
use Rattle.std.proofs.Common.{◌≡◌, inl, inr, ℕ, ◌+◌, true, List, [], ◌∷◌, length, Option, Some, refl, sym, ap, subst, ◌∙◌, arith}
use Rattle.std.specs.Prelude.{nat_le, option_map, slice_get}
use Rattle.std.specs.List.{All, AllByRecursion, list_all}
use Rattle.std.specs.Option.{option_map_or}
use Rattle.std.proofs.lemmas.List.Elements.{All-head, All-tail}
use Rattle.std.proofs.lemmas.Option.{get_or_from_slice_get, slice_get-map, slice_get_cases, slice_get_within}
use Rattle.spec_script.specs.Identifiers.{is_identifier, is_identifier_continue, is_identifier_start}
use Rattle.spec_script.proofs.Bools.{both}
use Rattle.spec_world.specs.declared.world.Row.{Row}
use Rattle.spec_world.specs.declared.world.World.{World}
use Rattle.spec_run.specs.Leaves.{row_of}
use Rattle.spec_world.specs.Worlds.{IsComparisonIn, IsValidRow, IsValidWorld, ids_of_rows, is_comparison, is_name}
use Rattle.spec_tree.specs.Limits.{most_name_bytes}
use Rattle.spec_plan.specs.declared.domain.Template.{Template}
use Rattle.spec_plan.specs.Achievers.{needs_of}
use Rattle.spec_plan.specs.Expansion.{condition_row, tried, untried}
use Rattle.spec_plan.specs.Forests.{Forest, part_at}
use Rattle.spec_plan.specs.Planned.{id_of}
use Rattle.plan_search.proofs.Causes.{by_id, first_untried, templates_are}

-- the ID of the row of this number is the ID of a row
abbrev pub HasRow : List Row → ℕ → Type 0
HasRow rows n = (row : Row) × (row_of rows (id_of rows n) ≡ Some row)

module _ (world : World) (valid : IsValidWorld world) where
  there : (n : ℕ) (row : Row) → slice_get world.rows n ≡ Some row → HasRow world.rows n
  there n row is =
      let id : id_of world.rows n ≡ row.id = ap (λ (o : Option Row). option_map_or (λ (r : Row). r.id) o []) is in
      (row, ap (row_of world.rows) id ∙ by_id world.rows n row valid.ids.distinct is)

  compared : (n : ℕ) → IsComparisonIn world.rows n → HasRow world.rows n
  compared n is = elim (slice_get_cases world.rows n).1 [
    | inl (row, within, found, at) ↦ there n row found
    | inr (past, none) ↦ absurd (cc (slice_get-map (λ (r : Row). is_comparison r.sort) world.rows n, none, is))
  ]

  all_compared : (ns : List ℕ) → All (IsComparisonIn world.rows) ns → AllByRecursion (HasRow world.rows) ns
  all_compared [] all = tt
  all_compared (n ∷ ns) all = (compared n (All-head (IsComparisonIn world.rows) n ns all), all_compared ns (All-tail (IsComparisonIn world.rows) n ns all))

  pub goals_there : AllByRecursion (HasRow world.rows) world.goals
  goals_there = all_compared world.goals valid.wanted

  pub valid_row : (n : ℕ) (row : Row) → slice_get world.rows n ≡ Some row → IsValidRow world.facts world.rows row
  valid_row n row is =
      subst (λ (r : Row). IsValidRow world.facts world.rows r) (get_or_from_slice_get world.rows n row row is) (valid.rows n row (slice_get_within world.rows n row is))

  pub needs_there : (n : ℕ) → AllByRecursion (HasRow world.rows) (needs_of world.rows n)
  needs_there n = elim (slice_get_cases world.rows n).1 [
    | inl (row, within, found, at) ↦
        let e : needs_of world.rows n ≡ row.needs = ap (λ (o : Option Row). option_map_or (λ (r : Row). r.needs) o []) found in
        subst (λ ns. AllByRecursion (HasRow world.rows) ns) (sym e) (all_compared row.needs (valid_row n row found).needed)
    | inr (past, none) ↦
        let e : needs_of world.rows n ≡ [] = ap (λ (o : Option Row). option_map_or (λ (r : Row). r.needs) o []) none in
        subst (λ ns. AllByRecursion (HasRow world.rows) ns) (sym e) tt
  ]

  pub templates_there : (k : ℕ) (f : Forest) (t : Template) → slice_get (untried world.rows k f) 0 ≡ Some t → HasRow world.rows t.row
  templates_there k f t is =
      let all = templates_are (HasRow world.rows) 0 world.rows (λ n row found template. let e : n ≡ 0 + n = omega arith in subst (HasRow world.rows) e (there n row found)) in
      first_untried (HasRow world.rows) world.rows all (condition_row (part_at k f)) (tried k f) t is

  -- ---- IDs

  plain_name : (name : List ℕ) → is_identifier name ≡ true → list_all is_identifier_continue name ≡ true
  plain_name [] is = refl
  plain_name (c ∷ cs) is = (both (is_identifier_start c) (list_all is_identifier_continue (c ∷ cs)) is).1

  pub named_at : (n : ℕ) (row : Row) → slice_get world.rows n ≡ Some row → is_name row.id ≡ true
  named_at n row found =
      let named : slice_get (ids_of_rows world.rows) n ≡ Some row.id = slice_get-map (λ (r : Row). r.id) world.rows n ∙ ap (λ (o : Option Row). option_map (λ (r : Row). r.id) o) found in
      subst (λ (name : List ℕ). is_name name ≡ true) (get_or_from_slice_get (ids_of_rows world.rows) n row.id row.id named)
      (valid.ids.named n row.id (slice_get_within (ids_of_rows world.rows) n row.id named))

  -- the ID of a row, or no ID, has letters, digits and `_` alone
  pub id_plain : (n : ℕ) → list_all is_identifier_continue (id_of world.rows n) ≡ true
  id_plain n = elim (slice_get_cases world.rows n).1 [
    | inl (row, within, found, at) ↦
        let id : id_of world.rows n ≡ row.id = ap (λ (o : Option Row). option_map_or (λ (r : Row). r.id) o []) found in
        ap (list_all is_identifier_continue) id ∙ plain_name row.id (both (is_identifier row.id) (nat_le (length row.id) most_name_bytes) (named_at n row found)).0
    | inr (past, none) ↦
        let e : id_of world.rows n ≡ [] = ap (λ (o : Option Row). option_map_or (λ (r : Row). r.id) o []) none in
        ap (list_all is_identifier_continue) e
  ]
