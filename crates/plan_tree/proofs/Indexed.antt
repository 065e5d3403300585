-- The templates that achieve a condition, as they are kept.
use Rattle.std.proofs.Common.{◌≡◌, ℕ, zero, suc, Bool, false, ◌&&◌, List, [], ◌∷◌, map, Option, Some, None, refl, ap, sym, ◌∙◌}
use Rattle.std.specs.Prelude.{option_map, slice_get}
use Rattle.std.specs.List.{find}
use Rattle.std.specs.Option.{option_and_then, option_map_or}
use Rattle.spec_world.specs.declared.world.Row.{Row}
use Rattle.spec_world.specs.declared.world.Set.{Set}
use Rattle.spec_world.specs.declared.world.World.{World}
use Rattle.spec_plan.specs.declared.domain.Test.{Test}
use Rattle.spec_plan.specs.declared.domain.Template.{Template}
use Rattle.spec_plan.specs.Effects.{achieves}
use Rattle.spec_plan.specs.Templates.{templates_of, test_in}
use Rattle.plan_tree.specs.declared.tree.PlanTree.{PlanTree}
use Rattle.plan_tree.specs.declared.rule.Rule.{Rule}
use Rattle.plan_tree.specs.Expanded.{is_new, is_open}
use Rattle.spec_plan.specs.Forests.{Forest}
use Rattle.plan_tree.specs.Growth.{achievers_at, achievers_by, all_achievers_by, is_achiever, rule_achieves}
use Rattle.plan_tree.specs.Rules.{achievers_of, rule_of}
use Rattle.spec_plan.specs.Achievers.{effects_of}
use Rattle.plan_tree.specs.Stands.{StandsFor}
use Rattle.plan_tree.proofs.Expansions.{rule_achieves_is, rule_effects_is}
use Rattle.plan_tree.proofs.Searched.{filter_alike, find_alike, find_both, find_none}

-- whether a row's template may turn a test true
abbrev achieving : List Row → Option Test → Template → Bool
achieving rows test t = option_map_or (λ (own : Test). achieves own (effects_of rows t.row)) test false

achiever_is : (rows : List Row) (test : Option Test) (t : Template) → is_achiever (map rule_of rows) test t ≡ achieving rows test t
achiever_is rows test t = ap (λ (effects : List Set). option_map_or (λ (own : Test). achieves own effects) test false) (rule_effects_is rows t.row)

achievers_are : (rows : List Row) (own : List Row) →
    map (λ (rule : Rule). achievers_by (map rule_of rows) (templates_of rows) rule.test) (map rule_of own) ≡ map (achievers_of rows) own
achievers_are rows [] = refl
achievers_are rows (row ∷ own) =
    ap (λ (l : List Template). l ∷ map (λ (rule : Rule). achievers_by (map rule_of rows) (templates_of rows) rule.test) (map rule_of own))
    (filter_alike (is_achiever (map rule_of rows) (test_in row.sort)) (achieving rows (test_in row.sort)) (achiever_is rows (test_in row.sort)) (templates_of rows))
    ∙ ap (λ (l : List (List Template)). achievers_of rows row ∷ l) (achievers_are rows own)

pub all_achievers_are : (rows : List Row) (t : PlanTree) → t.achievers ≡ all_achievers_by t.rules t.templates → t.rules ≡ map rule_of rows → t.templates ≡ templates_of rows →
    t.achievers ≡ map (achievers_of rows) rows
all_achievers_are rows t is rules templates =
    is ∙ ap (λ (l : List Rule). all_achievers_by l t.templates) rules ∙ ap (λ (l : List Template). all_achievers_by (map rule_of rows) l) templates ∙ achievers_are rows rows

got_at : (rows own : List Row) (n : ℕ) → slice_get (map (achievers_of rows) own) n ≡ option_map (achievers_of rows) (slice_get own n)
got_at rows [] n = refl
got_at rows (row ∷ own) zero = refl
got_at rows (row ∷ own) (suc n) = got_at rows own n

module _ (world : World) (t : PlanTree) (tree : Forest) (st : StandsFor t world tree) (condition : ℕ) (tried : List ℕ) where
  open_by : (o : Option Row) → slice_get world.rows condition ≡ o → (x : Template) →
      is_open t condition tried x ≡ (option_map_or (λ (row : Row). achieving world.rows (test_in row.sort) x) o false && is_new t.nodes tried x)
  open_by o is x =
      ap (λ (rules : List Rule). rule_achieves rules condition x.row && is_new t.nodes tried x) st.rules
      ∙ ap (λ (b : Bool). b && is_new t.nodes tried x) (rule_achieves_is world.rows condition x.row)
      ∙ ap (λ (p : Option Row). option_map_or (λ (test : Test). achieves test (effects_of world.rows x.row)) (option_and_then (λ (row : Row). test_in row.sort) p) false && is_new t.nodes tried x) is
      ∙ elim o as (λ (p : Option Row). (option_map_or (λ (test : Test). achieves test (effects_of world.rows x.row)) (option_and_then (λ (row : Row). test_in row.sort) p) false && is_new t.nodes tried x)
      ≡ (option_map_or (λ (row : Row). achieving world.rows (test_in row.sort) x) p false && is_new t.nodes tried x)) [ Some row ↦ refl | None ↦ refl ]

  got : (o : Option Row) → slice_get world.rows condition ≡ o → slice_get t.achievers condition ≡ option_map (achievers_of world.rows) o
  got o is = ap (λ (l : List (List Template)). slice_get l condition) st.achievers ∙ got_at world.rows world.rows condition ∙ ap (option_map (achievers_of world.rows)) is

  -- the search goes through those that are kept for the condition
  pub kept_first : find (is_new t.nodes tried) (achievers_at t.achievers condition) ≡ find (is_open t condition tried) t.templates
  kept_first =
      let wanted : Option (List Template) → Option Template = λ o. find (is_new t.nodes tried) (option_map_or (λ (own : List Template). own) o []) in
      elim (slice_get world.rows condition) as (λ (o : Option Row). slice_get world.rows condition ≡ o →
      find (is_new t.nodes tried) (achievers_at t.achievers condition) ≡ find (is_open t condition tried) t.templates) [
        | Some row ↦ λ row_is.
            ap wanted (got (Some row) row_is)
            ∙ find_both (achieving world.rows (test_in row.sort)) (is_new t.nodes tried) (templates_of world.rows)
            ∙ sym (find_alike (is_open t condition tried) (λ x. achieving world.rows (test_in row.sort) x && is_new t.nodes tried x) (open_by (Some row) row_is) (templates_of world.rows))
            ∙ ap (find (is_open t condition tried)) (sym st.templates)
        | None ↦ λ row_is. ap wanted (got None row_is) ∙ sym (find_none (is_open t condition tried) (λ x. open_by None row_is x) t.templates)
      ] refl
