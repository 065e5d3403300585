use Rattle.std.proofs.Common.{◌≡◌, ◌⊎◌, inl, inr, ℕ, ◌<◌, ◌≤◌, List, map, true, Option, None, Some, length, get_or, refl, ap, sym, subst, ◌∙◌, arith}
use Rattle.std.specs.Prelude.{slice_get}
use Rattle.std.specs.Option.{is_some}
use Rattle.std.proofs.Math.Nat.{eq-or-lt_of_le}
use Rattle.std.proofs.lemmas.Option.{get_or_from_slice_get, slice_get_read}
use Rattle.spec_world.specs.declared.world.Row.{Row}
use Rattle.spec_run.specs.Drivers.{kind_of_row, place_of_kind}
use Rattle.test_plans.proofs.whole.all_served.Goals as goal

not_none : (o : Option ℕ) → o ≡ None → is_some o ≡ true → ⊥
not_none None is some = cc some
not_none (Some x) is some = cc is

pub loop-row-init : goal.loop-row-init
loop-row-init g c = λ k d low. omega (arith, low)

pub loop-row-preserved : goal.loop-row-preserved
loop-row-preserved g c = λ k d low.
    let items = c.list-row-items.result.now in
    let rows = c.args.world.now.rows in
    let i = c.loop-row.row-index in
    let row = c.row-item.result in
    let drivers = map (λ (b : _). (goal.Driver-dyn g (b.vtable, b.value)).state b.value) c.args.roster.now in
    let own : k ≡ i → place_of_kind drivers (kind_of_row (get_or rows k d)) ≡ None → ⊥ = λ same none.
    let here : slice_get items i ≡ Some row = slice_get_read items (length items) i row refl c.loop-row-test.true c.row-item.is in
    let at : get_or rows k d ≡ row =
    ap (λ (n : ℕ). get_or rows n d) same ∙ ap (λ (l : List Row). get_or l i d) (sym c.list-row-items.ensures) ∙ get_or_from_slice_get items i row d here in
    let place : c.find_kind.result ≡ None = c.find_kind.ensures ∙ ap (place_of_kind drivers) (c.kind_of.ensures ∙ ap kind_of_row (sym at)) ∙ none in
    let some : is_some c.find_kind.result ≡ true = c.if-is_none.ensures in
    not_none c.find_kind.result place some in
    let most : k ≤ i = omega (arith, low) in
    elim (eq-or-lt_of_le most) [
      | inl same ↦ own same
      | inr before ↦ c.loop-row.invariant k d before
    ]

pub returns : goal.returns
returns g c = λ all k d within. c.loop-row.invariant k d (let many = ap length c.list-row-items.ensures in let end = c.loop-row-test.false in omega (arith, within, many, end))
