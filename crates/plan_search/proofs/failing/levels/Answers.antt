use Rattle.std.proofs.Common.{◌+◌, ◌∙◌, ℕ, max, get_or, ap, sym}
use Rattle.spec_plan.specs.declared.places.Place.{Place}
use Rattle.plan_search.proofs.Spots.{levels_more}
use Rattle.plan_search.proofs.failing.levels.Goals as goal

pub loop-place-preserved : goal.loop-place-preserved
loop-place-preserved c =
    let i = c.loop-place.place-index in
    let places = c.args.places.now in
    let none : Place = record { key = 0; uid = 0; row = 0; level = 0 } in
    c.deeper-deepest.ensures ∙ ap (λ (n : ℕ). max n ((get_or places i none).level + 1)) c.loop-place.invariant ∙ sym (levels_more places i none c.loop-place-test.true)
