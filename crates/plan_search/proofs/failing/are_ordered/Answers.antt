use Rattle.std.proofs.Common.{List, subst, sym}
use Rattle.std.proofs.lemmas.List.{drop_all}
use Rattle.spec_plan.specs.declared.places.Place.{Place}
use Rattle.plan_search.proofs.Rising.{Rising, rising_ordered}
use Rattle.plan_search.proofs.failing.are_ordered.Goals as goal

pub returns : goal.returns
returns c = λ all.
    let places = c.args.places.now in
    let i = c.loop-place.place-index in
    rising_ordered places (c.loop-place.invariant (subst (λ (ps : List Place). Rising c.loop-place.level ps) (sym (drop_all i places c.loop-place-test.false)) tt))
