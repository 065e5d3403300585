use Rattle.std.proofs.Common.{get_or, refl, sym, ◌∙◌}
use Rattle.spec_plan.specs.declared.places.Place.{Place}
use Rattle.plan_search.proofs.Growths.{condition_at, open_at, passed_all, passed_none, passed_over}
use Rattle.plan_search.proofs.growing.first_open.Goals as goal

abbrev none : Place
none = record { key = 0; uid = 0; row = 0; level = 0 }

pub loop-place-init : goal.loop-place-init
loop-place-init c = λ world tree st are. passed_none world c.args.t.now tree c.args.places.now st are

pub loop-place-preserved : goal.loop-place-preserved
loop-place-preserved c = λ world tree st are.
    let p = c.loop-place.invariant world tree st are in
    let i = c.loop-place.place-index in
    let x = get_or c.args.places.now i none in
    let is = condition_at tree c.args.places.now i none x c.loop-place-test.true refl p.rest in
    passed_over world c.args.t.now tree c.args.places.now i none c.loop-place-test.true p (sym (c.has_untried.ensures world tree st is) ∙ c.if-has_untried.false)

pub returns-then-has_untried : goal.returns-then-has_untried
returns-then-has_untried c = λ world tree st are.
    let p = c.loop-place.invariant world tree st are in
    let i = c.loop-place.place-index in
    let x = get_or c.args.places.now i none in
    let is = condition_at tree c.args.places.now i none x c.loop-place-test.true refl p.rest in
    sym (open_at world c.args.t.now tree c.args.places.now i none c.loop-place-test.true p (sym (c.has_untried.ensures world tree st is) ∙ c.if-has_untried.true))

pub returns : goal.returns
returns c = λ world tree st are. sym (passed_all world c.args.t.now tree c.args.places.now c.loop-place.place-index c.loop-place-test.false (c.loop-place.invariant world tree st are)).none
