use Rattle.std.proofs.Common.{ℕ, Option, get_or, refl, subst}
use Rattle.spec_plan.specs.declared.places.Place.{Place}
use Rattle.plan_search.specs.Grown.{ExpandsOrNot}
use Rattle.plan_search.proofs.Growths.{condition_at, grown_at, passed_all, passed_more, passed_none, row_is}
use Rattle.plan_search.proofs.growing.expand_first.Goals as goal

abbrev none : Place
none = record { key = 0; uid = 0; row = 0; level = 0 }

pub loop-place-init : goal.loop-place-init
loop-place-init c = λ world tree st are. passed_none world c.args.t.now tree c.args.places.now st are

pub try_expand-requires : goal.try_expand-requires
try_expand-requires c =
    let p = c.loop-place.invariant c.requires.0 c.requires.1 c.requires.2 c.requires.3 in
    let i = c.loop-place.place-index in
    (c.requires.0, c.requires.1, p.stands, condition_at c.requires.1 c.args.places.now i none (get_or c.args.places.now i none) c.loop-place-test.true refl p.rest)

pub row_of-requires : goal.row_of-requires
row_of-requires c =
    let world = c.requires.0 in
    let tree = c.requires.1 in
    let p = c.loop-place.invariant world tree c.requires.2 c.requires.3 in
    let i = c.loop-place.place-index in
    let x = get_or c.args.places.now i none in
    let is = condition_at tree c.args.places.now i none x c.loop-place-test.true refl p.rest in
    let e = subst (λ (o : Option ℕ). ExpandsOrNot c.try_expand.new.t world tree x.key o) c.in-Some.is (c.in_ok-found.ensures world tree p.stands is) in
    (world, _, e.template.row, e.stands, row_is c.try_expand.new.t world tree x.key c.in-Some.sequence e)

pub returns-in-Some : goal.returns-in-Some
returns-in-Some c = λ world tree st are.
    let p = c.loop-place.invariant world tree st are in
    let i = c.loop-place.place-index in
    let x = get_or c.args.places.now i none in
    let is = condition_at tree c.args.places.now i none x c.loop-place-test.true refl p.rest in
    let e = subst (λ (o : Option ℕ). ExpandsOrNot c.try_expand.new.t world tree x.key o) c.in-Some.is (c.in_ok-found.ensures world tree p.stands is) in
    grown_at world c.loop-place.t c.try_expand.new.t tree c.args.places.now i none c.loop-place-test.true p (record { place = x; sequence = c.in-Some.sequence; action = c.row_of.result }) refl e
    (c.row_of.ensures world _ e.template.row e.stands (row_is c.try_expand.new.t world tree x.key c.in-Some.sequence e))

pub loop-place-preserved : goal.loop-place-preserved
loop-place-preserved c = λ world tree st are.
    let p = c.loop-place.invariant world tree st are in
    let i = c.loop-place.place-index in
    let x = get_or c.args.places.now i none in
    let is = condition_at tree c.args.places.now i none x c.loop-place-test.true refl p.rest in
    let e = subst (λ (o : Option ℕ). ExpandsOrNot c.try_expand.new.t world tree x.key o) c.in-None.is (c.in_ok-found.ensures world tree p.stands is) in
    passed_more world c.loop-place.t c.try_expand.new.t tree c.args.places.now i none c.loop-place-test.true p e.0 x refl e.1

pub returns : goal.returns
returns c = λ world tree st are. passed_all world c.loop-place.t tree c.args.places.now c.loop-place.place-index c.loop-place-test.false (c.loop-place.invariant world tree st are)
