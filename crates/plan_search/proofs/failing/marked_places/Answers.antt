use Rattle.std.proofs.Common.{◌+◌, ◌++◌, ◌∙◌, List, ap, sym, get_or}
use Rattle.std.specs.Option.{option_to_list}
use Rattle.spec_plan.specs.declared.part.Part.TheVariants.{Goals}
use Rattle.spec_plan.specs.declared.places.Place.{Place}
use Rattle.spec_plan.specs.declared.places.Spot.{Spot}
use Rattle.plan_search.specs.Marked.{marked_place}
use Rattle.plan_search.proofs.Spots.{marked_more}
use Rattle.plan_search.proofs.failing.marked_places.Goals as goal

pub loop-index-preserved : goal.loop-index-preserved
loop-index-preserved c =
    let i = c.loop-index.index in
    let none : Spot = record { key = 0; part = Goals; level = 0 } in
    c.in_ok-add_marked.ensures
    ∙ ap (λ (l : List Place). l ++ option_to_list (marked_place c.args.marks.now (i + 1) (get_or c.args.spots.now i none))) c.loop-index.invariant
    ∙ sym (marked_more c.args.marks.now c.args.spots.now i none c.loop-index-test.true)
