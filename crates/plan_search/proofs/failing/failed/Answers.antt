use Rattle.std.proofs.Common.{◌++◌, ◌≤◌, List, None, length, ap, ◌∙◌, arith}
use Rattle.plan_tree.proofs.Counted.{height-le_size}
use Rattle.plan_tree.specs.Sizes.{height}
use Rattle.spec_plan.specs.declared.places.Place.{Place}
use Rattle.spec_plan.specs.declared.places.Spot.{Spot}
use Rattle.spec_plan.specs.Failing.{breadth_first, spots_from}
use Rattle.plan_search.specs.Marked.{is_marked}
use Rattle.plan_search.proofs.Conditions.{found_failed, length-spots}
use Rattle.plan_search.proofs.Growths.{ok_gives}
use Rattle.plan_search.proofs.failing.failed.Goals as goal

pub marked_places-requires-clause-few : goal.marked_places-requires-clause-few
marked_places-requires-clause-few c =
    let tree = c.requires.1 in
    let st = c.requires.2 in
    let small = c.requires.3 in
    let wide = height-le_size tree in
    let whole = st.whole in
    let low : height tree ≤ c.len-nodes.result = omega (arith, wide, whole, c.len-nodes.ensures) in
    let are = c.in_ok-list_spots.ensures None tree st.nodes low ∙ ap (λ (l : List Spot). l ++ spots_from 0 tree) c.in_ok-spots.ensures.items in
    let many = ap (λ (l : List Spot). length l) (c.as_slice.ensures.value ∙ are) ∙ length-spots 0 tree in
    omega (arith, many, small)

pub marked_places-requires-clause-marks : goal.marked_places-requires-clause-marks
marked_places-requires-clause-marks c =
    let tree = c.requires.1 in
    let st = c.requires.2 in
    let wide = height-le_size tree in
    let whole = st.whole in
    let low : height tree ≤ c.len-nodes.result = omega (arith, wide, whole, c.len-nodes.ensures) in
    let are = c.in_ok-list_spots.ensures None tree st.nodes low ∙ ap (λ (l : List Spot). l ++ spots_from 0 tree) c.in_ok-spots.ensures.items in
    let many = ap (λ (l : List Spot). length l) (c.as_slice.ensures.value ∙ are) ∙ length-spots 0 tree in
    let marks = ap (λ l. length l) c.as_slice-2.ensures.value ∙ c.in_ok-marks.ensures.many in
    omega (arith, many, marks, whole, c.len-nodes.ensures)

pub returns : goal.returns
returns c =
    ok_gives c.breadth_first.result
    (λ places is. λ world tree st.
    let wide = height-le_size tree in
    let whole = st.whole in
    let low : height tree ≤ c.len-nodes.result = omega (arith, wide, whole, c.len-nodes.ensures) in
    let are = c.in_ok-list_spots.ensures None tree st.nodes low ∙ ap (λ (l : List Spot). l ++ spots_from 0 tree) c.in_ok-spots.ensures.items in
    is
    ∙ ap (λ (l : List Place). breadth_first l) (c.as_slice-3.ensures.value ∙ c.in_ok-places.ensures
    ∙ found_failed tree c.args.notes.now c.len-nodes.result (omega (arith, whole, c.len-nodes.ensures)) c.as_slice-2.result.now
    (λ uid few. ap (λ l. is_marked l uid) c.as_slice-2.ensures.value ∙ c.in_ok-marks.ensures.marks uid few)
    c.as_slice.result.now (c.as_slice.ensures.value ∙ are)))
    c.breadth_first.ensures
