use Rattle.std.proofs.Common.{refl, arith}
use Rattle.plan_reorder.proofs.Climbed.{above_height}
use Rattle.plan_reorder.proofs.Raised.{change_within, chosen, no_raise, place_is, raises}
use Rattle.plan_tree.proofs.Counted.{height-le_size}
use Rattle.plan_reorder.proofs.raising.raise.Goals as goal

pub returns-in-None : goal.returns-in-None
returns-in-None c = record {
  raised = λ world tree st is.
      let place = place_is world c.args.t.now tree st c.args.added is in
      let high = above_height c.args.added tree place.0 place.1 in
      let wide = height-le_size tree in
      let whole = st.whole in
      (no_raise world c.args.t.now tree st c.args.added is (c.in-None.ensures c.args.t.now.root tree place.0 st.nodes st.apart place.1 (omega (arith, high, wide, whole, c.len.ensures))), refl);
  room = refl;
}

pub swap_children-requires : goal.swap_children-requires
swap_children-requires c =
    let world = c.requires.0 in
    let tree = c.requires.1 in
    let st = c.requires.2 in
    let is = c.requires.3 in
    let place = place_is world c.args.t.now tree st c.args.added is in
    let high = above_height c.args.added tree place.0 place.1 in
    let wide = height-le_size tree in
    let whole = st.whole in
    change_within world c.args.t.now tree st c.args.added is c.in-Some.change
    (chosen world c.args.t.now tree st c.args.added is c.in-Some.change
    (c.in-Some.ensures c.args.t.now.root tree place.0 st.nodes st.apart place.1 (omega (arith, high, wide, whole, c.len.ensures))))

pub returns-in-Some : goal.returns-in-Some
returns-in-Some c = record {
  raised = λ world tree st is.
      let place = place_is world c.args.t.now tree st c.args.added is in
      let high = above_height c.args.added tree place.0 place.1 in
      let wide = height-le_size tree in
      let whole = st.whole in
      raises world c.args.t.now tree st c.args.added is c.in-Some.change
      (chosen world c.args.t.now tree st c.args.added is c.in-Some.change
      (c.in-Some.ensures c.args.t.now.root tree place.0 st.nodes st.apart place.1 (omega (arith, high, wide, whole, c.len.ensures))))
      c.swap_children.new.nodes c.swap_children.ensures.edited;
  room = c.swap_children.ensures.room;
}
