use Rattle.std.proofs.Common.{◌≡◌, ◌+◌, ◌≤◌, ℕ, List, Some, [], ◌∷◌, get_or, length, map, take, ap, sym, ◌∙◌, subst, refl, arith}
use Rattle.std.proofs.lemmas.List.{length-append, take_all}
use Rattle.spec_plan.specs.declared.part.Part.TheVariants.{Condition}
use Rattle.spec_plan.specs.Expansion.{leaves}
use Rattle.plan_tree.specs.Growth.{Adds}
use Rattle.plan_tree.proofs.NewNodes.{adds_next, adds_none, size-leaves_all, taken_condition, taken_count}
use Rattle.plan_tree.proofs.inserting.add_conditions.Goals as goal

pub loop-row-init : goal.loop-row-init
loop-row-init c = record {
  added = subst (λ (ks : List ℕ). Adds c.args.nodes.now c.args.nodes.now (Some c.args.parent) ks (leaves ks [])) (sym c.requires.empty) (adds_none c.args.nodes.now (Some c.args.parent));
  counted = ap (λ (l : List ℕ). length l) c.requires.empty;
  capacity = refl;
  places = refl;
}

pub add_leaf-requires-clause-room : goal.add_leaf-requires-clause-room
add_leaf-requires-clause-room c =
    let i = c.loop-row.row-index in
    let within : i ≤ length c.args.rows.now = omega (arith, c.loop-row-test.true) in
    let counted = taken_count c.args.rows.now i within in
    let so_many = size-leaves_all c.loop-row.keys.items (map Condition (take i c.args.rows.now)) (c.loop-row.invariant.counted ∙ sym counted) in
    let len = c.loop-row.invariant.added.len in
    let room = c.requires.room in
    let same = c.loop-row.invariant.capacity in
    omega (arith, len, so_many, counted, room, same, c.loop-row-test.true)

pub add_leaf-requires-clause-place : goal.add_leaf-requires-clause-place
add_leaf-requires-clause-place c =
    let place = c.requires.place in
    let none : length c.args.keys.now.items ≡ 0 = ap (λ (l : List ℕ). length l) c.requires.empty in
    let counted = c.loop-row.invariant.counted in
    let same = c.loop-row.invariant.places in
    omega (arith, place, none, counted, same, c.loop-row-test.true)

pub loop-row-preserved : goal.loop-row-preserved
loop-row-preserved c =
    let i = c.loop-row.row-index in
    let rows = c.args.rows.now in
    let within : i ≤ length rows = omega (arith, c.loop-row-test.true) in
    let leaf = c.add_leaf.ensures.added in
    let more : length c.add_leaf.new.keys.items ≡ length c.loop-row.keys.items + 1 = ap (λ (l : List ℕ). length l) leaf.2 ∙ length-append c.loop-row.keys.items (leaf.0 ∷ []) in
    let row = get_or rows i 0 in
    record {
      added = adds_next c.args.nodes.now c.loop-row.nodes c.add_leaf.new.nodes (Some c.args.parent) c.loop-row.keys.items c.add_leaf.new.keys.items
          (map Condition (take i rows)) (map Condition (take (i + 1) rows)) leaf.0 (Condition row) leaf.2 (taken_condition rows i c.loop-row-test.true)
          (c.loop-row.invariant.counted ∙ sym (taken_count rows i within)) c.loop-row.invariant.added leaf.1;
      counted = omega (arith, more, c.loop-row.invariant.counted);
      capacity = c.add_leaf.ensures.capacity ∙ c.loop-row.invariant.capacity;
      places = c.add_leaf.ensures.places ∙ c.loop-row.invariant.places;
    }

pub returns : goal.returns
returns c =
    let i = c.loop-row.row-index in
    let rows = c.args.rows.now in
    record {
      added = subst (λ (taken : List ℕ). Adds c.args.nodes.now c.loop-row.nodes (Some c.args.parent) c.loop-row.keys.items (leaves c.loop-row.keys.items (map Condition taken)))
          (take_all i rows c.loop-row-test.false) c.loop-row.invariant.added;
      count = omega (arith, c.loop-row.invariant.counted, c.loop-row-test.false, c.loop-row.auto.row-index-end);
      capacity = c.loop-row.invariant.capacity;
      places = c.loop-row.invariant.places;
    }
