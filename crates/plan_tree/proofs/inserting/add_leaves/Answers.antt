use Rattle.std.proofs.Common.{◌≡◌, ◌+◌, ℕ, List, [], ◌∷◌, Option, Some, length, map, ap, sym, ◌∙◌, arith}
use Rattle.std.proofs.lemmas.List.{length-append, length-map}
use Rattle.spec_plan.specs.declared.part.Part.TheVariants.{Action, Condition}
use Rattle.plan_tree.specs.Growth.{parts_of}
use Rattle.plan_tree.proofs.NewNodes.{adds_next, parts_count, parts_with, size-leaves_all}
use Rattle.plan_tree.proofs.inserting.add_leaves.Goals as goal

pub add_leaf-requires-clause-room : goal.add_leaf-requires-clause-room
add_leaf-requires-clause-room c =
    let rows = c.args.branch.now.conditions.now in
    let keys = c.add_conditions.new.keys.items in
    let even = c.add_conditions.ensures.count ∙ sym (length-map rows Condition) in
    let so_many = size-leaves_all keys (map Condition rows) even in
    let many = length-map rows Condition in
    let len = c.add_conditions.ensures.added.len in
    let all = parts_count rows c.args.branch.now.action c.in-Some.row c.in-Some.is in
    let room = c.requires.room in
    let same = c.add_conditions.ensures.capacity in
    omega (arith, so_many, many, len, all, room, same)

pub returns-in-Some-clause-added : goal.returns-in-Some-clause-added
returns-in-Some-clause-added c =
    let rows = c.args.branch.now.conditions.now in
    let keys = c.add_conditions.new.keys.items in
    let even = c.add_conditions.ensures.count ∙ sym (length-map rows Condition) in
    let leaf = c.add_leaf.ensures.added in
    adds_next c.args.nodes.now c.add_conditions.new.nodes c.add_leaf.new.nodes (Some c.args.parent) keys c.add_leaf.new.keys.items (map Condition rows) (parts_of rows c.args.branch.now.action)
    leaf.0 (Action c.in-Some.row) leaf.2 (parts_with rows c.args.branch.now.action c.in-Some.row c.in-Some.is) even c.add_conditions.ensures.added leaf.1

pub returns-in_default-clause-count : goal.returns-in_default-clause-count
returns-in_default-clause-count c =
    c.add_conditions.ensures.count ∙ sym (length-map c.args.branch.now.conditions.now Condition) ∙ ap (λ (a : Option ℕ). length (parts_of c.args.branch.now.conditions.now a)) (sym c.in_default.is)

pub returns-in-Some-clause-count : goal.returns-in-Some-clause-count
returns-in-Some-clause-count c =
    let more : length c.add_leaf.new.keys.items ≡ length c.add_conditions.new.keys.items + 1 =
    ap (λ (l : List ℕ). length l) c.add_leaf.ensures.added.2 ∙ length-append c.add_conditions.new.keys.items (c.add_leaf.ensures.added.0 ∷ []) in
    let all = parts_count c.args.branch.now.conditions.now c.args.branch.now.action c.in-Some.row c.in-Some.is in
    omega (arith, more, all, c.add_conditions.ensures.count)
