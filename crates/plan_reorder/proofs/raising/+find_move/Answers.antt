use Rattle.std.proofs.Common.{◌≡◌, ◌+◌, ℕ, List, Some, None, length, ap, sym, ◌∙◌, arith}
use Rattle.std.specs.Prelude.{option_map}
use Rattle.std.specs.List.{find}
use Rattle.slab.specs.Slab.{get}
use Rattle.spec_plan.specs.Forests.{Ancestor, place_of}
use Rattle.plan_reorder.specs.Looked.{left_of, move_in}
use Rattle.spec_plan.specs.Raising.{can_move}
use Rattle.plan_reorder.proofs.Climbed.{above_at, move_here, move_on, no_parent, some_parent}
use Rattle.plan_reorder.proofs.raising.+find_move.Goals as goal

pub returns-in_default : goal.returns-in_default
returns-in_default t c = λ root tree place stands apart found low.
    let none = no_parent c.args.nodes.now root tree stands apart.once c.args.key place found (sym c.in_default.ensures) in
    ap (λ (up : List Ancestor). option_map move_in (find can_move up)) (sym none)

pub returns-in-Some-left_of : goal.returns-in-Some-left_of
returns-in-Some-left_of t c = λ root tree place stands apart found low.
    let s = c.args.nodes.now in
    let up = some_parent s root tree stands apart.once c.args.key c.in-Some.parent place found (sym c.in-Some.ensures) in
    let above = above_at s root tree stands apart.once c.args.key place up.0 up.1 found up.2 in
    let left : left_of c.args.key above.keeps.node ≡ Some c.in-Some-left_of.place =
    sym (c.in-Some-left_of.ensures above.keeps.node (ap (λ (k : ℕ). get s k) up.3 ∙ above.keeps.there)) in
    ap (λ (k : ℕ). Some (record { parent = k; place = c.in-Some-left_of.place })) up.3 ∙ sym (move_here s root tree stands apart.once c.args.key c.in-Some-left_of.place up.0 up.1 above left)
    ∙ ap (λ (l : List Ancestor). option_map move_in (find can_move l)) (sym up.2)

pub returns-in-None : goal.returns-in-None
returns-in-None t c = λ root tree place stands apart found low.
    let s = c.args.nodes.now in
    let up = some_parent s root tree stands apart.once c.args.key c.in-Some.parent place found (sym c.in-Some.ensures) in
    let above = above_at s root tree stands apart.once c.args.key place up.0 up.1 found up.2 in
    let left : left_of c.args.key above.keeps.node ≡ None = sym (c.in-None.ensures above.keeps.node (ap (λ (k : ℕ). get s k) up.3 ∙ above.keeps.there)) in
    let long : length place.above ≡ 1 + length up.1 = ap (λ (l : List Ancestor). length l) up.2 ∙ omega arith in
    c.find_move.ensures root tree (record { before = above.before; above = up.1 }) stands apart (ap (λ (k : ℕ). place_of k tree) up.3 ∙ above.place) (omega (arith, long, low))
    ∙ ap (option_map move_in) (sym (move_on s root tree stands apart.once c.args.key up.0 up.1 above left) ∙ ap (λ (l : List Ancestor). find can_move l) (sym up.2))
