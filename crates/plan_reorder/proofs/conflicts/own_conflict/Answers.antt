use Rattle.std.proofs.Common.{◌≡◌, ◌+◌, ℕ, List, length, ap, sym, ◌∙◌, arith}
use Rattle.std.specs.Prelude.{option_map}
use Rattle.spec_plan.specs.Forests.{Ancestor, place_of}
use Rattle.plan_tree.proofs.Counted.{height-le_size}
use Rattle.spec_plan.specs.Conflicts.{heads_before, outer_of}
use Rattle.plan_reorder.proofs.Climbed.{above_at, above_height, no_parent, some_parent}
use Rattle.plan_reorder.proofs.Threats.{key_found, own_first, own_none}
use Rattle.plan_reorder.proofs.conflicts.own_conflict.Goals as goal

pub returns-in_default : goal.returns-in_default
returns-in_default c = λ world tree place st found.
    let plan = c.args.t.now in
    sym (own_none world plan tree st c.args.key c.args.action place found (no_parent plan.nodes plan.root tree st.nodes st.apart.once c.args.key place found (sym c.in_default.ensures)))

pub returns-in-Some-threat_above : goal.returns-in-Some-threat_above
returns-in-Some-threat_above c = λ world tree place st found.
    let plan = c.args.t.now in
    let up = some_parent plan.nodes plan.root tree st.nodes st.apart.once c.args.key c.in-Some.parent place found (sym c.in-Some.ensures) in
    let above = above_at plan.nodes plan.root tree st.nodes st.apart.once c.args.key place up.0 up.1 found up.2 in
    let high = above_height c.args.key tree place found in
    let wide = height-le_size tree in
    let whole = st.whole in
    let long : length place.above ≡ 1 + length up.1 = ap (λ (l : List Ancestor). length l) up.2 ∙ omega arith in
    let outer = c.in-Some-threat_above.ensures world tree (record { before = above.before; above = up.1 }) st (ap (λ (k : ℕ). place_of k tree) up.3 ∙ above.place) (omega (arith, long, high, wide, whole, c.len.ensures)) in
    ap (option_map (λ (head : ℕ). (c.args.key, head))) outer
    ∙ ap (λ (l : List Ancestor). option_map (λ (head : ℕ). (c.args.key, head)) (key_found plan.nodes plan.rules c.args.action (heads_before (outer_of l)))) (sym up.2)
    ∙ sym (own_first world plan tree st c.args.key c.args.action place found)

pub returns-in-None : goal.returns-in-None
returns-in-None c = λ world tree place st found.
    let plan = c.args.t.now in
    let up = some_parent plan.nodes plan.root tree st.nodes st.apart.once c.args.key c.in-Some.parent place found (sym c.in-Some.ensures) in
    let above = above_at plan.nodes plan.root tree st.nodes st.apart.once c.args.key place up.0 up.1 found up.2 in
    let high = above_height c.args.key tree place found in
    let wide = height-le_size tree in
    let whole = st.whole in
    let long : length place.above ≡ 1 + length up.1 = ap (λ (l : List Ancestor). length l) up.2 ∙ omega arith in
    let outer = c.in-None.ensures world tree (record { before = above.before; above = up.1 }) st (ap (λ (k : ℕ). place_of k tree) up.3 ∙ above.place) (omega (arith, long, high, wide, whole, c.len.ensures)) in
    ap (option_map (λ (head : ℕ). (c.args.key, head))) outer
    ∙ ap (λ (l : List Ancestor). option_map (λ (head : ℕ). (c.args.key, head)) (key_found plan.nodes plan.rules c.args.action (heads_before (outer_of l)))) (sym up.2)
    ∙ sym (own_first world plan tree st c.args.key c.args.action place found)
