use Rattle.std.proofs.Common.{◌≡◌, ◌+◌, ℕ, List, Option, length, ap, sym, ◌∙◌, arith}
use Rattle.std.specs.Option.{option_or}
use Rattle.slab.specs.Slab.{get}
use Rattle.spec_plan.specs.Forests.{Ancestor, place_of}
use Rattle.spec_plan.specs.Conflicts.{heads_before, heads_in}
use Rattle.plan_reorder.proofs.Climbed.{above_at, no_parent, some_parent}
use Rattle.plan_reorder.proofs.Threats.{found_above, key_found, threat_in_is}
use Rattle.plan_reorder.proofs.conflicts.+threat_above.Goals as goal

pub returns-in_default : goal.returns-in_default
returns-in_default t c = λ world tree place st found low.
    let plan = c.args.t.now in
    let none = no_parent plan.nodes plan.root tree st.nodes st.apart.once c.args.key place found (sym c.in_default.ensures) in
    ap (λ (up : List Ancestor). key_found plan.nodes plan.rules c.args.action (heads_before up)) (sym none)

pub returns-in-Some-threat_above : goal.returns-in-Some-threat_above
returns-in-Some-threat_above t c = λ world tree place st found low.
    let plan = c.args.t.now in
    let up = some_parent plan.nodes plan.root tree st.nodes st.apart.once c.args.key c.in-Some.parent place found (sym c.in-Some.ensures) in
    let above = above_at plan.nodes plan.root tree st.nodes st.apart.once c.args.key place up.0 up.1 found up.2 in
    let long : length place.above ≡ 1 + length up.1 = ap (λ (l : List Ancestor). length l) up.2 ∙ omega arith in
    let outer = c.in-Some-threat_above.ensures world tree (record { before = above.before; above = up.1 }) st (ap (λ (k : ℕ). place_of k tree) up.3 ∙ above.place) (omega (arith, long, low)) in
    ap (λ (o : Option ℕ). option_or o (key_found plan.nodes plan.rules c.args.action (heads_in up.0))) outer
    ∙ sym (found_above plan.nodes plan.rules c.args.action plan.root tree st.nodes st.apart.once up.0 up.1)
    ∙ ap (λ (l : List Ancestor). key_found plan.nodes plan.rules c.args.action (heads_before l)) (sym up.2)

pub returns-in-None : goal.returns-in-None
returns-in-None t c = λ world tree place st found low.
    let plan = c.args.t.now in
    let up = some_parent plan.nodes plan.root tree st.nodes st.apart.once c.args.key c.in-Some.parent place found (sym c.in-Some.ensures) in
    let above = above_at plan.nodes plan.root tree st.nodes st.apart.once c.args.key place up.0 up.1 found up.2 in
    let long : length place.above ≡ 1 + length up.1 = ap (λ (l : List Ancestor). length l) up.2 ∙ omega arith in
    let outer = c.in-None.ensures world tree (record { before = above.before; above = up.1 }) st (ap (λ (k : ℕ). place_of k tree) up.3 ∙ above.place) (omega (arith, long, low)) in
    c.threat_in.ensures above.keeps.node (ap (λ (k : ℕ). get plan.nodes k) up.3 ∙ above.keeps.there)
    ∙ threat_in_is plan.nodes plan.rules c.args.action plan.root tree st.nodes st.apart.once c.args.key up.0 up.1 above
    ∙ ap (λ (o : Option ℕ). option_or o (key_found plan.nodes plan.rules c.args.action (heads_in up.0))) outer
    ∙ sym (found_above plan.nodes plan.rules c.args.action plan.root tree st.nodes st.apart.once up.0 up.1)
    ∙ ap (λ (l : List Ancestor). key_found plan.nodes plan.rules c.args.action (heads_before l)) (sym up.2)
