use Rattle.std.proofs.Common.{◌≡◌, ℕ, false, List, Option, ap, sym, ◌∙◌}
use Rattle.std.specs.Prelude.{option_map}
use Rattle.std.specs.List.{list_any}
use Rattle.spec_world.specs.declared.world.Set.{Set}
use Rattle.plan_tree.specs.declared.rule.Rule.{Rule}
use Rattle.plan_tree.specs.Growth.{rule_effects}
use Rattle.spec_plan.specs.declared.head.Head.{Head}
use Rattle.spec_plan.specs.Conflicts.{heads_before, outer_of}
use Rattle.plan_reorder.specs.Reads.{is_read}
use Rattle.plan_reorder.proofs.Threats.{own_first}
use Rattle.plan_reorder.proofs.Untouched.{none_wanted}
use Rattle.plan_reorder.proofs.conflicts.action_conflict.Goals as goal

pub returns-else-touches : goal.returns-else-touches
returns-else-touches c = λ world tree place st found all.
    let plan = c.args.t.now in
    let effects : c.effects_of.result.now ≡ rule_effects plan.rules c.args.action = c.effects_of.ensures ∙ ap (λ (rules : List Rule). rule_effects rules c.args.action) c.list.ensures in
    let none : list_any (λ (effect : Set). is_read c.args.read.now effect.fact) (rule_effects plan.rules c.args.action) ≡ false =
    sym (ap (list_any (λ (effect : Set). is_read c.args.read.now effect.fact)) effects) ∙ sym c.touches.ensures ∙ c.if-touches.false in
    sym (own_first world plan tree st c.args.key c.args.action place found
    ∙ ap (λ (o : Option Head). option_map (λ (head : ℕ). (c.args.key, head)) (option_map (λ (m : Head). m.key) o))
    (none_wanted c.args.read.now plan.rules c.args.action none plan.nodes (heads_before (outer_of place.above)) all))
