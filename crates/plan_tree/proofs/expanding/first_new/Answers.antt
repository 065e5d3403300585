use Rattle.std.proofs.Common.{not, ap, sym, ◌∙◌}
use Rattle.plan_tree.specs.Expanded.{is_new}
use Rattle.plan_tree.specs.Growth.{names_sequence}
use Rattle.plan_tree.proofs.Searched.{any_at, find_ended, found_item, passed_item}
use Rattle.plan_tree.proofs.expanding.first_new.Goals.{then-is_sequence_at, else-is_sequence_at+else-is_new}
use Rattle.plan_tree.proofs.expanding.first_new.Goals as goal

pub loop-template-preserved : goal.loop-template-preserved
loop-template-preserved c =
    let passed = passed_item (is_new c.args.nodes.now c.args.tried.now) c.args.achievers.now c.loop-template.template-index (record { row = 0 }) c.loop-template-test.true in
    elim c.if-is_sequence_at.branch [
      | then-is_sequence_at w ↦
          passed (ap not (any_at (names_sequence c.args.nodes.now _) c.args.tried.now c.loop-template.next
          (sym c.is_sequence_at.ensures ∙ w.if-is_sequence_at.true))) ∙ c.loop-template.invariant
      | else-is_sequence_at+else-is_new w ↦ passed (sym w.is_new.ensures ∙ w.if-is_new.false) ∙ c.loop-template.invariant
    ]

pub returns-then-is_new : goal.returns-then-is_new
returns-then-is_new c =
    sym (found_item (is_new c.args.nodes.now c.args.tried.now) c.args.achievers.now c.loop-template.template-index (record { row = 0 }) c.loop-template-test.true
    (sym c.is_new.ensures ∙ c.if-is_new.true)) ∙ c.loop-template.invariant

pub returns : goal.returns
returns c = sym (find_ended (is_new c.args.nodes.now c.args.tried.now) c.args.achievers.now c.loop-template.template-index c.loop-template-test.false) ∙ c.loop-template.invariant
