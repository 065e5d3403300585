use Rattle.std.proofs.Common.{Option, Some, ap, sym, ◌∙◌}
use Rattle.std.specs.Prelude.{is_some}
use Rattle.spec_plan.specs.declared.part.Part.{Part}
use Rattle.spec_plan.specs.Conflicts.{Pair}
use Rattle.plan_reorder.proofs.OwnConflicts.{child_conflicts, last_within}
use Rattle.plan_reorder.proofs.conflicts.is_threat.Goals as goal

pub returns-in-Some-Action : goal.returns-in-Some-Action
returns-in-Some-Action c = λ is world tree st has.
    child_conflicts world c.args.t.now tree st c.args.sequence has c.in-Some.node.now (sym c.in-Some.ensures) c.as_slice-keys.result.now c.as_slice-keys.ensures _
    (last_within c.as_slice-keys.result.now (sym c.is_empty.ensures ∙ c.if-is_empty.false)) c.in-Some-Action.row
    (sym c.part_of.ensures.slab ∙ c.in-Some-Action.is ∙ ap (λ (part : Part). Some part) c.in-Some-Action.field-0-is)
    (λ place found. sym (ap (λ (o : Option Pair). is_some o) (c.own_conflict.ensures world tree place st found)) ∙ sym c.is_some.ensures ∙ is)
