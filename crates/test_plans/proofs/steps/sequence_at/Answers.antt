use Rattle.std.proofs.Common.{Some, ap, sym, ◌∙◌}
use Rattle.spec_plan.specs.declared.part.Part.{Part}
use Rattle.test_plans.proofs.steps.sequence_at.Goals as goal

pub returns-in-Some-Sequence : goal.returns-in-Some-Sequence
returns-in-Some-Sequence c = λ tree st.
    let part = c.in-Some-Sequence.ensures.known c.args.world.now tree st (c.in_ok-key.ensures tree st) in
    (c.in-Some-Sequence.field-0-0, sym part ∙ ap (λ (p : Part). Some p) c.in-Some-Sequence.field-0-is)
