use Rattle.std.proofs.Common.{Some, ap, sym, ◌∙◌}
use Rattle.spec_plan.specs.declared.part.Part.{Part}
use Rattle.test_plans.proofs.steps.condition_at.Goals as goal

pub returns-in-Some-Condition : goal.returns-in-Some-Condition
returns-in-Some-Condition c = λ tree st.
    let part = c.in-Some-Condition.ensures.known c.args.world.now tree st (c.in_ok-key.ensures tree st) in
    (c.in-Some-Condition.field-0-0, sym part ∙ ap (λ (p : Part). Some p) c.in-Some-Condition.field-0-is)
