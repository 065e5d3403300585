use Rattle.std.proofs.Common.{◌∙◌, ap, ℕ, ◌+◌, arith}
use Rattle.test_plans.proofs.steps.tell_expansion.Goals as goal

pub returns-in_ok-writeln-in-Ok : goal.returns-in_ok-writeln-in-Ok
returns-in_ok-writeln-in-Ok c =
    let p = c.requires.plan in
    let grew = c.in-Ok.ensures.added c.args.world.now p.0 p.1 (c.requires.condition p.0 p.1) in
    (_, grew.stands, grew.many ∙ ap (λ (n : ℕ). n + 1) p.2, omega (arith, c.if-growing-ge120.false))

pub returns-in_ok-push_str-in-Err-Fault : goal.returns-in_ok-push_str-in-Err-Fault
returns-in_ok-push_str-in-Err-Fault c =
    let p = c.requires.plan in (p.0, c.in-Err-Fault.ensures.stands c.args.world.now p.0 p.1, p.2, p.3)
