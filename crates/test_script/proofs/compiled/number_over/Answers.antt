use Rattle.std.proofs.Common.{rules, IsTrue, arith}
use Rattle.std.proofs.lemmas.Grind.{common_steps}
use Rattle.test_script.proofs.compiled.number_over.Goals as goal

pub number-requires-clause-reach : goal.number-requires-clause-reach
number-requires-clause-reach g c =
    let below : IsTrue c.slots_fit.result = search rules in
    let reach = c.in_ok-code.ensures.reach c.len-size.result (c.slots_fit.ensures below) in
    grind (arith, common_steps)
