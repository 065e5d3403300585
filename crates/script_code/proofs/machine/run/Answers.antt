use Rattle.std.proofs.Common.{◌≤◌, ◌∙◌, [], ap, sym, length, arith}
use Rattle.std.proofs.lemmas.Grind.{common_steps}
use Rattle.script_code.specs.Running.{code_value, put}
use Rattle.script_code.proofs.Steps.{given_at_end}
use Rattle.script_code.proofs.machine.run.Goals as goal

pub returns-clause-leaves : goal.returns-clause-leaves
returns-clause-leaves g c =
    let look = g.S.Stack.gives c.args.slots.now in
    let past : length c.list-instrs.result.now ≤ c.loop-place.place = grind (arith, common_steps) in
    ap (λ r. put r []) (ap (code_value look) (sym c.list-instrs.ensures) ∙ sym c.loop-place.invariant.gives)
    ∙ given_at_end g.S.Stack.room look c.list-instrs.result.now c.loop-place.place (g.S.Stack.values c.loop-place.stack) past c.loop-place.invariant.room
