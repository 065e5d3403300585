use Rattle.std.proofs.Common.{arith}
use Rattle.std.proofs.lemmas.Grind.{common_steps}
use Rattle.script_code.specs.declared.instr.Instr.TheVariants.{AndThen, OrElse, Truth}
use Rattle.script_code.proofs.Patches.{patch}
use Rattle.script_code.proofs.compiling.end.Goals as goal

pub returns-in_ok-put-in-And : goal.returns-in_ok-put-in-And
returns-in_ok-put-in-And c = λ front b at is.
    let p = patch AndThen Truth c.args.code.now.items front b c.args.place at in
    grind (arith, common_steps, p)

pub returns-in_ok-put-in-Or : goal.returns-in_ok-put-in-Or
returns-in_ok-put-in-Or c = λ front b at is.
    let p = patch OrElse Truth c.args.code.now.items front b c.args.place at in
    grind (arith, common_steps, p)
