use Rattle.std.proofs.Common.{◌≡◌, drop, arith}
use Rattle.std.specs.Prelude.{Some}
use Rattle.std.proofs.lemmas.Grind.{common_steps}
use Rattle.script_code.specs.Postfixes.{lone_number}
use Rattle.script_code.proofs.Patches.{take_in}
use Rattle.script_code.proofs.compiling.apply.Goals as goal

pub returns-in-Some : goal.returns-in-Some
returns-in-Some c = λ front b at is.
    let found : lone_number (drop c.args.place c.args.code.now.items) ≡ Some c.in-Some.n = grind (arith, common_steps) in
    let p = take_in c.args.op c.in-Some.n c.args.code.now.items front b c.args.place at is found in
    grind (arith, common_steps, p)
