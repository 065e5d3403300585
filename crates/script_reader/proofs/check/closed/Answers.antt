use Rattle.std.proofs.Common.{◌≡◌, arith}
use Rattle.std.proofs.lemmas.Grind.{common_steps}
use Rattle.spec_script.proofs.Machine.{closes}
use Rattle.script_reader.proofs.check.closed.Goals as goal

pub returns-in-Some : goal.returns-in-Some
returns-in-Some c =
    let same : c.in-Some.innermost ≡ c.args.wanted = grind (arith, common_steps) in
    closes c.args.opened.now.items c.pop.new.self.items c.args.wanted c.in-Some.innermost c.args.stage c.in-Some.ensures.items same
