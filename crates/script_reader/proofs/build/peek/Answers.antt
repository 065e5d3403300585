use Rattle.script_reader.proofs.Building.{first-at}
use Rattle.script_reader.proofs.build.peek.Goals as goal

pub returns-in-Some : goal.returns-in-Some
returns-in-Some c =
    let h = c.in-Some.ensures.lookup in
    (first-at c.args.tokens.now c.args.at c.in-Some.placed.now h.3.0 h.1, h.3.0)
