use Rattle.std.proofs.Common.{◌<◌, arith}
use Rattle.tree_elements.proofs.Cuts.{cut_following}
use Rattle.tree_elements.proofs.scan.byte_at.Goals as goal

pub returns-clause-utf8 : goal.returns-clause-utf8
returns-clause-utf8 c =
    let small : c.in-Some.b.now < 128 = omega arith in
    cut_following c.in-Some.b.now c.args.bytes.now c.in-Some.rest.now c.in-Some.ensures.cases.0 small c.requires.utf8
