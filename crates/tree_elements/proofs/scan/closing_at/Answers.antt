use Rattle.std.proofs.Common.{◌<◌, arith}
use Rattle.tree_elements.proofs.Cuts.{cut_following}
use Rattle.tree_elements.proofs.scan.closing_at.Goals as goal

pub returns-then-c-eq62-clause-utf8 : goal.returns-then-c-eq62-clause-utf8
returns-then-c-eq62-clause-utf8 c =
    let small : c.in-Some.c.now < 128 = omega arith in
    cut_following c.in-Some.c.now c.args.bytes.now c.in-Some.rest.now c.in-Some.ensures.cases.0 small c.requires

pub byte_at-requires-clause-utf8 : goal.byte_at-requires-clause-utf8
byte_at-requires-clause-utf8 c =
    let small : c.in-Some.c.now < 128 = omega arith in
    cut_following c.in-Some.c.now c.args.bytes.now c.in-Some.rest.now c.in-Some.ensures.cases.0 small c.requires
