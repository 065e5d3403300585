use Rattle.std.proofs.Common.{◌<◌, arith}
use Rattle.tree_elements.proofs.Cuts.{cut_following}
use Rattle.tree_elements.proofs.scan.next_mark.Goals as goal

pub end_at-requires : goal.end_at-requires
end_at-requires c =
    let small : c.in-Some.c.now < 128 = omega arith in
    cut_following c.in-Some.c.now c.args.bytes.now c.in-Some.rest.now c.in-Some.ensures.cases.0 small c.requires

pub instruction_at-requires : goal.instruction_at-requires
instruction_at-requires c =
    let small : c.in-Some.c.now < 128 = omega arith in
    cut_following c.in-Some.c.now c.args.bytes.now c.in-Some.rest.now c.in-Some.ensures.cases.0 small c.requires

pub comment_at-requires : goal.comment_at-requires
comment_at-requires c =
    let small : c.in-Some.c.now < 128 = omega arith in
    cut_following c.in-Some.c.now c.args.bytes.now c.in-Some.rest.now c.in-Some.ensures.cases.0 small c.requires
