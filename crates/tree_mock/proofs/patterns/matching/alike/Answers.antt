use Rattle.std.proofs.Common.{drop, length, nat_eq, arith}
use Rattle.std.proofs.lemmas.List.{length-drop}
use Rattle.std.proofs.lemmas.List.Sums.{common_prefix_len-le}
use Rattle.std.specs.Prelude.{◌≤◌}
use Rattle.tree_mock.proofs.patterns.matching.alike.Goals as goal

pub returns-else-count-other : goal.returns-else-count-other
returns-else-count-other c =
    let n = c.loop-count.count in
    let text = drop n c.args.text.now in
    let other = drop n c.args.other.now in
    let end : length c.args.other.now ≤ n = omega (arith, c.if-count-other.false) in
    omega (arith, c.loop-count.invariant.sum, (common_prefix_len-le nat_eq text other).1, length-drop n c.args.other.now, end)
