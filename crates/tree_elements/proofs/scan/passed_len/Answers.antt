use Rattle.std.proofs.Common.{ℕ, not, ◌==◌, ◌||◌}
use Rattle.tree_elements.proofs.Searches.{passed_on}
use Rattle.tree_elements.proofs.scan.passed_len.Goals as goal

pub returns-clause-value : goal.returns-clause-value
returns-clause-value c =
    let p = λ (b : ℕ). not (b == c.args.first || b == 0) in
    passed_on p c.min.result c.args.bytes.now c.split_at.result.0.now c.split_at.result.1.now c.passed_near-len.result c.passed_far.result
    c.split_at.ensures.front c.split_at.ensures.back c.passed_near-len.ensures.value c.if-len-few.false c.passed_near-len.ensures.within c.passed_far.ensures.value
