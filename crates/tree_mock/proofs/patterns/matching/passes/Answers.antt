use Rattle.std.proofs.Common.{ℕ, ap, drop, ◌∙◌}
use Rattle.tree_mock.specs.Patterns.{before_star}
use Rattle.tree_mock.proofs.AboutPatterns.Pieces.{front_left, passed_left, unstarred}
use Rattle.tree_mock.proofs.patterns.matching.passes.Goals as goal

pub follows-requires : goal.follows-requires
follows-requires c = ap before_star (c.split_at.ensures.back ∙ ap (λ (n : ℕ). drop n c.args.pattern.now) c.plain_len.ensures.value) ∙ unstarred c.args.pattern.now

pub returns-in-Some : goal.returns-in-Some
returns-in-Some c =
    c.follows.ensures
    ∙ passed_left c.args.pattern.now c.args.text.now c.split_at.result.0.now c.split_at.result.1.now c.in-Some.rest.now c.plain_len.result
    c.plain_len.ensures.value c.split_at.ensures.front c.split_at.ensures.back c.in-Some.ensures.cases.0 c.in-Some.ensures.cases.1

pub returns-in-None : goal.returns-in-None
returns-in-None c =
    front_left c.args.pattern.now c.args.text.now c.split_at.result.0.now c.split_at.result.1.now c.plain_len.result
    c.plain_len.ensures.value c.split_at.ensures.front c.split_at.ensures.back c.in-None.ensures.cases
