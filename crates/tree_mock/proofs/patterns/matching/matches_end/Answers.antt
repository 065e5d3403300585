use Rattle.std.proofs.Common.{◌∙◌}
use Rattle.tree_mock.proofs.AboutPatterns.Pieces.{found_left, last_left, none_left}
use Rattle.tree_mock.proofs.patterns.matching.matches_end.Goals as goal

pub returns-in_default : goal.returns-in_default
returns-in_default c =
    c.ends_with.ensures.value
    ∙ last_left c.pieces.left.now c.pieces.rest.now c.split_at.result.0.now c.split_at.result.1.now c.plain_len.result
    c.plain_len.ensures.value c.split_at.ensures.front c.split_at.ensures.back c.in_default.ensures.cases
    ∙ c.pieces.invariant

pub returns-in_default-find : goal.returns-in_default-find
returns-in_default-find c =
    none_left c.pieces.left.now c.pieces.rest.now c.split_at.result.0.now c.split_at.result.1.now c.in-Some.next.now c.in-Some.field-0-0.now c.plain_len.result
    c.plain_len.ensures.value c.split_at.ensures.front c.split_at.ensures.back c.in-Some.ensures.cases.0 c.in_default-find.ensures
    ∙ c.pieces.invariant

pub pieces-preserved : goal.pieces-preserved
pieces-preserved c =
    found_left c.pieces.left.now c.pieces.rest.now c.split_at.result.0.now c.split_at.result.1.now c.in-Some.next.now c.split_at-in-pieces.result.1.now c.split_at-in-pieces-2.result.1.now c.in-Some.field-0-0.now c.plain_len.result c.in-Some-find.place
    c.plain_len.ensures.value c.split_at.ensures.front c.split_at.ensures.back c.in-Some.ensures.cases.0 c.in-Some-find.ensures.0.before c.in-Some-find.ensures.1
    c.split_at-in-pieces.ensures.back c.split_at-in-pieces-2.ensures.back
    ∙ c.pieces.invariant
