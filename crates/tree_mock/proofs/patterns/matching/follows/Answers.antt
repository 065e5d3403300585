use Rattle.std.proofs.Common.{◌∙◌}
use Rattle.tree_mock.proofs.AboutPatterns.Pieces.{nothing_more, star_left}
use Rattle.tree_mock.proofs.patterns.matching.follows.Goals as goal

pub returns-in-Some : goal.returns-in-Some
returns-in-Some c =
    c.matches_end.ensures
    ∙ star_left c.args.pattern.now c.in-Some.next.now c.args.text.now c.in-Some.field-0-0.now c.requires c.in-Some.ensures.cases.0

pub returns-in-None : goal.returns-in-None
returns-in-None c = c.is_empty.ensures ∙ nothing_more c.args.pattern.now c.args.text.now c.in-None.ensures.cases
