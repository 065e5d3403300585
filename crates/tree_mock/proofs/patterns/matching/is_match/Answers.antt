use Rattle.std.proofs.Common.{◌∙◌, sym}
use Rattle.tree_mock.proofs.AboutPatterns.Stars.{complete, sound}
use Rattle.tree_mock.proofs.patterns.matching.is_match.Goals as goal

pub returns-clause-sound : goal.returns-clause-sound
returns-clause-sound c h = sound c.args.pattern.now c.args.text.now (sym c.passes.ensures ∙ h)

pub returns-clause-complete : goal.returns-clause-complete
returns-clause-complete c h = c.passes.ensures ∙ complete c.args.pattern.now c.args.text.now h
