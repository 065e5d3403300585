use Rattle.std.proofs.Common.{◌≡◌, false, Ok, Err, ◌∙◌}
use Rattle.run_tick.proofs.Bounds.{cost_positive}
use Rattle.run_tick.proofs.Entering.{alone_goes, alone_here, phase_here}
use Rattle.run_tick.proofs.Moving.{node_there, turned_with}
use Rattle.run_tick.proofs.enter.follow_rule.Goals as goal

pub node-requires : goal.node-requires
node-requires g c = let (term, view, follow) = c.requires.can in node_there follow.can.fits

pub visit_alone-requires-clause-phase : goal.visit_alone-requires-clause-phase
visit_alone-requires-clause-phase g c =
    let (term, view, follow) = c.requires.can in
    let b : c.has_rule.result ≡ false = cc in
    phase_here follow (alone_here follow c.node.result.now c.node.ensures c.has_rule.result c.has_rule.ensures ∙ b)

pub returns-in_err-answer-clause-goes : goal.returns-in_err-answer-clause-goes
returns-in_err-answer-clause-goes g c = λ term view follow.
    turned_with _ _ _ _ _ _ _ _ _ _ _ _ c.from_residual.ensures.1
    (alone_goes follow (Err c.in_err-answer.field-0.0) _ _ _ c.in_err-answer.ensures.keeps.stays c.in_err-answer.ensures.keeps.beside (c.in_err-answer.ensures.meets term view follow.can.fits))

pub returns-then-not-has_rule-clause-goes : goal.returns-then-not-has_rule-clause-goes
returns-then-not-has_rule-clause-goes g c = λ term view follow.
    alone_goes follow (Ok c.in_ok-answer.answer) _ _ _ c.in_ok-answer.ensures.keeps.stays c.in_ok-answer.ensures.keeps.beside (c.in_ok-answer.ensures.meets term view follow.can.fits)

pub returns-then-not-has_rule-clause-work : goal.returns-then-not-has_rule-clause-work
returns-then-not-has_rule-clause-work g c = cost_positive _
