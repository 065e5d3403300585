use Rattle.std.proofs.Common.{List, ℕ, refl}
use Rattle.spec_run.specs.declared.memory.Memo.TheVariants.{Nothing}
use Rattle.spec_run.specs.declared.moves.Span.TheVariants as span
use Rattle.spec_run.specs.declared.moves.Then.TheVariants as then_
use Rattle.spec_run.specs.declared.status.Answer.TheVariants as answer
use Rattle.run_arena.specs.declared.nodes.Node.{Node}
use Rattle.run_arena.specs.Ends.{StaysFit}
use Rattle.run_arena.specs.Nodes.{node_at}
use Rattle.run_arena.specs.Stages.{scene_on}
use Rattle.run_arena.proofs.Staged.{earlier}
use Rattle.run_laws.proofs.Keeping.{term_keeps}
use Rattle.run_tick.specs.Asking.{hears_first}
use Rattle.run_tick.proofs.Held.{marked_below}
use Rattle.run_tick.proofs.Later.{EndsBy}
use Rattle.run_tick.proofs.Moving.{step_given, step_stopped}
use Rattle.run_tick.proofs.Questions.{backed_with, last_move}
use Rattle.run_tick.proofs.asking.settle.Goals as goal

pub reset_children-requires-clause-held : goal.reset_children-requires-clause-held
reset_children-requires-clause-held g c = let (term, view, rest, by) = c.requires.can in marked_below _ _ term view _ _ by.can by.ruled

pub returns-in_err-reset_children-clause-goes : goal.returns-in_err-reset_children-clause-goes
returns-in_err-reset_children-clause-goes g c = λ term view rest by.
    backed_with _ _ _ _ _ _ _ _ _ _ _ _ c.from_residual.ensures.1
    (step_stopped term_keeps _ _ term view (hears_first c.args.uid answer.Success) _ rest by (node_at c.args.stage.now.nodes.now c.args.uid) refl Nothing (record { reset = span.All; then = then_.Give answer.Success })
    (last_move _ _ c.args.stage.now.moment c.requires.kind) tt _ _ _
    c.in_err-reset_children.ensures.keeps.stays c.in_err-reset_children.ensures.keeps.beside _ (c.in_err-reset_children.ensures.meets term view by.can.fits))

pub returns-clause-goes : goal.returns-clause-goes
returns-clause-goes g c = λ term view rest by.
    let same = c.in_ok-reset_children.ensures.keeps.same in
    let ends = earlier same (EndsBy g.D.Drivers.states c.reset_children.new.stage c.end_visit.new.stage c.args.uid (record { answer = answer.Success; memo = Nothing }) c.end_visit.result) c.end_visit.ensures.meets in
    let fits = earlier same (λ (ns : List Node) (m : ℕ). StaysFit ns (scene_on g.D.Drivers.states c.reset_children.new.stage) (scene_on g.D.Drivers.states c.end_visit.new.stage)) c.end_visit.ensures.keeps.stays in
    step_given term_keeps _ _ term view (hears_first c.args.uid answer.Success) _ rest by (node_at c.args.stage.now.nodes.now c.args.uid) refl Nothing (record { reset = span.All; then = then_.Give answer.Success })
    (last_move _ _ c.args.stage.now.moment c.requires.kind) tt _ _ _
    c.in_ok-reset_children.ensures.keeps.stays c.in_ok-reset_children.ensures.keeps.beside (c.in_ok-reset_children.ensures.meets term view by.can.fits)
    answer.Success refl _ _ c.end_visit.result fits c.end_visit.ensures.keeps.beside
    (ends term view (c.in_ok-reset_children.ensures.keeps.stays term view _ by.can.fits))
