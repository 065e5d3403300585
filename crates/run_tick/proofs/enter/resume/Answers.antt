use Rattle.std.proofs.Common.{sym}
use Rattle.run_arena.specs.Stages.{state_on}
use Rattle.run_laws.proofs.Keeping.{term_keeps}
use Rattle.run_nodes.proofs.Needed.{guards_need}
use Rattle.run_nodes.proofs.AboutHalting.Sounding.{sound_marks}
use Rattle.run_tick.proofs.Bounds.{cost_positive}
use Rattle.run_tick.proofs.Children.{beside_sized}
use Rattle.run_tick.proofs.Entering.{again_so, as_node, can_run, guards_here, halt_goes, halt_stops, halts_so, resume_ends, resume_goes, still_can}
use Rattle.run_tick.proofs.Moving.{size_is, turned_with}
use Rattle.run_tick.proofs.enter.resume.Goals as goal

pub goes_on-requires : goal.goes_on-requires
goes_on-requires g c =
    let (term, view, can) = c.requires.can in
    (guards_need _ view (sym can.fits.slots) _ _ (guards_here term view _ _ _ can.fits c.node.result.now c.node.ensures c.get-guards.result.now c.get-guards.ensures)).while_true

pub returns-in_err-goes_on-clause-goes : goal.returns-in_err-goes_on-clause-goes
returns-in_err-goes_on-clause-goes g c = λ term view can.
    turned_with _ _ _ _ _ _ _ _ _ _ _ _ c.from_residual.ensures.1
    (resume_ends _ _ term view _ _ _ _ _ _ _ c.in_err-goes_on.ensures.slots c.requires.running _ (c.in_err-goes_on.ensures.settles (as_node term) view (state_on g.D.Drivers.states c.args.stage.now) (guards_here term view _ _ _ can.fits c.node.result.now c.node.ensures c.get-guards.result.now c.get-guards.ensures).while_true))

pub follow_rule-requires : goal.follow_rule-requires
follow_rule-requires g c =
    let (term, view, can) = c.requires.can in
    record { can = (term, view, can_run term_keeps _ _ term view _ _ (still_can term_keeps _ _ term view _ _ _ _ _ _ c.in_ok-goes_on.ensures.slots can) c.requires.running) }

pub returns-then-branch-clause-goes : goal.returns-then-branch-clause-goes
returns-then-branch-clause-goes g c = λ term view can.
    let settled = c.in_ok-goes_on.ensures.settles (as_node term) view (state_on g.D.Drivers.states c.args.stage.now) (guards_here term view _ _ _ can.fits c.node.result.now c.node.ensures c.get-guards.result.now c.get-guards.ensures).while_true in
    resume_goes _ _ term view _ _ _ _ _ _ _ c.in_ok-goes_on.ensures.slots c.requires.running c.in_ok-goes_on.field-0 settled
    _ (again_so _ _ term view _ _ _ _ _ _ c.args.stage.now.notes.now.list c.in_ok-goes_on.ensures.slots c.requires.running c.in_ok-goes_on.field-0 c.if-branch.true) _ _ _
    (c.follow_rule.ensures.goes term view (can_run term_keeps _ _ term view _ _ (still_can term_keeps _ _ term view _ _ _ _ _ _ c.in_ok-goes_on.ensures.slots can) c.requires.running))

pub halt-requires-clause-held : goal.halt-requires-clause-held
halt-requires-clause-held g c =
    let (term, view, can) = c.requires.can in
    let still = still_can term_keeps _ _ term view _ _ _ _ _ _ c.in_ok-goes_on.ensures.slots can in
    sound_marks term view _ _ _ _ _ still.fits still.sound

pub returns-in_err-halt-clause-goes : goal.returns-in_err-halt-clause-goes
returns-in_err-halt-clause-goes g c = λ term view can.
    let settled = c.in_ok-goes_on.ensures.settles (as_node term) view (state_on g.D.Drivers.states c.args.stage.now) (guards_here term view _ _ _ can.fits c.node.result.now c.node.ensures c.get-guards.result.now c.get-guards.ensures).while_true in
    let still = still_can term_keeps _ _ term view _ _ _ _ _ _ c.in_ok-goes_on.ensures.slots can in
    turned_with _ _ _ _ _ _ _ _ _ _ _ _ c.from_residual-in_err-halt.ensures.1
    (resume_goes _ _ term view _ _ _ _ _ _ _ c.in_ok-goes_on.ensures.slots c.requires.running c.in_ok-goes_on.field-0 settled
    _ (halts_so _ _ term view _ _ _ _ _ _ c.args.stage.now.notes.now.list c.in_ok-goes_on.ensures.slots c.requires.running c.in_ok-goes_on.field-0 c.if-branch.false) _ _ _
    (halt_stops _ _ term view _ _ _ _ _ _ (beside_sized term _ _ _ _ (size_is can.fits) c.in_err-halt.ensures.keeps.beside) c.in_err-halt.ensures.keeps.stays (c.in_err-halt.ensures.meets term view still.fits)))

pub returns-clause-goes : goal.returns-clause-goes
returns-clause-goes g c = λ term view can.
    let settled = c.in_ok-goes_on.ensures.settles (as_node term) view (state_on g.D.Drivers.states c.args.stage.now) (guards_here term view _ _ _ can.fits c.node.result.now c.node.ensures c.get-guards.result.now c.get-guards.ensures).while_true in
    let still = still_can term_keeps _ _ term view _ _ _ _ _ _ c.in_ok-goes_on.ensures.slots can in
    resume_goes _ _ term view _ _ _ _ _ _ _ c.in_ok-goes_on.ensures.slots c.requires.running c.in_ok-goes_on.field-0 settled
    _ (halts_so _ _ term view _ _ _ _ _ _ c.args.stage.now.notes.now.list c.in_ok-goes_on.ensures.slots c.requires.running c.in_ok-goes_on.field-0 c.if-branch.false) _ _ _
    (halt_goes _ _ term view _ _ _ _ _ (beside_sized term _ _ _ _ (size_is can.fits) c.in_ok-halt.ensures.keeps.beside) c.in_ok-halt.ensures.keeps.stays (c.in_ok-halt.ensures.meets term view still.fits))

pub returns-clause-work : goal.returns-clause-work
returns-clause-work g c = cost_positive _
