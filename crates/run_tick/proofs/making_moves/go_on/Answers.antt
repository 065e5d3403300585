use Rattle.std.proofs.Common.{ℕ, List, Ok, Err, arith, false, refl, sym, true, ◌∙◌}
use Rattle.run_arena.specs.declared.nodes.Node.{Node}
use Rattle.run_arena.specs.Ends.{StaysFit}
use Rattle.run_arena.specs.Nodes.{kept_at}
use Rattle.run_arena.specs.Stages.{scene_on}
use Rattle.run_arena.proofs.Staged.{earlier}
use Rattle.run_laws.proofs.Keeping.{term_keeps}
use Rattle.run_tick.specs.Turns.{passes_over, step_of}
use Rattle.run_tick.proofs.Bounds.{child_small, work_turned}
use Rattle.run_tick.proofs.Children.{child_found, child_there}
use Rattle.run_tick.proofs.Moving.{as_many_kept, children_stand, here_fits, here_kind, here_ruled, here_takes, next_with, node_there, step_given, step_stopped, step_turned, visit_there}
use Rattle.run_tick.proofs.Later.{EndsBy}
use Rattle.run_tick.proofs.making_moves.go_on.Goals as goal

pub node-here-requires : goal.node-here-requires
node-here-requires g c = let (term, view, next, by) = c.requires.can in node_there by.can.fits

pub next_move-go-requires-clause-ruled : goal.next_move-go-requires-clause-ruled
next_move-go-requires-clause-ruled g c =
    let (term, view, next, by) = c.requires.can in
    here_ruled term_keeps _ _ term view _ _ next by c.node-here.result.now c.node-here.ensures

pub next_move-go-requires-clause-takes : goal.next_move-go-requires-clause-takes
next_move-go-requires-clause-takes g c =
    let (term, view, next, by) = c.requires.can in
    here_takes term_keeps _ _ term view _ _ next by c.node-here.result.now c.node-here.ensures

pub next_move-go-requires-clause-fits : goal.next_move-go-requires-clause-fits
next_move-go-requires-clause-fits g c =
    let (term, view, next, by) = c.requires.can in
    here_fits term_keeps _ _ term view _ _ next by c.node-here.result.now c.node-here.ensures

pub returns-in_err-reset_before-clause-goes : goal.returns-in_err-reset_before-clause-goes
returns-in_err-reset_before-clause-goes g c = λ term view next by.
    next_with _ _ _ _ _ _ _ _ _ _ _ _ _ c.from_residual.ensures.1
    (step_stopped term_keeps _ _ term view _ _ next by c.node-here.result.now c.node-here.ensures _ _ c.next_move-go.ensures.next c.next_move-go.ensures.onward _ _ _
    c.in_err-reset_before.ensures.keeps.stays c.in_err-reset_before.ensures.keeps.beside _ (c.in_err-reset_before.ensures.meets term view by.can))

pub returns-in_err-given-in-Give-clause-goes : goal.returns-in_err-given-in-Give-clause-goes
returns-in_err-given-in-Give-clause-goes g c = λ term view next by.
    let same = c.in_ok-reset_before.ensures.keeps.same in
    let ends = earlier same (EndsBy g.D.Drivers.states c.reset_before.new.stage c.end_visit.new.stage _ _ (Err c.in_err-given-in-Give.field-0.0)) c.in_err-given-in-Give.ensures.meets in
    let fits = earlier same (λ (ns : List Node) (m : ℕ). StaysFit ns (scene_on g.D.Drivers.states c.reset_before.new.stage) (scene_on g.D.Drivers.states c.end_visit.new.stage)) c.in_err-given-in-Give.ensures.keeps.stays in
    next_with _ _ _ _ _ _ _ _ _ _ _ _ _ c.from_residual-in_err-given-in-Give.ensures.1
    (step_given term_keeps _ _ term view _ _ next by c.node-here.result.now c.node-here.ensures _ _ c.next_move-go.ensures.next c.next_move-go.ensures.onward _ _ _
    c.in_ok-reset_before.ensures.keeps.stays c.in_ok-reset_before.ensures.keeps.beside (c.in_ok-reset_before.ensures.meets term view by.can)
    c.in-Give.answer c.in-Give.is _ _ (Err c.in_err-given-in-Give.field-0.0) fits c.in_err-given-in-Give.ensures.keeps.beside
    (ends term view (c.in_ok-reset_before.ensures.keeps.stays term view _ by.can.fits)))

pub child_at-frame-requires : goal.child_at-frame-requires
child_at-frame-requires g c =
    let (term, view, next, by) = c.requires.can in
    let there = visit_there term_keeps _ _ term view _ _ next by c.node-here.result.now c.node-here.ensures _ _ c.next_move-go.ensures.next c.next_move-go.ensures.onward c.in-Visit.place c.in-Visit.is in
    (child_found term _ view _ c.in-Visit.place _ by.can.fits.stands c.node-here.ensures there.0).0

pub bounds-stage-frame : goal.bounds-stage-frame
bounds-stage-frame g c =
    let (term, view, next, by) = c.requires.can in
    let there = visit_there term_keeps _ _ term view _ _ next by c.node-here.result.now c.node-here.ensures _ _ c.next_move-go.ensures.next c.next_move-go.ensures.onward c.in-Visit.place c.in-Visit.is in
    let child = child_there _ _ _ _ _ _ (children_stand by.can.fits) there.0 (c.child_at-frame.ensures ∙ (child_found term _ view _ c.in-Visit.place _ by.can.fits.stands c.node-here.ensures there.0).1) in
    let many = as_many_kept (c.in_ok-reset_before.ensures.keeps.stays term view _ by.can.fits) in
    omega (arith, child, many)

pub returns-in_ok-given-in-Give-clause-goes : goal.returns-in_ok-given-in-Give-clause-goes
returns-in_ok-given-in-Give-clause-goes g c = λ term view next by.
    let same = c.in_ok-reset_before.ensures.keeps.same in
    let ends = earlier same (EndsBy g.D.Drivers.states c.reset_before.new.stage c.end_visit.new.stage _ _ (Ok c.in_ok-given-in-Give.given)) c.in_ok-given-in-Give.ensures.meets in
    let fits = earlier same (λ (ns : List Node) (m : ℕ). StaysFit ns (scene_on g.D.Drivers.states c.reset_before.new.stage) (scene_on g.D.Drivers.states c.end_visit.new.stage)) c.in_ok-given-in-Give.ensures.keeps.stays in
    step_given term_keeps _ _ term view _ _ next by c.node-here.result.now c.node-here.ensures _ _ c.next_move-go.ensures.next c.next_move-go.ensures.onward _ _ _
    c.in_ok-reset_before.ensures.keeps.stays c.in_ok-reset_before.ensures.keeps.beside (c.in_ok-reset_before.ensures.meets term view by.can)
    c.in-Give.answer c.in-Give.is _ _ (Ok c.in_ok-given-in-Give.given) fits c.in_ok-given-in-Give.ensures.keeps.beside
    (ends term view (c.in_ok-reset_before.ensures.keeps.stays term view _ by.can.fits))

pub returns-then-passes_over-clause-goes : goal.returns-then-passes_over-clause-goes
returns-then-passes_over-clause-goes g c = λ term view next by.
    let there = visit_there term_keeps _ _ term view _ _ next by c.node-here.result.now c.node-here.ensures _ _ c.next_move-go.ensures.next c.next_move-go.ensures.onward c.in-Visit.place c.in-Visit.is in
    let kind = here_kind term_keeps _ _ term view _ _ next by c.node-here.result.now c.node-here.ensures in
    step_turned term_keeps _ _ term view _ _ next by c.node-here.result.now c.node-here.ensures _ _ c.next_move-go.ensures.next c.next_move-go.ensures.onward _ _ _
    c.in_ok-reset_before.ensures.keeps.stays c.in_ok-reset_before.ensures.keeps.beside (c.in_ok-reset_before.ensures.meets term view by.can)
    c.in-Visit.place c.child_at-frame.result c.in-Visit.is (c.child_at-frame.ensures ∙ (child_found term _ view _ c.in-Visit.place _ by.can.fits.stands c.node-here.ensures there.0).1)
    true (sym (λ i. passes_over (kind i) (kept_at c.reset_before.new.stage.kept.now c.child_at-frame.result).status) ∙ sym c.passes_over.ensures ∙ c.if-passes_over.true) _ refl

pub returns-else-passes_over-clause-goes : goal.returns-else-passes_over-clause-goes
returns-else-passes_over-clause-goes g c = λ term view next by.
    let there = visit_there term_keeps _ _ term view _ _ next by c.node-here.result.now c.node-here.ensures _ _ c.next_move-go.ensures.next c.next_move-go.ensures.onward c.in-Visit.place c.in-Visit.is in
    let kind = here_kind term_keeps _ _ term view _ _ next by c.node-here.result.now c.node-here.ensures in
    step_turned term_keeps _ _ term view _ _ next by c.node-here.result.now c.node-here.ensures _ _ c.next_move-go.ensures.next c.next_move-go.ensures.onward _ _ _
    c.in_ok-reset_before.ensures.keeps.stays c.in_ok-reset_before.ensures.keeps.beside (c.in_ok-reset_before.ensures.meets term view by.can)
    c.in-Visit.place c.child_at-frame.result c.in-Visit.is (c.child_at-frame.ensures ∙ (child_found term _ view _ c.in-Visit.place _ by.can.fits.stands c.node-here.ensures there.0).1)
    false (sym (λ i. passes_over (kind i) (kept_at c.reset_before.new.stage.kept.now c.child_at-frame.result).status) ∙ sym c.passes_over.ensures ∙ c.if-passes_over.false) _ refl

pub returns-then-passes_over-clause-work : goal.returns-then-passes_over-clause-work
returns-then-passes_over-clause-work g c =
    let (term, view, next, by) = c.requires.can in
    let there = visit_there term_keeps _ _ term view _ _ next by c.node-here.result.now c.node-here.ensures _ _ c.next_move-go.ensures.next c.next_move-go.ensures.onward c.in-Visit.place c.in-Visit.is in
    let child = c.child_at-frame.ensures ∙ (child_found term _ view _ c.in-Visit.place _ by.can.fits.stands c.node-here.ensures there.0).1 in
    work_turned _ (step_of c.args.frame.now c.args.heard) (record { uid = c.args.frame.now.uid; memo = c.next_move-go.new.memo; place = c.in-Visit.place; child = c.child_at-frame.result }) true _ refl refl c.node-here.result.now c.node-here.ensures _ c.in-Visit.is
    c.next_move-go.ensures.onward
    (child_small term view _ _ _ _ _ by.can.fits there.0 child)

pub returns-else-passes_over-clause-work : goal.returns-else-passes_over-clause-work
returns-else-passes_over-clause-work g c =
    let (term, view, next, by) = c.requires.can in
    let there = visit_there term_keeps _ _ term view _ _ next by c.node-here.result.now c.node-here.ensures _ _ c.next_move-go.ensures.next c.next_move-go.ensures.onward c.in-Visit.place c.in-Visit.is in
    let child = c.child_at-frame.ensures ∙ (child_found term _ view _ c.in-Visit.place _ by.can.fits.stands c.node-here.ensures there.0).1 in
    work_turned _ (step_of c.args.frame.now c.args.heard) (record { uid = c.args.frame.now.uid; memo = c.next_move-go.new.memo; place = c.in-Visit.place; child = c.child_at-frame.result }) false _ refl refl c.node-here.result.now c.node-here.ensures _ c.in-Visit.is
    c.next_move-go.ensures.onward
    (child_small term view _ _ _ _ _ by.can.fits there.0 child)
