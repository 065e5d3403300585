use Rattle.std.proofs.Common.{false, refl, ◌∙◌}
use Rattle.run_arena.proofs.Staged.{beside_none}
use Rattle.run_laws.proofs.Keeping.{term_keeps}
use Rattle.run_tick.specs.Turns.{step_of}
use Rattle.run_tick.proofs.Bounds.{child_small, work_turned}
use Rattle.run_tick.proofs.Children.{child_found}
use Rattle.run_tick.proofs.Moving.{here_fits, here_kind, here_takes, next_child, node_there, none_reset, step_turned, visit_there, visits_all}
use Rattle.run_tick.proofs.making_moves.goes_on_at_once.Goals as goal

pub node-here-requires : goal.node-here-requires
node-here-requires g c = let (term, view, next, by) = c.requires.can in node_there by.can.fits

pub child_at_once-requires : goal.child_at_once-requires
child_at_once-requires g c =
    let (term, view, next, by) = c.requires.can in
    record {
      takes = here_takes term_keeps _ _ term view _ _ next by c.node-here.result.now c.node-here.ensures;
      fits = here_fits term_keeps _ _ term view _ _ next by c.node-here.result.now c.node-here.ensures;
    }

pub child_at-frame-requires : goal.child_at-frame-requires
child_at-frame-requires g c =
    let (term, view, next, by) = c.requires.can in
    let there = visit_there term_keeps _ _ term view _ _ next by c.node-here.result.now c.node-here.ensures _ (next_child c.in-Some.place) (c.child_at_once.ensures.next c.in-Some.place _ c.in-Some.is) (c.child_at_once.ensures.onward c.in-Some.place c.in-Some.is) c.in-Some.place refl in
    (child_found term _ view _ c.in-Some.place _ by.can.fits.stands c.node-here.ensures there.0).0

pub returns-in-Some-clause-goes : goal.returns-in-Some-clause-goes
returns-in-Some-clause-goes g c = λ goes term view next by.
    let there = visit_there term_keeps _ _ term view _ _ next by c.node-here.result.now c.node-here.ensures _ (next_child c.in-Some.place) (c.child_at_once.ensures.next c.in-Some.place _ c.in-Some.is) (c.child_at_once.ensures.onward c.in-Some.place c.in-Some.is) c.in-Some.place refl in
    let kind = here_kind term_keeps _ _ term view _ _ next by c.node-here.result.now c.node-here.ensures in
    step_turned term_keeps _ _ term view _ _ next by c.node-here.result.now c.node-here.ensures _ (next_child c.in-Some.place) (c.child_at_once.ensures.next c.in-Some.place _ c.in-Some.is) (c.child_at_once.ensures.onward c.in-Some.place c.in-Some.is) _ _ _
    (λ t v u fits. fits) (beside_none _ _ _) (none_reset _ _ term view _ _ _ _ refl)
    c.in-Some.place c.child_at-frame.result refl (c.child_at-frame.ensures ∙ (child_found term _ view _ c.in-Some.place _ by.can.fits.stands c.node-here.ensures there.0).1)
    false (visits_all _ _ (λ parallel. c.child_at_once.ensures.visited c.in-Some.place c.in-Some.is (kind ∙ parallel))) _ refl

pub returns-in-Some-clause-work : goal.returns-in-Some-clause-work
returns-in-Some-clause-work g c = λ goes.
    let (term, view, next, by) = c.requires.can in
    let there = visit_there term_keeps _ _ term view _ _ next by c.node-here.result.now c.node-here.ensures _ (next_child c.in-Some.place) (c.child_at_once.ensures.next c.in-Some.place _ c.in-Some.is) (c.child_at_once.ensures.onward c.in-Some.place c.in-Some.is) c.in-Some.place refl in
    let child = c.child_at-frame.ensures ∙ (child_found term _ view _ c.in-Some.place _ by.can.fits.stands c.node-here.ensures there.0).1 in
    work_turned _ (step_of c.args.frame.now c.args.heard) (record { uid = c.args.frame.now.uid; memo = c.child_at_once.new.memo; place = c.in-Some.place; child = c.child_at-frame.result }) false _ refl refl c.node-here.result.now c.node-here.ensures _ refl (c.child_at_once.ensures.onward c.in-Some.place c.in-Some.is)
    (child_small term view _ _ _ _ _ by.can.fits there.0 child)
