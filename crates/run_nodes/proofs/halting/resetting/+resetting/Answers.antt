use Rattle.std.proofs.Common.{◌≡◌, ◌≤◌, ◌+◌, ◌<◌, ℕ, List, Ok, Err, get_or, refl, rules, sym, ap, subst, ◌∙◌, arith}
use Rattle.base_texts.specs.declared.stop.Stop.TheVariants as stop
use Rattle.spec_run.specs.declared.status.Status.TheVariants.{Idle}
use Rattle.spec_tree.specs.declared.term.Term.{out-Term}
use Rattle.spec_run.specs.Sites.{remembered}
use Rattle.spec_run.specs.Visit.{cleared, halted}
use Rattle.run_arena.specs.declared.nodes.Node.{Node}
use Rattle.run_arena.specs.Nodes.{kept_at, node_at}
use Rattle.run_arena.specs.Rosters.{instances_of}
use Rattle.run_arena.specs.Scenes.{state_in}
use Rattle.run_arena.specs.Stages.{scene_on}
use Rattle.run_arena.specs.Stands.{Beside, memory_of, view_under, written}
use Rattle.run_arena.proofs.Staged.{fits_later, keeps_none, keeps_still, keeps_then, meets_earlier}
use Rattle.run_nodes.specs.Here.{children_in, site_at}
use Rattle.run_nodes.specs.Halting.Halts.{RunningAreHeld, reset_if}
use Rattle.run_nodes.proofs.AboutHalting.Children.{none_reset}
use Rattle.run_nodes.proofs.AboutHalting.Ending.{nothing_cut}
use Rattle.run_nodes.proofs.AboutHalting.Halting.{halt_ended, halt_stopped, idle_left, idle_met, reset_of_running}
use Rattle.run_nodes.proofs.AboutHalting.Keeping.{idle_here, keeps_idle}
use Rattle.run_nodes.proofs.Following.{stops_with}
use Rattle.run_nodes.proofs.AboutHalting.Turns.{comes, many, no_turn, not_turned, turn, turned}
use Rattle.run_nodes.proofs.AboutHalting.Within.{all_there, children_few, kept_there, node_there, running_above, rested_if_ok, running_below, running_rested, size_is}
use Rattle.run_nodes.proofs.halting.resetting.+resetting.Goals as goal

pub halt-returns-in_err-reset_children-clause-meets : goal.halt-returns-in_err-reset_children-clause-meets
halt-returns-in_err-reset_children-clause-meets g t c = λ term view fits.
    rw (stops_with _ _ c.from_residual.ensures.1)
    (halt_stopped c.args.stage.now.nodes.now c.args.stage.now.moment term view c.args.uid _ _ c.requires.running _ _ _ c.reset_children.ensures.keeps.beside _ (c.in_err-reset_children.ensures.meets term view fits))

pub halt-returns-in_err-reset_children-clause-keeps : goal.halt-returns-in_err-reset_children-clause-keeps
halt-returns-in_err-reset_children-clause-keeps g t c =
    let f = c.requires.fits in
    let some : 1 ≤ (node_at c.args.stage.now.nodes.now c.args.uid).size = omega (arith, size_is f.0 f.1 c.args.uid c.args.stage.now.nodes.now _ f.2) in
    keeps_then g.D.Drivers.states c.args.uid _ (c.args.uid + 1) _ _ _ _ (omega arith) (omega (arith, some)) (keeps_none g.D.Drivers.states c.args.uid _ _) c.reset_children.ensures.keeps

pub halt-end_halt-requires : goal.halt-end_halt-requires
halt-end_halt-requires g t c =
    let f = c.requires.fits in
    let keeps = c.reset_children.ensures.keeps in
    let here = keeps.beside.below c.args.uid (omega arith) in
    let nodes = c.args.stage.now.nodes.now in
    let some : c.args.uid < c.args.uid + (node_at nodes c.args.uid).size = omega (arith, size_is f.0 f.1 c.args.uid nodes _ f.2) in
    record {
      fits = (f.0, f.1, fits_later g.D.Drivers.states _ _ keeps.same f.0 f.1 c.args.uid (keeps.stays f.0 f.1 c.args.uid f.2));
      running = rw here c.requires.running;
      held = λ leaf is. rw here (c.requires.held c.args.uid leaf (omega arith) some (rw (← keeps.same.nodes) is) c.requires.running);
    }

pub halt-returns-clause-meets : goal.halt-returns-clause-meets
halt-returns-clause-meets g t c = λ term view fits.
    let states = g.D.Drivers.states in
    let before = c.args.stage.now in
    let between = c.reset_children.new.stage in
    let keeps = c.reset_children.ensures.keeps in
    halt_ended before.nodes.now before.moment term view c.args.uid _ _ c.requires.running _ _ _ keeps.beside _ _ _ (c.in_ok-reset_children.ensures.meets term view fits)
    (meets_earlier states before between c.end_halt.new.stage keeps.same (memory_of term c.args.uid) c.end_halt.result (λ nodes moment. halted (site_at view c.args.uid term) (remembered Idle (cleared (kept_at between.kept.now c.args.uid).memo) (children_in term c.args.uid between.kept.now)) (state_in nodes (scene_on states between) moment))
    (c.end_halt.ensures.meets term view (fits_later states before between keeps.same term view c.args.uid (keeps.stays term view c.args.uid fits))))

pub halt-returns-clause-keeps : goal.halt-returns-clause-keeps
halt-returns-clause-keeps g t c =
    let states = g.D.Drivers.states in
    let f = c.requires.fits in
    let some : 1 ≤ (node_at c.args.stage.now.nodes.now c.args.uid).size = omega (arith, size_is f.0 f.1 c.args.uid c.args.stage.now.nodes.now _ f.2) in
    let whole = keeps_then states c.args.uid _ (c.args.uid + 1) _ _ _ _ (omega arith) (omega (arith, some)) (keeps_none states c.args.uid _ _) c.reset_children.ensures.keeps in
    keeps_then states c.args.uid _ c.args.uid 1 _ _ _ (omega arith) (omega (arith, some)) whole c.end_halt.ensures.keeps

pub halt-returns-clause-held : goal.halt-returns-clause-held
halt-returns-clause-held g t c =
    let between = c.reset_children.new.stage in
    let after = c.end_halt.new.stage in
    let keeps = c.end_halt.ensures.keeps in
    rested_if_ok after.nodes.now between.kept.now after.kept.now c.args.uid c.args.uid c.end_halt.result keeps.beside c.end_halt.ensures.status
    (subst (λ (ns : List Node). RunningAreHeld ns between.kept.now c.args.uid) (λ j. (sym keeps.same.nodes j).now) c.in_ok-reset_children.ensures.held)

pub reset_children-node-requires : goal.reset_children-node-requires
reset_children-node-requires g t c = let f = c.requires.fits in node_there f.0 f.1 c.args.uid c.args.stage.now.nodes.now _ f.2

pub reset_children-loop-place-init : goal.reset_children-loop-place-init
reset_children-loop-place-init g t c = record {
  keeps = keeps_none g.D.Drivers.states _ _ _;
  held = c.requires.held;
  facts = refl;
  reserve = refl;
  still = λ term view fits. none_reset c.args.stage.now.nodes.now c.args.stage.now.moment c.args.span (view_under view c.args.uid (written (out-Term term))) (out-Term term).children (c.args.uid + 1) _ _;
}

pub reset_children-reset_wanted-requires : goal.reset_children-reset_wanted-requires
reset_children-reset_wanted-requires g t c =
    let nodes = c.args.stage.now.nodes.now in
    let at = c.loop-place.stage in
    let uids = c.list-children.result.now in
    let child = get_or uids c.loop-place.place 0 in
    let is = c.list-children.ensures ∙ ap (λ (n : Node). n.child_uids) c.node.ensures in
    let f = c.requires.fits in
    let i = c.loop-place.invariant in
    let fits = i.keeps.stays f.0 f.1 c.args.uid f.2 in
    let k = comes f.0 f.1 c.args.uid nodes _ fits uids is c.args.stage.now.moment c.args.span _ _ c.loop-place.place _ (i.still f.0 f.1 f.2) c.loop-place-test.true in
    let w = turn nodes c.args.stage.now.moment c.args.span f.0 f.1 c.args.uid _ _ c.loop-place.place child _ _ fits k (omega (arith, c.loop-place-test.true, many f.0 f.1 c.args.uid nodes _ fits uids is)) in
    let child_size : (node_at at.nodes.now child).size ≡ (node_at nodes child).size = λ j. (node_at (i.keeps.same.nodes j).now child).size in
    let size : (node_at at.nodes.now c.args.uid).size ≡ (node_at nodes c.args.uid).size = λ j. (node_at (i.keeps.same.nodes j).now c.args.uid).size in
    let below = view_under f.1 c.args.uid (written (out-Term f.0)) in
    let smaller : (node_at at.nodes.now child).size < (node_at nodes c.args.uid).size = omega (arith, w.low, w.high, child_size) in
    λ κs lives. (
      omega (arith, smaller, c.decreases),
      (
        λ a is. lives.0 a is,
        (
          λ a is. lives.1 a is,
          (
            (w.next.child, below, fits_later g.D.Drivers.states _ at i.keeps.same w.next.child below child w.fits),
            running_below at.nodes.now at.kept.now c.args.uid child (omega (arith, w.low)) (omega (arith, w.high, child_size, size)) i.held,
          ),
        ),
      ),
    )

pub reset_children-returns-in_err-reset_wanted-clause-meets : goal.reset_children-returns-in_err-reset_wanted-clause-meets
reset_children-returns-in_err-reset_wanted-clause-meets g t c = λ term view fit.
    let nodes = c.args.stage.now.nodes.now in
    let at = c.loop-place.stage in
    let uids = c.list-children.result.now in
    let child = get_or uids c.loop-place.place 0 in
    let is = c.list-children.ensures ∙ ap (λ (n : Node). n.child_uids) c.node.ensures in
    let i = c.loop-place.invariant in
    let fits = i.keeps.stays term view c.args.uid fit in
    let k = comes term view c.args.uid nodes _ fits uids is c.args.stage.now.moment c.args.span _ _ c.loop-place.place _ (i.still term view fit) c.loop-place-test.true in
    let w = turn nodes c.args.stage.now.moment c.args.span term view c.args.uid _ _ c.loop-place.place child _ _ fits k (omega (arith, c.loop-place-test.true, many term view c.args.uid nodes _ fits uids is)) in
    let below = view_under view c.args.uid (written (out-Term term)) in
    let beside = subst (λ (size : ℕ). Beside child size at.kept.now c.reset_wanted.new.stage.kept.now) (λ j. (node_at (i.keeps.same.nodes j).now child).size) c.reset_wanted.ensures.keeps.beside in
    rw (stops_with _ _ c.from_residual.ensures.1)
    (not_turned nodes c.args.stage.now.moment c.args.span term view c.args.uid _ _ c.loop-place.place child _ _ fits k w c.has.result c.has.ensures _ _ beside _
    (meets_earlier g.D.Drivers.states c.args.stage.now at c.reset_wanted.new.stage i.keeps.same (memory_of w.next.child child) (Err c.in_err-reset_wanted.field-0.0) (λ nodes moment. reset_if c.has.result w.next.child below child (memory_of w.next.child child at.kept.now) (state_in nodes (scene_on g.D.Drivers.states at) moment))
    (c.in_err-reset_wanted.ensures.meets w.next.child below (fits_later g.D.Drivers.states _ at i.keeps.same w.next.child below child w.fits))))

pub reset_children-returns-in_err-reset_wanted-clause-keeps : goal.reset_children-returns-in_err-reset_wanted-clause-keeps
reset_children-returns-in_err-reset_wanted-clause-keeps g t c =
    let nodes = c.args.stage.now.nodes.now in
    let uids = c.list-children.result.now in
    let child = get_or uids c.loop-place.place 0 in
    let is = c.list-children.ensures ∙ ap (λ (n : Node). n.child_uids) c.node.ensures in
    let f = c.requires.fits in
    let i = c.loop-place.invariant in
    let fits = i.keeps.stays f.0 f.1 c.args.uid f.2 in
    let k = comes f.0 f.1 c.args.uid nodes _ fits uids is c.args.stage.now.moment c.args.span _ _ c.loop-place.place _ (i.still f.0 f.1 f.2) c.loop-place-test.true in
    let w = turn nodes c.args.stage.now.moment c.args.span f.0 f.1 c.args.uid _ _ c.loop-place.place child _ _ fits k (omega (arith, c.loop-place-test.true, many f.0 f.1 c.args.uid nodes _ fits uids is)) in
    let child_size : (node_at c.loop-place.stage.nodes.now child).size ≡ (node_at nodes child).size = λ j. (node_at (i.keeps.same.nodes j).now child).size in
    keeps_then g.D.Drivers.states _ _ child _ _ _ _ w.low (omega (arith, w.high, child_size, size_is f.0 f.1 c.args.uid nodes _ f.2)) i.keeps c.reset_wanted.ensures.keeps

pub reset_children-loop-place-preserved : goal.reset_children-loop-place-preserved
reset_children-loop-place-preserved g t c =
    let states = g.D.Drivers.states in
    let before = c.args.stage.now in
    let at = c.loop-place.stage in
    let after = c.reset_wanted.new.stage in
    let uids = c.list-children.result.now in
    let child = get_or uids c.loop-place.place 0 in
    let is = c.list-children.ensures ∙ ap (λ (n : Node). n.child_uids) c.node.ensures in
    let f = c.requires.fits in
    let i = c.loop-place.invariant in
    let keeps = c.reset_wanted.ensures.keeps in
    let fits = i.keeps.stays f.0 f.1 c.args.uid f.2 in
    let k = comes f.0 f.1 c.args.uid before.nodes.now _ fits uids is before.moment c.args.span _ _ c.loop-place.place _ (i.still f.0 f.1 f.2) c.loop-place-test.true in
    let w = turn before.nodes.now before.moment c.args.span f.0 f.1 c.args.uid _ _ c.loop-place.place child _ _ fits k (omega (arith, c.loop-place-test.true, many f.0 f.1 c.args.uid before.nodes.now _ fits uids is)) in
    let child_size : (node_at at.nodes.now child).size ≡ (node_at before.nodes.now child).size = λ j. (node_at (i.keeps.same.nodes j).now child).size in
    let beside = subst (λ (size : ℕ). Beside child size at.kept.now after.kept.now) child_size keeps.beside in
    record {
      keeps = keeps_then states _ _ child _ _ _ _ w.low (omega (arith, w.high, child_size, size_is f.0 f.1 c.args.uid before.nodes.now _ f.2)) i.keeps keeps;
      held =
          let size : (node_at at.nodes.now child).size ≡ (node_at after.nodes.now child).size = λ j. (node_at (sym keeps.same.nodes j).now child).size in
          running_above after.nodes.now at.kept.now after.kept.now c.args.uid child (subst (λ (by : ℕ). Beside child by at.kept.now after.kept.now) size keeps.beside) c.in_ok-reset_wanted.ensures.held
          (subst (λ (ns : List Node). RunningAreHeld ns at.kept.now c.args.uid) (λ j. (sym keeps.same.nodes j).now) i.held);
      facts = c.reset_wanted.ensures.facts ∙ i.facts;
      reserve = c.reset_wanted.ensures.reserve ∙ i.reserve;
      still = λ term view fit.
          let fits = i.keeps.stays term view c.args.uid fit in
          let k = comes term view c.args.uid before.nodes.now _ fits uids is before.moment c.args.span _ _ c.loop-place.place _ (i.still term view fit) c.loop-place-test.true in
          let below = view_under view c.args.uid (written (out-Term term)) in
          let v = turn before.nodes.now before.moment c.args.span term view c.args.uid _ _ c.loop-place.place child _ _ fits k (omega (arith, c.loop-place-test.true, many term view c.args.uid before.nodes.now _ fits uids is)) in
          turned before.nodes.now before.moment c.args.span term view c.args.uid _ _ c.loop-place.place child _ _ fits k v c.has.result c.has.ensures _ _ beside
          (meets_earlier states before at after i.keeps.same (memory_of v.next.child child) (Ok tt) (λ nodes moment. reset_if c.has.result v.next.child below child (memory_of v.next.child child at.kept.now) (state_in nodes (scene_on states at) moment))
          (c.in_ok-reset_wanted.ensures.meets v.next.child below (fits_later states before at i.keeps.same v.next.child below child v.fits)));
    }

pub reset_children-returns-clause-meets : goal.reset_children-returns-clause-meets
reset_children-returns-clause-meets g t c = λ term view fit.
    let nodes = c.args.stage.now.nodes.now in
    let i = c.loop-place.invariant in
    let fits = i.keeps.stays term view c.args.uid fit in
    let uids = c.list-children.result.now in
    let is = c.list-children.ensures ∙ ap (λ (n : Node). n.child_uids) c.node.ensures in
    no_turn nodes c.args.stage.now.moment c.args.span term view c.args.uid _ _ c.loop-place.place _ _ _ fits (i.still term view fit)
    (omega (arith, c.loop-place-test.false, many term view c.args.uid nodes _ fits uids is))

pub reset_children-overflow_cast-place : goal.reset_children-overflow_cast-place
reset_children-overflow_cast-place g t c =
    let nodes = c.args.stage.now.nodes.now in
    let f = c.requires.fits in
    let uids = c.list-children.result.now in
    let is = c.list-children.ensures ∙ ap (λ (n : Node). n.child_uids) c.node.ensures in
    omega (arith, c.loop-place-test.true, many f.0 f.1 c.args.uid nodes _ f.2 uids is, children_few f.0 f.1 c.args.uid nodes _ f.2, all_there f.0 f.1 c.args.uid nodes _ f.2, f.2.few)

pub reset-bounds-stage-uid : goal.reset-bounds-stage-uid
reset-bounds-stage-uid g t c = let f = c.requires.fits in kept_there f.0 f.1 c.args.uid c.args.stage.now.nodes.now _ f.2

pub reset-become_idle-requires : goal.reset-become_idle-requires
reset-become_idle-requires g t c = let f = c.requires.fits in kept_there f.0 f.1 c.args.uid c.args.stage.now.nodes.now _ f.2

pub reset-returns-in_err-become_idle-in_default : goal.reset-returns-in_err-become_idle-in_default
reset-returns-in_err-become_idle-in_default g t c =
    let e = c.in_err-become_idle-in_default.ensures.err in
    record {
      meets = λ term view fits.
          rw (stops_with c.from_residual.result stop.NoMemory c.from_residual.ensures.1)
          (nothing_cut c.args.stage.now.nodes.now _ _ _ _ _ (λ i. (e i).drivers) c.in_err-become_idle-in_default.ensures.err_notes);
      held = rw (stops_with c.from_residual.result stop.NoMemory c.from_residual.ensures.1) tt;
      keeps = keeps_still g.D.Drivers.states c.args.uid _ _ _ c.become_idle.ensures.same e;
      facts = λ i. (e i).facts;
      reserve = c.become_idle.ensures.reserve;
    }

pub reset-returns-in_ok-become_idle-in_default : goal.reset-returns-in_ok-become_idle-in_default
reset-returns-in_ok-become_idle-in_default g t c =
    let states = g.D.Drivers.states in
    let before = c.args.stage.now in
    let nodes = before.nodes.now in
    let f = c.requires.fits in
    let within = kept_there f.0 f.1 c.args.uid nodes _ f.2 in
    let same = c.become_idle.ensures.same in
    let e = c.in_ok-become_idle-in_default.ensures.ok in
    let idle = keeps_idle states c.args.uid _ _ _ same e in
    let some : 1 ≤ (node_at nodes c.args.uid).size = omega (arith, size_is f.0 f.1 c.args.uid nodes _ f.2) in
    record {
      meets = λ term view fits.
          idle_met nodes before.moment term view c.args.uid _ _ c.in_default.not-Running _ _ within (λ i. (e i).kept)
          (λ i. record { board = (sym e i).board; facts = (sym e i).facts; instances = instances_of nodes (sym e i).drivers; moment = before.moment })
          (λ i. (e i).drivers) c.in_ok-become_idle-in_default.ensures.ok_notes;
      held = rw same.nodes (running_rested nodes before.kept.now c.become_idle.new.stage.kept.now c.args.uid c.args.uid idle.beside (idle_here states c.args.uid _ before c.become_idle.new.stage within e) c.requires.held);
      keeps = keeps_then states c.args.uid _ c.args.uid 1 _ _ _ (omega arith) (omega (arith, some)) (keeps_none states c.args.uid _ before) idle;
      facts = λ i. (e i).facts;
      reserve = c.become_idle.ensures.reserve;
    }

pub reset-returns-in-Running-clause-meets : goal.reset-returns-in-Running-clause-meets
reset-returns-in-Running-clause-meets g t c = λ term view fits.
    rw (reset_of_running term view c.args.uid c.args.stage.now.kept.now _ c.in-Running.is) (c.halt_here.ensures.meets term view fits)

pub reset-returns-then-eq-clause-meets : goal.reset-returns-then-eq-clause-meets
reset-returns-then-eq-clause-meets g t c = λ term view fits.
    let idle : (kept_at c.args.stage.now.kept.now c.args.uid).status ≡ Idle = search rules in
    idle_left c.args.stage.now.nodes.now c.args.stage.now.moment term view c.args.uid _ _ idle (kept_there term view c.args.uid c.args.stage.now.nodes.now _ fits)
