use Rattle.std.proofs.Common.{◌≡◌, ◌+◌, ◌<◌, ◌≤◌, ℕ, List, [], ◌∷◌, ◌++◌, Ok, Err, ap, arith, refl, sym, ◌∙◌}
use Rattle.std.proofs.lemmas.List.Sums.{sum_by-append}
use Rattle.std.specs.Vec.{vec_capacity}
use Rattle.spec_run.specs.declared.moves.Heard.{Heard}
use Rattle.spec_run.specs.declared.moves.Heard.TheVariants.{Answered}
use Rattle.spec_run.specs.declared.status.Answer.{Answer}
use Rattle.spec_tree.specs.declared.term.Term.{Term}
use Rattle.spec_run.specs.Sites.{View}
use Rattle.spec_tree.specs.Terms.{depth_of}
use Rattle.run_arena.proofs.Staged.{earlier, same_both, same_here}
use Rattle.run_laws.proofs.Keeping.{term_keeps}
use Rattle.run_arena.specs.declared.frame.Frame.{Frame}
use Rattle.run_arena.specs.declared.nodes.Node.{Node}
use Rattle.run_arena.specs.Ends.{StaysFit}
use Rattle.run_arena.specs.Nodes.{kept_at}
use Rattle.run_arena.specs.Stages.{scene_on}
use Rattle.run_tick.specs.declared.progress.Entered.TheVariants.{Answers, GoesOn}
use Rattle.run_tick.specs.declared.progress.Next.TheVariants as next
use Rattle.run_tick.specs.declared.progress.Reached.{Reached}
use Rattle.run_tick.specs.Machine.{Turn}
use Rattle.run_tick.specs.Machine as turn
use Rattle.run_tick.specs.Turns.{CanVisitOn, Going, GoingOn, frame_work, next_work, reached_work, stack_work, step_of, turn_after, turn_work, visit_on}
use Rattle.run_tick.proofs.Depths.{level_left}
use Rattle.run_tick.proofs.Moving.{as_many_kept, node_there}
use Rattle.run_tick.proofs.Passing.{met_with}
use Rattle.run_tick.proofs.Later.{EntersBy, GoesNextBy, ReachesBy, StepsBy, came_later, can_later, step_later}
use Rattle.run_tick.proofs.Stacks.{as_turn, back_answers, back_made, begins, can_again, can_enter, can_step, cut_here, enter_beside, enter_made, enter_stops, entered, on_stack, step_made}
use Rattle.run_tick.proofs.Tops.{going_work, less_heard, reached_as}
use Rattle.run_tick.proofs.Totals.{spent_on}
use Rattle.run_tick.proofs.visiting.tick.Goals as goal
use Rattle.run_tick.proofs.visiting.tick.Goals.{In_ok-heard, Joined-branch-2, in-GoesOn+in_ok-push_frame-in-GoesOn+else-at_once, in-Answers+in-Some+in-None-next_at_once}
use Rattle.run_tick.proofs.visiting.tick.Given.{Over}

pub loop-heard-init : goal.loop-heard-init
loop-heard-init g c = record {
  all = λ term view can. record { came = on_stack term_keeps _ _ (sym c.clear.ensures.items) (begins term_keeps _ _ view can) };
  stays = λ term view uid fits. fits;
  same = same_here _;
  reserve = refl;
  room = omega (arith, c.clear.ensures.capacity);
  enough = λ term view can deep. c.clear.ensures.capacity;
}

pub returns-in_err-heard-clause-meets : goal.returns-in_err-heard-clause-meets
returns-in_err-heard-clause-meets g c = λ term view can.
    let goes = earlier c.loop-heard.invariant.same (EntersBy g.D.Drivers.states c.loop-heard.stage c.enter.new.stage _ (Err _)) c.in_err-heard.ensures.goes in
    met_with _ _ _ _ _ _ _ _ _ _ c.from_residual.ensures.1
    (enter_stops term_keeps _ _ _ _ _ refl (c.loop-heard.invariant.all term view can).came goes)

pub returns-in_err-heard-clause-beside : goal.returns-in_err-heard-clause-beside
returns-in_err-heard-clause-beside g c = λ term view can.
    let goes = earlier c.loop-heard.invariant.same (EntersBy g.D.Drivers.states c.loop-heard.stage c.enter.new.stage _ (Err _)) c.in_err-heard.ensures.goes in
    enter_beside term_keeps _ _ _ _ (Err _) refl (c.loop-heard.invariant.all term view can).came goes

pub returns-in_err-heard-clause-work : goal.returns-in_err-heard-clause-work
returns-in_err-heard-clause-work g c = λ term view can fit. spent_on g.D.Drivers.states c.args.stage.now c.enter.new.stage _ term view can fit (returns-in_err-heard-clause-meets g c term view can)

-- the node was entered: the visit of the root came to its turn
came : (g : Over) (c : In_ok-heard g) (term : Term) (view : View) → CanVisitOn g.D.Drivers.states c.args.stage.now 1 term view →
    Going c.args.stage.now.nodes.now c.args.stage.now.moment term 1 (turn_after c.loop-heard.uid c.enter.new.stage.kept.now c.in_ok-heard.field-0) c.loop-heard.frames.items (scene_on g.D.Drivers.states c.args.stage.now) (scene_on g.D.Drivers.states c.enter.new.stage) c.args.stage.now.notes.now.list c.enter.new.stage.notes.now.list
    (visit_on g.D.Drivers.states c.args.stage.now 1 term view)
came g c term view can =
    let goes = earlier c.loop-heard.invariant.same (EntersBy g.D.Drivers.states c.loop-heard.stage c.enter.new.stage _ (Ok _)) c.in_ok-heard.ensures.goes in
    enter_made term_keeps _ _ _ _ refl (c.loop-heard.invariant.all term view can).came goes

-- what fitted the arena where the visit began still fits, and the node that was entered is there
still_fits : (g : Over) (c : In_ok-heard g) → StaysFit c.args.stage.now.nodes.now (scene_on g.D.Drivers.states c.args.stage.now) (scene_on g.D.Drivers.states c.enter.new.stage)
still_fits g c =
    let (term, view, can) = c.requires.can in
    let (t, v, by) = can_enter term_keeps _ _ refl (c.loop-heard.invariant.all term view can).came in
    let goes = earlier c.loop-heard.invariant.same (EntersBy g.D.Drivers.states c.loop-heard.stage c.enter.new.stage _ (Ok _)) c.in_ok-heard.ensures.goes in
    λ t1 v1 u fits. (goes t v by).stays t1 v1 u (c.loop-heard.invariant.stays t1 v1 u fits)

pub bounds-stage-uid : goal.bounds-stage-uid
bounds-stage-uid g c =
    let (term, view, can) = c.requires.can in
    let (t, v, by) = can_enter term_keeps _ _ refl (c.loop-heard.invariant.all term view can).came in
    let goes = earlier c.loop-heard.invariant.same (EntersBy g.D.Drivers.states c.loop-heard.stage c.enter.new.stage _ (Ok _)) c.in_ok-heard.ensures.goes in
    let still = (goes t v by).stays t v _ by.fits in
    omega (arith, node_there {term = t} {view = v} still, as_many_kept {term = t} {view = v} still)

pub returns-in_err-push_frame-in-GoesOn-clause-meets : goal.returns-in_err-push_frame-in-GoesOn-clause-meets
returns-in_err-push_frame-in-GoesOn-clause-meets g c = λ term view can.
    met_with _ _ _ _ _ _ _ _ _ _ c.from_residual-in_err-push_frame-in-GoesOn.ensures.1
    (cut_here term_keeps _ _ (came g (goal.at.returns-in_err-push_frame-in-GoesOn-clause-meets g c).In_ok-heard term view can))

pub returns-in_err-push_frame-in-GoesOn-clause-beside : goal.returns-in_err-push_frame-in-GoesOn-clause-beside
returns-in_err-push_frame-in-GoesOn-clause-beside g c = λ term view can. (came g (goal.at.returns-in_err-push_frame-in-GoesOn-clause-beside g c).In_ok-heard term view can).beside

pub returns-in_err-push_frame-in-GoesOn-clause-enough : goal.returns-in_err-push_frame-in-GoesOn-clause-enough
returns-in_err-push_frame-in-GoesOn-clause-enough g c = λ term view can deep.
    let left = level_left _ _ _ _ _ _ _ _ _ _ _ (c.loop-heard.invariant.all term view can).came in
    let same = c.loop-heard.invariant.enough term view can deep in
    c.in_err-push_frame-in-GoesOn.ensures.had_room (omega (arith, left, same, deep)) ∙ same

pub returns-in_err-push_frame-in-GoesOn-clause-work : goal.returns-in_err-push_frame-in-GoesOn-clause-work
returns-in_err-push_frame-in-GoesOn-clause-work g c = λ term view can fit. spent_on g.D.Drivers.states c.args.stage.now c.enter.new.stage _ term view can fit (returns-in_err-push_frame-in-GoesOn-clause-meets g c term view can)

pub returns-in_err-push_frame-in-GoesOn-clause-fits : goal.returns-in_err-push_frame-in-GoesOn-clause-fits
returns-in_err-push_frame-in-GoesOn-clause-fits g c = still_fits g (goal.at.returns-in_err-push_frame-in-GoesOn-clause-fits g c).In_ok-heard

pub returns-in-None-clause-meets : goal.returns-in-None-clause-meets
returns-in-None-clause-meets g c = λ term view can.
    back_answers term_keeps _ _ (ap (turn_after c.loop-heard.uid _) c.in-Answers.is) (c.in-None.ensures.none refl) (came g (goal.at.returns-in-None-clause-meets g c).In_ok-heard term view can)

pub returns-in-None-clause-beside : goal.returns-in-None-clause-beside
returns-in-None-clause-beside g c = λ term view can. (came g (goal.at.returns-in-None-clause-beside g c).In_ok-heard term view can).beside

pub returns-in-None-clause-work : goal.returns-in-None-clause-work
returns-in-None-clause-work g c = λ term view can fit. spent_on g.D.Drivers.states c.args.stage.now c.enter.new.stage (Ok c.in-Answers.answer) term view can fit (returns-in-None-clause-meets g c term view can)

pub returns-in-None-clause-again : goal.returns-in-None-clause-again
returns-in-None-clause-again g c = λ term view can.
    let at = (goal.at.returns-in-None-clause-again g c).In_ok-heard in
    can_later (same_both c.loop-heard.invariant.same c.in_ok-heard.ensures.same)
    (can_again term_keeps _ _ term view 1 _ _ _ _ c.in-Answers.answer can (still_fits g at)
    (back_answers term_keeps _ _ (ap (turn_after c.loop-heard.uid _) c.in-Answers.is) (c.in-None.ensures.none refl) (came g at term view can)))

-- the node that was entered goes on by its rule, and this is its frame
begun_by_rule : (g : Over) (c : In_ok-heard g) (heard : Heard) (frame : Frame) → c.in_ok-heard.field-0 ≡ GoesOn heard → frame ≡ record { uid = c.loop-heard.uid; memo = (kept_at c.enter.new.stage.kept.now c.loop-heard.uid).memo; place = 0; child = 0 } →
    turn_after c.loop-heard.uid c.enter.new.stage.kept.now c.in_ok-heard.field-0 ≡ turn.GoOn (step_of frame heard)
begun_by_rule g c heard frame goes is = ap (turn_after c.loop-heard.uid _) goes ∙ (λ i. turn.GoOn (step_of (sym is i) heard))

-- the node on top of the stack hears the answer of the node that was entered
answered : (g : Over) (c : In_ok-heard g) (answer : Answer) (heard : Heard) (below : List Frame) (frame : Frame) → c.in_ok-heard.field-0 ≡ Answers answer → c.loop-heard.frames.items ≡ below ++ frame ∷ [] → heard ≡ Answered frame.place answer →
    (term : Term) (view : View) → CanVisitOn g.D.Drivers.states c.args.stage.now 1 term view →
    GoingOn c.args.stage.now.nodes.now c.args.stage.now.moment term 1 (next.GoOn heard) c.loop-heard.frames.items (scene_on g.D.Drivers.states c.args.stage.now) (scene_on g.D.Drivers.states c.enter.new.stage) c.args.stage.now.notes.now.list c.enter.new.stage.notes.now.list
    (visit_on g.D.Drivers.states c.args.stage.now 1 term view)
answered g c answer heard below frame answers is hears term view can = record {
  came = (
    below,
    frame,
    is,
    back_made term_keeps _ _ frame below (step_of frame heard) (ap (turn_after c.loop-heard.uid _) answers) is (ap (step_of frame) hears) (came g c term view can),
  );
}

-- the node on top of the stack goes on after the node that was entered
hears : (g : Over) (c : Joined-branch-2 g) (term : Term) (view : View) → CanVisitOn g.D.Drivers.states c.args.stage.now 1 term view →
    GoingOn c.args.stage.now.nodes.now c.args.stage.now.moment term 1 (next.GoOn c.match-branch-2.heard) c.match-branch-2.frames.items (scene_on g.D.Drivers.states c.args.stage.now) (scene_on g.D.Drivers.states c.enter.new.stage) c.args.stage.now.notes.now.list c.enter.new.stage.notes.now.list
    (visit_on g.D.Drivers.states c.args.stage.now 1 term view)
hears g c term view can =
    let goes = earlier c.loop-heard.invariant.same (EntersBy g.D.Drivers.states c.loop-heard.stage c.enter.new.stage _ (Ok _)) c.in_ok-heard.ensures.goes in
    let going = enter_made term_keeps _ _ _ _ refl (c.loop-heard.invariant.all term view can).came goes in
    elim c.match-branch-2.branch [
      | in-GoesOn+in_ok-push_frame-in-GoesOn+else-at_once w ↦ record {
        came = (
          c.loop-heard.frames.items,
          w.goes_on_at_once-at_once.new.frame,
          (λ i. (w.frames-is i).items) ∙ w.in_ok-push_frame-in-GoesOn.ensures.ok,
          as_turn term_keeps _ _
              (ap (turn_after c.loop-heard.uid _) w.in-GoesOn.is
              ∙ (λ i. turn.GoOn (step_of (sym (w.goes_on_at_once-at_once.ensures.same w.if-at_once.false ∙ w.begun-frame.ensures) i) (sym w.heard-is i)))) going,
        );
      }
      | in-Answers+in-Some+in-None-next_at_once w ↦
          let (below, frame, is, heard) = w.in-Some.ensures.some w.in-Some.heard refl in
          record {
            came = (
              below,
              frame,
              (λ i. (w.frames-is i).items) ∙ w.in-None-next_at_once.ensures.came ∙ is,
              back_made term_keeps _ _ frame below (step_of frame c.match-branch-2.heard) (ap (turn_after c.loop-heard.uid _) w.in-Answers.is) is (ap (step_of frame) (w.heard-is ∙ heard)) going,
            );
          }
    ]

-- and the room of the stack is as the contract says
room : (g : Over) (c : Joined-branch-2 g) → vec_capacity c.args.frames.now ≤ vec_capacity c.match-branch-2.frames
room g c = elim c.match-branch-2.branch [
  | in-GoesOn+in_ok-push_frame-in-GoesOn+else-at_once w ↦ let same : vec_capacity c.match-branch-2.frames ≡ vec_capacity w.push_frame.new.stack = λ i. vec_capacity (w.frames-is i) in omega (arith, same, w.in_ok-push_frame-in-GoesOn.ensures.capacity, c.loop-heard.invariant.room)
  | in-Answers+in-Some+in-None-next_at_once w ↦ let same : vec_capacity c.match-branch-2.frames ≡ vec_capacity w.next_at_once.new.stack = λ i. vec_capacity (w.frames-is i) in omega (arith, same, w.in-None-next_at_once.ensures.room, c.loop-heard.invariant.room)
]

enough : (g : Over) (c : Joined-branch-2 g) (term : Term) (view : View) → CanVisitOn g.D.Drivers.states c.args.stage.now 1 term view → depth_of term ≤ vec_capacity c.args.frames.now → vec_capacity c.match-branch-2.frames ≡ vec_capacity c.args.frames.now
enough g c term view can deep = elim c.match-branch-2.branch [
  | in-GoesOn+in_ok-push_frame-in-GoesOn+else-at_once w ↦
      let left = level_left _ _ _ _ _ _ _ _ _ _ _ (c.loop-heard.invariant.all term view can).came in
      let same = c.loop-heard.invariant.enough term view can deep in
      (λ i. vec_capacity (w.frames-is i)) ∙ w.in_ok-push_frame-in-GoesOn.ensures.had_room (omega (arith, left, same, deep)) ∙ same
  | in-Answers+in-Some+in-None-next_at_once w ↦ (λ i. vec_capacity (w.frames-is i)) ∙ w.in-None-next_at_once.ensures.room ∙ c.loop-heard.invariant.enough term view can deep
]

-- and what is still to come is no more than the turn of that node and the frames below it have
no_more : (g : Over) (c : Joined-branch-2 g) → next_work c.args.stage.now.nodes.now (next.GoOn c.match-branch-2.heard) c.match-branch-2.frames.items
    ≤ turn_work c.args.stage.now.nodes.now (turn_after c.loop-heard.uid c.enter.new.stage.kept.now c.in_ok-heard.field-0) + stack_work c.args.stage.now.nodes.now c.loop-heard.frames.items
no_more g c =
    let nodes = c.args.stage.now.nodes.now in
    elim c.match-branch-2.branch [
      | in-GoesOn+in_ok-push_frame-in-GoesOn+else-at_once w ↦
          let frame : Frame = w.goes_on_at_once-at_once.new.frame in
          let stacked : c.match-branch-2.frames.items ≡ c.loop-heard.frames.items ++ frame ∷ [] = (λ i. (w.frames-is i).items) ∙ w.in_ok-push_frame-in-GoesOn.ensures.ok in
          let turns : turn_work nodes (turn_after c.loop-heard.uid c.enter.new.stage.kept.now c.in_ok-heard.field-0) ≡ turn_work nodes (turn.GoOn (step_of frame c.match-branch-2.heard)) =
          ap (λ (t : Turn). turn_work nodes t) (ap (turn_after c.loop-heard.uid _) w.in-GoesOn.is
          ∙ (λ i. turn.GoOn (step_of (sym (w.goes_on_at_once-at_once.ensures.same w.if-at_once.false ∙ w.begun-frame.ensures) i) (sym w.heard-is i)))) in
          omega (arith, going_work nodes c.match-branch-2.heard c.match-branch-2.frames.items c.loop-heard.frames.items frame stacked, turns)
      | in-Answers+in-Some+in-None-next_at_once w ↦
          let (below, frame, is, heard) = w.in-Some.ensures.some w.in-Some.heard refl in
          let same : c.match-branch-2.frames.items ≡ c.loop-heard.frames.items = (λ i. (w.frames-is i).items) ∙ w.in-None-next_at_once.ensures.came in
          let work : stack_work nodes c.match-branch-2.frames.items ≡ stack_work nodes c.loop-heard.frames.items = ap (λ (fs : List Frame). stack_work nodes fs) same in
          omega (arith, less_heard nodes c.match-branch-2.heard c.match-branch-2.frames.items below frame w.in-Answers.answer (same ∙ is) (w.heard-is ∙ heard), work)
    ]

pub reach_child-requires : goal.reach_child-requires
reach_child-requires g c =
    let (term, view, can) = c.requires.can in
    let came = came_later (same_both c.loop-heard.invariant.same c.in_ok-heard.ensures.same) (hears g (goal.at.reach_child-requires g c).Joined-branch-2 term view can) in
    record { going = (term, _, _, _, came) }

pub returns-in_err-child-clause-meets : goal.returns-in_err-child-clause-meets
returns-in_err-child-clause-meets g c = λ term view can.
    let since = same_both c.loop-heard.invariant.same c.in_ok-heard.ensures.same in
    let reaches = earlier since (ReachesBy g.D.Drivers.states c.enter.new.stage c.reach_child.new.stage _ (Err _) _ _) c.in_err-child.ensures.reaches in
    met_with _ _ _ _ _ _ _ _ _ _ c.from_residual-in_err-child.ensures.1 (reaches term _ _ _ (hears g (goal.at.returns-in_err-child-clause-meets g c).Joined-branch-2 term view can)).ends

pub returns-in_err-child-clause-beside : goal.returns-in_err-child-clause-beside
returns-in_err-child-clause-beside g c = λ term view can.
    let since = same_both c.loop-heard.invariant.same c.in_ok-heard.ensures.same in
    let reaches = earlier since (ReachesBy g.D.Drivers.states c.enter.new.stage c.reach_child.new.stage _ (Err _) _ _) c.in_err-child.ensures.reaches in
    (reaches term _ _ _ (hears g (goal.at.returns-in_err-child-clause-beside g c).Joined-branch-2 term view can)).beside

pub returns-in_err-child-clause-work : goal.returns-in_err-child-clause-work
returns-in_err-child-clause-work g c = λ term view can fit. spent_on g.D.Drivers.states c.args.stage.now c.reach_child.new.stage _ term view can fit (returns-in_err-child-clause-meets g c term view can)

pub returns-in_err-child-clause-fits : goal.returns-in_err-child-clause-fits
returns-in_err-child-clause-fits g c =
    let (term, view, can) = c.requires.can in
    let at = goal.at.returns-in_err-child-clause-fits g c in
    let since = same_both c.loop-heard.invariant.same c.in_ok-heard.ensures.same in
    let reaches = earlier since (ReachesBy g.D.Drivers.states c.enter.new.stage c.reach_child.new.stage _ (Err _) _ _) c.in_err-child.ensures.reaches in
    λ t v u fits. (reaches term _ _ _ (hears g at.Joined-branch-2 term view can)).stays t v u (still_fits g at.In_ok-heard t v u fits)

pub returns-in_err-child-clause-enough : goal.returns-in_err-child-clause-enough
returns-in_err-child-clause-enough g c = λ term view can deep. c.in_err-child.ensures.room ∙ enough g (goal.at.returns-in_err-child-clause-enough g c).Joined-branch-2 term view can deep

pub returns-in-End-clause-meets : goal.returns-in-End-clause-meets
returns-in-End-clause-meets g c = λ term view can.
    let since = same_both c.loop-heard.invariant.same c.in_ok-heard.ensures.same in
    let reaches = earlier since (ReachesBy g.D.Drivers.states c.enter.new.stage c.reach_child.new.stage _ (Ok _) _ _) c.in_ok-child.ensures.reaches in
    reached_as c.in-End.is (reaches term _ _ _ (hears g (goal.at.returns-in-End-clause-meets g c).Joined-branch-2 term view can))

pub returns-in-End-clause-beside : goal.returns-in-End-clause-beside
returns-in-End-clause-beside g c = λ term view can.
    let since = same_both c.loop-heard.invariant.same c.in_ok-heard.ensures.same in
    let reaches = earlier since (ReachesBy g.D.Drivers.states c.enter.new.stage c.reach_child.new.stage _ (Ok _) _ _) c.in_ok-child.ensures.reaches in
    (reaches term _ _ _ (hears g (goal.at.returns-in-End-clause-beside g c).Joined-branch-2 term view can)).beside

pub returns-in-End-clause-work : goal.returns-in-End-clause-work
returns-in-End-clause-work g c = λ term view can fit. spent_on g.D.Drivers.states c.args.stage.now c.reach_child.new.stage (Ok c.in-End.answer) term view can fit (returns-in-End-clause-meets g c term view can)

pub returns-in-End-clause-again : goal.returns-in-End-clause-again
returns-in-End-clause-again g c = λ term view can.
    let at = goal.at.returns-in-End-clause-again g c in
    let since = same_both c.loop-heard.invariant.same c.in_ok-heard.ensures.same in
    let reaches = earlier since (ReachesBy g.D.Drivers.states c.enter.new.stage c.reach_child.new.stage _ (Ok _) _ _) c.in_ok-child.ensures.reaches in
    let reached = reaches term _ _ _ (hears g at.Joined-branch-2 term view can) in
    can_later (same_both since c.in_ok-child.ensures.same)
    (can_again term_keeps _ _ term view 1 _ _ _ _ c.in-End.answer can (λ t v u fits. reached.stays t v u (still_fits g at.In_ok-heard t v u fits)) (reached_as c.in-End.is reached))

pub returns-in-End-clause-fits : goal.returns-in-End-clause-fits
returns-in-End-clause-fits g c =
    let (term, view, can) = c.requires.can in
    let at = goal.at.returns-in-End-clause-fits g c in
    let since = same_both c.loop-heard.invariant.same c.in_ok-heard.ensures.same in
    let reaches = earlier since (ReachesBy g.D.Drivers.states c.enter.new.stage c.reach_child.new.stage _ (Ok _) _ _) c.in_ok-child.ensures.reaches in
    λ t v u fits. (reaches term _ _ _ (hears g at.Joined-branch-2 term view can)).stays t v u (still_fits g at.In_ok-heard t v u fits)

pub returns-in-End-clause-enough : goal.returns-in-End-clause-enough
returns-in-End-clause-enough g c = λ term view can deep. c.in_ok-child.ensures.room ∙ enough g (goal.at.returns-in-End-clause-enough g c).Joined-branch-2 term view can deep

pub loop-heard-smaller : goal.loop-heard-smaller
loop-heard-smaller g c =
    let nodes = c.args.stage.now.nodes.now in
    let since = same_both c.loop-heard.invariant.same c.in_ok-heard.ensures.same in
    let entered = earlier c.loop-heard.invariant.same
    (λ (ns : List Node) (m : ℕ). turn_work ns (turn_after c.loop-heard.uid c.enter.new.stage.kept.now c.in_ok-heard.field-0) < turn_work ns (turn.Enter c.loop-heard.uid)) c.in_ok-heard.ensures.work in
    let reached = earlier since
    (λ (ns : List Node) (m : ℕ). reached_work ns c.in_ok-child.field-0 c.reach_child.new.stack.items < next_work ns (next.GoOn c.match-branch-2.heard) c.match-branch-2.frames.items) c.in_ok-child.ensures.work in
    let child : reached_work nodes c.in_ok-child.field-0 c.reach_child.new.stack.items ≡ next_work nodes (next.Enter c.in-Child.child) c.reach_child.new.stack.items =
    ap (λ (r : Reached). reached_work nodes r c.reach_child.new.stack.items) c.in-Child.is in
    omega (arith, entered, reached, child, no_more g (goal.at.loop-heard-smaller g c).Joined-branch-2)

pub loop-heard-preserved : goal.loop-heard-preserved
loop-heard-preserved g c =
    let at = goal.at.loop-heard-preserved g c in
    let since = same_both c.loop-heard.invariant.same c.in_ok-heard.ensures.same in
    let reaches = earlier since (ReachesBy g.D.Drivers.states c.enter.new.stage c.reach_child.new.stage _ (Ok _) _ _) c.in_ok-child.ensures.reaches in
    let (term, view, can) = c.requires.can in
    record {
      all = λ term1 view1 can1. reached_as c.in-Child.is (reaches term1 _ _ _ (hears g at.Joined-branch-2 term1 view1 can1));
      stays = λ t v u fits. (reaches term _ _ _ (hears g at.Joined-branch-2 term view can)).stays t v u (still_fits g at.In_ok-heard t v u fits);
      same = same_both since c.in_ok-child.ensures.same;
      reserve = c.in_ok-child.ensures.reserve ∙ c.in_ok-heard.ensures.reserve ∙ c.loop-heard.invariant.reserve;
      room = omega (arith, c.in_ok-child.ensures.room, room g at.Joined-branch-2);
      enough = λ term1 view1 can1 deep. c.in_ok-child.ensures.room ∙ enough g at.Joined-branch-2 term1 view1 can1 deep;
    }

pub next_at_once-requires : goal.next_at_once-requires
next_at_once-requires g c =
    let (term, view, can) = c.requires.can in
    let (below, frame, is, hears) = c.in-Some.ensures.some c.in-Some.heard refl in
    let came = came_later (same_both c.loop-heard.invariant.same c.in_ok-heard.ensures.same)
    (answered g (goal.at.next_at_once-requires g c).In_ok-heard c.in-Answers.answer c.in-Some.heard below frame c.in-Answers.is is hears term view can) in
    record { going = (term, _, _, _, came) }

pub loop-heard-smaller-in-Some-next_at_once : goal.loop-heard-smaller-in-Some-next_at_once
loop-heard-smaller-in-Some-next_at_once g c =
    let nodes = c.args.stage.now.nodes.now in
    let since = same_both c.loop-heard.invariant.same c.in_ok-heard.ensures.same in
    let (below, frame, is, hears) = c.in-Some.ensures.some c.in-Some.heard refl in
    let entered = earlier c.loop-heard.invariant.same
    (λ (ns : List Node) (m : ℕ). turn_work ns (turn_after c.loop-heard.uid c.enter.new.stage.kept.now c.in_ok-heard.field-0) < turn_work ns (turn.Enter c.loop-heard.uid)) c.in_ok-heard.ensures.work in
    let went = earlier since
    (λ (ns : List Node) (m : ℕ). next_work ns (next.Enter c.in-Some-next_at_once.child) c.next_at_once.new.stack.items < next_work ns (next.GoOn c.in-Some.heard) c.loop-heard.frames.items) c.in-Some-next_at_once.ensures.work in
    omega (arith, entered, went, less_heard nodes c.in-Some.heard c.loop-heard.frames.items below frame c.in-Answers.answer is hears)

pub loop-heard-preserved-in-Some-next_at_once : goal.loop-heard-preserved-in-Some-next_at_once
loop-heard-preserved-in-Some-next_at_once g c =
    let at = goal.at.loop-heard-preserved-in-Some-next_at_once g c in
    let since = same_both c.loop-heard.invariant.same c.in_ok-heard.ensures.same in
    let goes = earlier since (GoesNextBy g.D.Drivers.states c.enter.new.stage _ (next.Enter c.in-Some-next_at_once.child) _ _) c.in-Some-next_at_once.ensures.came in
    let (below, frame, is, hears) = c.in-Some.ensures.some c.in-Some.heard refl in
    record {
      all = λ term view can. goes term _ _ _ (answered g at.In_ok-heard c.in-Answers.answer c.in-Some.heard below frame c.in-Answers.is is hears term view can);
      stays = still_fits g at.In_ok-heard;
      same = since;
      reserve = c.in_ok-heard.ensures.reserve ∙ c.loop-heard.invariant.reserve;
      room = omega (arith, c.in-Some-next_at_once.ensures.room, c.loop-heard.invariant.room);
      enough = λ term view can deep. c.in-Some-next_at_once.ensures.room ∙ c.loop-heard.invariant.enough term view can deep;
    }

pub goes_on_at_once-at_once-requires : goal.goes_on_at_once-at_once-requires
goes_on_at_once-at_once-requires g c =
    let at = (goal.at.goes_on_at_once-at_once-requires g c).In_ok-heard in
    let (term, view, can) = c.requires.can in
    let (t, v, rest, by) = can_step term_keeps _ _ (begun_by_rule g at c.in-GoesOn.heard c.begun-frame.result c.in-GoesOn.is c.begun-frame.ensures) (came g at term view can) in
    record { can = (t, v, rest, step_later (same_both c.loop-heard.invariant.same c.in_ok-heard.ensures.same) by) }

pub loop-heard-smaller-then-at_once : goal.loop-heard-smaller-then-at_once
loop-heard-smaller-then-at_once g c =
    let at = (goal.at.loop-heard-smaller-then-at_once g c).In_ok-heard in
    let nodes = c.args.stage.now.nodes.now in
    let frame : Frame = c.goes_on_at_once-at_once.new.frame in
    let since = same_both c.loop-heard.invariant.same c.in_ok-heard.ensures.same in
    let less = earlier c.loop-heard.invariant.same
    (λ (ns : List Node) (m : ℕ). turn_work ns (turn_after c.loop-heard.uid c.enter.new.stage.kept.now c.in_ok-heard.field-0) < turn_work ns (turn.Enter c.loop-heard.uid)) c.in_ok-heard.ensures.work in
    let went = earlier since
    (λ (ns : List Node) (m : ℕ). turn_work ns (turn.Wait frame) < turn_work ns (turn.GoOn (step_of c.begun-frame.result c.in-GoesOn.heard))) (c.goes_on_at_once-at_once.ensures.work c.if-at_once.true) in
    let turns : turn_work nodes (turn_after c.loop-heard.uid c.enter.new.stage.kept.now c.in_ok-heard.field-0) ≡ turn_work nodes (turn.GoOn (step_of c.begun-frame.result c.in-GoesOn.heard)) =
    ap (λ (t : Turn). turn_work nodes t) (begun_by_rule g at c.in-GoesOn.heard c.begun-frame.result c.in-GoesOn.is c.begun-frame.ensures) in
    let stacked : stack_work nodes c.push_frame.new.stack.items ≡ stack_work nodes c.loop-heard.frames.items + (0 + frame_work nodes frame) =
    ap (λ (fs : List Frame). stack_work nodes fs) c.in_ok-push_frame-in-GoesOn.ensures.ok ∙ sum_by-append (frame_work nodes) c.loop-heard.frames.items (frame ∷ []) in
    omega (arith, less, went, turns, stacked)

pub loop-heard-preserved-then-at_once : goal.loop-heard-preserved-then-at_once
loop-heard-preserved-then-at_once g c =
    let at = (goal.at.loop-heard-preserved-then-at_once g c).In_ok-heard in
    let since = same_both c.loop-heard.invariant.same c.in_ok-heard.ensures.same in
    let goes = earlier since (StepsBy g.D.Drivers.states c.enter.new.stage c.enter.new.stage _ (Ok _)) (c.goes_on_at_once-at_once.ensures.goes c.if-at_once.true) in
    record {
      all = λ term view can. record {
        came = on_stack term_keeps _ _ (sym c.in_ok-push_frame-in-GoesOn.ensures.ok)
            (entered term_keeps _ _ (step_made term_keeps _ _ _ _ (begun_by_rule g at c.in-GoesOn.heard c.begun-frame.result c.in-GoesOn.is c.begun-frame.ensures) (came g at term view can) goes));
      };
      stays = still_fits g at;
      same = since;
      reserve = c.in_ok-heard.ensures.reserve ∙ c.loop-heard.invariant.reserve;
      room = omega (arith, c.in_ok-push_frame-in-GoesOn.ensures.capacity, c.loop-heard.invariant.room);
      enough = λ term view can deep.
          let left = level_left _ _ _ _ _ _ _ _ _ _ _ (c.loop-heard.invariant.all term view can).came in
          let same = c.loop-heard.invariant.enough term view can deep in
          c.in_ok-push_frame-in-GoesOn.ensures.had_room (omega (arith, left, same, deep)) ∙ same;
    }
