use Rattle.std.proofs.Common.{◌≡◌, ◌-◌, ◌<◌, ℕ, List, [], ◌∷◌, ◌++◌, Ok, Err, ap, arith, length, refl, sym, ◌∙◌}
use Rattle.std.specs.List.{refill}
use Rattle.std.specs.Vec.{vec_len}
use Rattle.std.specs.Prelude.{slice_set, take}
use Rattle.spec_run.specs.declared.memory.Memory.{Memory}
use Rattle.spec_run.specs.declared.moves.Heard.{Heard}
use Rattle.spec_run.specs.declared.moves.Heard.TheVariants.{Answered}
use Rattle.spec_run.specs.declared.note.Note.{Note}
use Rattle.spec_run.specs.declared.status.Answer.{Answer}
use Rattle.spec_tree.specs.declared.term.Term.{Term}
use Rattle.spec_run.specs.Done.{Done}
use Rattle.run_arena.proofs.Staged.{earlier, same_both}
use Rattle.run_laws.proofs.Keeping.{term_keeps}
use Rattle.run_arena.specs.declared.frame.Frame.{Frame}
use Rattle.run_arena.specs.declared.nodes.Node.{Node}
use Rattle.run_arena.specs.Ends.{StaysFit}
use Rattle.run_arena.specs.Scenes.{Scene}
use Rattle.run_arena.specs.Stages.{scene_on}
use Rattle.run_tick.specs.declared.progress.Next.{Next}
use Rattle.run_tick.specs.declared.progress.Next.TheVariants as next
use Rattle.run_tick.specs.Machine as turn
use Rattle.run_tick.specs.Turns.{CameOn, Going, GoingOn, next_work, stack_work, step_of}
use Rattle.run_tick.proofs.Later.{GoesNextBy, StepsBy, came_later, step_later}
use Rattle.run_tick.proofs.Stacks.{back_answers, back_made, can_step, step_beside, step_made, step_stays, step_stops}
use Rattle.run_tick.proofs.Tops.{comes_as, going_on, gone_back, less_heard, less_on_top, one_on_top, reached_with, top_written, went_on, written_many}
use Rattle.run_tick.proofs.visiting.reach_child.Goals as goal
use Rattle.run_tick.proofs.visiting.reach_child.Goals.{In_ok-child}
use Rattle.run_tick.proofs.visiting.reach_child.Given.{Over}

pub overflow_sub-top : goal.overflow_sub-top
overflow_sub-top g c =
    let (root, start, told, whole, came) = c.requires.going in
    omega (arith, one_on_top (c.loop-child.invariant.all root start told whole came).0, c.len-top.ensures)

pub bounds-as_mut_slice-top : goal.bounds-as_mut_slice-top
bounds-as_mut_slice-top g c =
    let (root, start, told, whole, came) = c.requires.going in
    omega (arith, one_on_top (c.loop-child.invariant.all root start told whole came).0, c.len-top.ensures, ap length c.as_mut_slice.ensures.value)

pub go_on-requires : goal.go_on-requires
go_on-requires g c =
    let (root, start, told, whole, came) = c.requires.going in
    let (below, is, going) = going_on _ _ c.as_mut_slice.ensures.value (c.len-top.ensures ∙ sym c.as_mut_slice.ensures.len ∙ ap length c.as_mut_slice.ensures.value) (c.loop-child.invariant.all root start told whole came).0 in
    let (t, v, rest, by) = can_step term_keeps _ _ refl going in
    record { can = (t, v, rest, step_later c.loop-child.invariant.same by) }

pub returns-in_err-child-clause-reaches : goal.returns-in_err-child-clause-reaches
returns-in_err-child-clause-reaches g c = λ root start told whole came.
    let (below, is, going) = going_on _ _ c.as_mut_slice.ensures.value (c.len-top.ensures ∙ sym c.as_mut_slice.ensures.len ∙ ap length c.as_mut_slice.ensures.value) (c.loop-child.invariant.all root start told whole came).0 in
    let goes = earlier c.loop-child.invariant.same (StepsBy g.D.Drivers.states c.loop-child.stage c.go_on.new.stage _ _) c.in_err-child.ensures.goes in
    let fit = step_stays term_keeps _ _ _ _ (Err c.in_err-child.field-0.0) refl going goes in
    reached_with _ _ _ _ _ _ _ _ _ _ _ _ _ c.from_residual.ensures.1 (λ t v u fits. fit t v u ((c.loop-child.invariant.all root start told whole came).1 t v u fits))
    (step_beside term_keeps _ _ _ _ (Err c.in_err-child.field-0.0) refl going goes)
    (step_stops term_keeps _ _ _ _ _ refl going goes)

-- the node on top of the stack went on: the visit of the root came to what comes next
went : (g : Over) (c : In_ok-child g) (root : Term) (start : Scene) (told : List Note) (whole : Done Answer Memory) →
    CameOn g.D.Drivers.states c.args.stage.now root (next.GoOn c.args.first) c.args.stack.now.items start told whole →
    GoingOn c.args.stage.now.nodes.now c.args.stage.now.moment root 1 c.in_ok-child.field-0 (refill (vec_len c.loop-child.stack) c.loop-child.stack.items (slice_set c.as_mut_slice.result.now (c.len-top.result - 1) c.go_on.new.frame)) start (scene_on g.D.Drivers.states c.go_on.new.stage) told c.go_on.new.stage.notes.now.list whole
    × StaysFit c.args.stage.now.nodes.now (scene_on g.D.Drivers.states c.args.stage.now) (scene_on g.D.Drivers.states c.go_on.new.stage)
went g c root start told whole came =
    let (below, is, going) = going_on _ _ c.as_mut_slice.ensures.value (c.len-top.ensures ∙ sym c.as_mut_slice.ensures.len ∙ ap length c.as_mut_slice.ensures.value) (c.loop-child.invariant.all root start told whole came).0 in
    let goes = earlier c.loop-child.invariant.same (StepsBy g.D.Drivers.states c.loop-child.stage c.go_on.new.stage _ _) c.in_ok-child.ensures.goes in
    let fit = step_stays term_keeps _ _ _ _ (Ok _) refl going goes in (
      went_on term_keeps below c.go_on.new.frame c.in_ok-child.ensures.child (top_written _ _ below _ _ _ _ c.as_mut_slice.ensures.value (c.len-top.ensures ∙ sym c.as_mut_slice.ensures.len ∙ ap length c.as_mut_slice.ensures.value) (sym c.as_mut_slice.ensures.len ∙ ap length c.as_mut_slice.ensures.value) is) (step_made term_keeps _ _ _ _ refl going goes),
      λ t v u fits. fit t v u ((c.loop-child.invariant.all root start told whole came).1 t v u fits),
    )

-- without the frame on top, as many are left as were below it
left_below : (g : Over) (c : In_ok-child g) (left : List Frame) →
    left ≡ take (vec_len c.loop-child.stack - 1) (refill (vec_len c.loop-child.stack) c.loop-child.stack.items (slice_set c.as_mut_slice.result.now (c.len-top.result - 1) c.go_on.new.frame)) →
    left ≡ take (length (refill (vec_len c.loop-child.stack) c.loop-child.stack.items (slice_set c.as_mut_slice.result.now (c.len-top.result - 1) c.go_on.new.frame)) - 1) (refill (vec_len c.loop-child.stack) c.loop-child.stack.items (slice_set c.as_mut_slice.result.now (c.len-top.result - 1) c.go_on.new.frame))
left_below g c left is =
    let (root, start, told, whole, came) = c.requires.going in
    let (below, stands, going) = going_on _ _ c.as_mut_slice.ensures.value (c.len-top.ensures ∙ sym c.as_mut_slice.ensures.len ∙ ap length c.as_mut_slice.ensures.value) (c.loop-child.invariant.all root start told whole came).0 in
    is ∙ ap (λ (n : ℕ). take (n - 1) (refill (vec_len c.loop-child.stack) c.loop-child.stack.items (slice_set c.as_mut_slice.result.now (c.len-top.result - 1) c.go_on.new.frame))) (written_many _ _ below _ _ _ _ c.as_mut_slice.ensures.value (c.len-top.ensures ∙ sym c.as_mut_slice.ensures.len ∙ ap length c.as_mut_slice.ensures.value) (sym c.as_mut_slice.ensures.len ∙ ap length c.as_mut_slice.ensures.value) stands)

-- and fewer turns are still to come
less : (g : Over) (c : In_ok-child g) (b : Next) → c.in_ok-child.field-0 ≡ b → next_work c.args.stage.now.nodes.now b (refill (vec_len c.loop-child.stack) c.loop-child.stack.items (slice_set c.as_mut_slice.result.now (c.len-top.result - 1) c.go_on.new.frame)) < next_work c.args.stage.now.nodes.now (next.GoOn c.loop-child.heard) c.loop-child.stack.items
less g c b comes =
    let (root, start, told, whole, came) = c.requires.going in
    let (below, is, going) = going_on _ _ c.as_mut_slice.ensures.value (c.len-top.ensures ∙ sym c.as_mut_slice.ensures.len ∙ ap length c.as_mut_slice.ensures.value) (c.loop-child.invariant.all root start told whole came).0 in
    earlier c.loop-child.invariant.same
    (λ (ns : List Node) (m : ℕ). next_work ns b (refill (vec_len c.loop-child.stack) c.loop-child.stack.items (slice_set c.as_mut_slice.result.now (c.len-top.result - 1) c.go_on.new.frame)) < next_work ns (next.GoOn c.loop-child.heard) c.loop-child.stack.items)
    (less_on_top _ _ b c.loop-child.heard _ _ below _ _ comes is (top_written _ _ below _ _ _ _ c.as_mut_slice.ensures.value (c.len-top.ensures ∙ sym c.as_mut_slice.ensures.len ∙ ap length c.as_mut_slice.ensures.value) (sym c.as_mut_slice.ensures.len ∙ ap length c.as_mut_slice.ensures.value) is) c.in_ok-child.ensures.child c.in_ok-child.ensures.work)

pub returns-in-Enter-clause-reaches : goal.returns-in-Enter-clause-reaches
returns-in-Enter-clause-reaches g c = λ root start told whole came.
    let (going, stays) = went g (goal.at.returns-in-Enter-clause-reaches g c).In_ok-child root start told whole came in
    let entered = comes_as c.in-Enter.is going in
    record { ends = entered; stays = stays; beside = entered.came.beside }

pub returns-in-Enter-clause-work : goal.returns-in-Enter-clause-work
returns-in-Enter-clause-work g c = omega (arith, less g (goal.at.returns-in-Enter-clause-work g c).In_ok-child (next.Enter c.in-Enter.child) c.in-Enter.is, c.loop-child.invariant.work)

pub returns-in-None-clause-reaches : goal.returns-in-None-clause-reaches
returns-in-None-clause-reaches g c = λ root start told whole came.
    let at = (goal.at.returns-in-None-clause-reaches g c).In_ok-child in
    let (going, stays) = went g at root start told whole came in
    let (left, taken, back) = gone_back c.in-Back.is going in
    record { ends = back_answers term_keeps _ _ refl (sym taken ∙ sym (left_below g at _ c.pop.ensures.rest) ∙ c.in-None.ensures.none refl) back; stays = stays; beside = back.beside }

pub loop-child-smaller-in-GoOn : goal.loop-child-smaller-in-GoOn
loop-child-smaller-in-GoOn g c = less g (goal.at.loop-child-smaller-in-GoOn g c).In_ok-child (next.GoOn c.in-GoOn.next) c.in-GoOn.is

pub loop-child-preserved-in-GoOn : goal.loop-child-preserved-in-GoOn
loop-child-preserved-in-GoOn g c =
    let at = (goal.at.loop-child-preserved-in-GoOn g c).In_ok-child in
    record {
      all = λ root start told whole came.
          let (going, stays) = went g at root start told whole came in
          (comes_as c.in-GoOn.is going, stays);
      same = same_both c.loop-child.invariant.same c.in_ok-child.ensures.same;
      facts = c.in_ok-child.ensures.facts ∙ c.loop-child.invariant.facts;
      reserve = c.in_ok-child.ensures.reserve ∙ c.loop-child.invariant.reserve;
      work = omega (arith, less g at (next.GoOn c.in-GoOn.next) c.in-GoOn.is, c.loop-child.invariant.work);
      room = c.loop-child.invariant.room;
    }

-- that node has answered, and the node that is now on top of the stack hears it
heard_on_top : (g : Over) (c : In_ok-child g) (answer : Answer) (heard : Heard) (left under : List Frame) (frame : Frame) → c.in_ok-child.field-0 ≡ next.Back answer →
    left ≡ take (vec_len c.loop-child.stack - 1) (refill (vec_len c.loop-child.stack) c.loop-child.stack.items (slice_set c.as_mut_slice.result.now (c.len-top.result - 1) c.go_on.new.frame)) → left ≡ under ++ frame ∷ [] → heard ≡ Answered frame.place answer →
    (root : Term) (start : Scene) (told : List Note) (whole : Done Answer Memory) → CameOn g.D.Drivers.states c.args.stage.now root (next.GoOn c.args.first) c.args.stack.now.items start told whole →
    Going c.args.stage.now.nodes.now c.args.stage.now.moment root 1 (turn.GoOn (step_of frame heard)) under start (scene_on g.D.Drivers.states c.go_on.new.stage) told c.go_on.new.stage.notes.now.list whole
    × StaysFit c.args.stage.now.nodes.now (scene_on g.D.Drivers.states c.args.stage.now) (scene_on g.D.Drivers.states c.go_on.new.stage)
heard_on_top g c answer heard left under frame answers is stands hears root start told whole came =
    let (going, stays) = went g c root start told whole came in
    let (below, taken, back) = gone_back answers going in
    (back_made term_keeps _ _ frame under (step_of frame heard) refl (sym taken ∙ sym (left_below g c left is) ∙ stands) (ap (step_of frame) hears) back, stays)

-- the stack that a frame was taken from has less work than the turn before
less_left : (g : Over) (c : In_ok-child g) (answer : Answer) (heard : Heard) (left under : List Frame) (frame : Frame) → c.in_ok-child.field-0 ≡ next.Back answer →
    left ≡ take (vec_len c.loop-child.stack - 1) (refill (vec_len c.loop-child.stack) c.loop-child.stack.items (slice_set c.as_mut_slice.result.now (c.len-top.result - 1) c.go_on.new.frame)) → left ≡ under ++ frame ∷ [] → heard ≡ Answered frame.place answer →
    next_work c.args.stage.now.nodes.now (next.GoOn heard) left < next_work c.args.stage.now.nodes.now (next.GoOn c.loop-child.heard) c.loop-child.stack.items
less_left g c answer heard left under frame answers is stands hears =
    omega (
      arith,
      less g c (next.Back answer) answers,
      ap (λ (fs : List Frame). stack_work c.args.stage.now.nodes.now fs) (left_below g c left is),
      less_heard c.args.stage.now.nodes.now heard left under frame answer stands hears,
    )

pub next_at_once-requires : goal.next_at_once-requires
next_at_once-requires g c =
    let at = (goal.at.next_at_once-requires g c).In_ok-child in
    let (root, start, told, whole, came) = c.requires.going in
    let (under, frame, stands, hears) = c.in-Some.ensures.some c.in-Some.next refl in
    let (going, stays) = heard_on_top g at c.in-Back.answer c.in-Some.next c.pop.new.self.items under frame c.in-Back.is c.pop.ensures.rest stands hears root start told whole came in
    record { going = (root, start, told, whole, came_later (same_both c.loop-child.invariant.same c.in_ok-child.ensures.same) (record { came = (under, frame, stands, going) })) }

pub returns-in-Some-next_at_once-clause-reaches : goal.returns-in-Some-next_at_once-clause-reaches
returns-in-Some-next_at_once-clause-reaches g c = λ root start told whole came.
    let at = (goal.at.returns-in-Some-next_at_once-clause-reaches g c).In_ok-child in
    let since = same_both c.loop-child.invariant.same c.in_ok-child.ensures.same in
    let goes = earlier since (GoesNextBy g.D.Drivers.states c.go_on.new.stage _ (next.Enter c.in-Some-next_at_once.child) _ _) c.in-Some-next_at_once.ensures.came in
    let (under, frame, stands, hears) = c.in-Some.ensures.some c.in-Some.next refl in
    let (going, stays) = heard_on_top g at c.in-Back.answer c.in-Some.next c.pop.new.self.items under frame c.in-Back.is c.pop.ensures.rest stands hears root start told whole came in
    record { ends = goes root start told whole (record { came = (under, frame, stands, going) }); stays = stays; beside = going.beside }

pub returns-in-Some-next_at_once-clause-work : goal.returns-in-Some-next_at_once-clause-work
returns-in-Some-next_at_once-clause-work g c =
    let at = (goal.at.returns-in-Some-next_at_once-clause-work g c).In_ok-child in
    let (under, frame, stands, hears) = c.in-Some.ensures.some c.in-Some.next refl in
    let entered = earlier (same_both c.loop-child.invariant.same c.in_ok-child.ensures.same)
    (λ (ns : List Node) (m : ℕ). next_work ns (next.Enter c.in-Some-next_at_once.child) c.next_at_once.new.stack.items < next_work ns (next.GoOn c.in-Some.next) c.pop.new.self.items) c.in-Some-next_at_once.ensures.work in
    omega (arith, entered, less_left g at c.in-Back.answer c.in-Some.next c.pop.new.self.items under frame c.in-Back.is c.pop.ensures.rest stands hears, c.loop-child.invariant.work)

-- a step that is not taken at once leaves the stack as it is
pub loop-child-smaller : goal.loop-child-smaller
loop-child-smaller g c =
    let at = (goal.at.loop-child-smaller g c).In_ok-child in
    let (under, frame, stands, hears) = c.in-Some.ensures.some c.in-Some.next refl in
    let left = c.in-None-next_at_once.ensures.came in
    less_left g at c.in-Back.answer c.in-Some.next c.next_at_once.new.stack.items under frame c.in-Back.is (left ∙ c.pop.ensures.rest) (left ∙ stands) hears

pub loop-child-preserved : goal.loop-child-preserved
loop-child-preserved g c =
    let at = (goal.at.loop-child-preserved g c).In_ok-child in
    let (under, frame, stands, hears) = c.in-Some.ensures.some c.in-Some.next refl in
    let left = c.in-None-next_at_once.ensures.came in
    record {
      all = λ root start told whole came.
          let (going, stays) = heard_on_top g at c.in-Back.answer c.in-Some.next c.next_at_once.new.stack.items under frame c.in-Back.is (left ∙ c.pop.ensures.rest) (left ∙ stands) hears root start told whole came in
          (record { came = (under, frame, left ∙ stands, going) }, stays);
      same = same_both c.loop-child.invariant.same c.in_ok-child.ensures.same;
      facts = c.in_ok-child.ensures.facts ∙ c.loop-child.invariant.facts;
      reserve = c.in_ok-child.ensures.reserve ∙ c.loop-child.invariant.reserve;
      work = omega (
        arith,
        less_left g at c.in-Back.answer c.in-Some.next c.next_at_once.new.stack.items under frame c.in-Back.is (left ∙ c.pop.ensures.rest) (left ∙ stands) hears,
        c.loop-child.invariant.work,
      );
      room = omega (arith, c.in-None-next_at_once.ensures.room, c.pop.ensures.capacity, c.loop-child.invariant.room);
    }
