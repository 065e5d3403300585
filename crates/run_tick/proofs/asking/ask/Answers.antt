use Rattle.std.proofs.Common.{◌≡◌, ◌+◌, Ok, Err, ap, arith, false, refl, subst, ◌∙◌}
use Rattle.spec_run.specs.declared.memory.Memo.TheVariants.{Index}
use Rattle.spec_run.specs.declared.status.Answer.{Answer}
use Rattle.spec_run.specs.declared.status.Answer.TheVariants as answer
use Rattle.spec_tree.specs.declared.term.Term.{Term}
use Rattle.spec_run.specs.Sites.{View}
use Rattle.run_arena.specs.declared.nodes.Kept.{Kept}
use Rattle.run_arena.specs.Nodes.{kept_at}
use Rattle.run_arena.specs.Stages.{scene_on}
use Rattle.run_arena.proofs.Staged.{earlier, same_both}
use Rattle.run_laws.proofs.Keeping.{term_keeps}
use Rattle.run_tick.specs.Asking.{first_frame, hears_first}
use Rattle.run_tick.specs.Machine as turn
use Rattle.run_tick.specs.Turns.{CanVisitOn, Goes, started_on}
use Rattle.run_tick.proofs.Bounds.{cost_positive}
use Rattle.run_tick.proofs.Later.{StepsBy, VisitsBy, can_later, step_later}
use Rattle.run_tick.proofs.Moving.{turned_with}
use Rattle.run_tick.proofs.Questions.{asked_can, asked_hears, asked_stops, asks_less, goes_further, hears_kept, less_kept}
use Rattle.run_tick.proofs.asking.ask.Goals as goal
use Rattle.run_tick.proofs.asking.ask.Goals.{In_ok-answer}
use Rattle.run_tick.proofs.asking.ask.Given.{Over}

pub visit_leaf-requires-clause-can : goal.visit_leaf-requires-clause-can
visit_leaf-requires-clause-can g c =
    let (term, view, can) = c.requires.can in
    (_, _, can_later c.in_ok-start_asking.ensures.same (asked_can term_keeps _ _ term view (first_frame c.args.uid) _ _ _ _ _ (c.in_ok-start_asking.ensures.goes term view can)))

pub returns-in_err-answer-clause-goes : goal.returns-in_err-answer-clause-goes
returns-in_err-answer-clause-goes g c = λ term view can.
    let waits = c.in_ok-start_asking.ensures.goes term view can in
    let goes = earlier c.in_ok-start_asking.ensures.same (VisitsBy g.D.Drivers.states c.start_asking.new.stage c.visit_leaf.new.stage (c.args.uid + 1) (Err c.in_err-answer.field-0.0)) c.in_err-answer.ensures.goes in
    turned_with _ _ _ _ _ _ _ _ _ _ _ _ c.from_residual-in_err-answer.ensures.1
    (asked_stops term_keeps _ _ term view (first_frame c.args.uid) _ _ _ _ _ waits _ _ _ (goes _ _ (asked_can term_keeps _ _ term view (first_frame c.args.uid) _ _ _ _ _ waits)))

-- the first child has answered, and the node hears it
hears : (g : Over) (c : In_ok-answer g) (a : Answer) → c.in_ok-answer.answer ≡ a → (term : Term) (view : View) → CanVisitOn g.D.Drivers.states c.args.stage.now c.args.uid term view →
    Goes c.args.stage.now.nodes.now c.args.stage.now.moment term view c.args.uid (Ok (turn.GoOn (hears_first c.args.uid a))) (scene_on g.D.Drivers.states c.args.stage.now) (scene_on g.D.Drivers.states c.visit_leaf.new.stage) c.args.stage.now.notes.now.list c.visit_leaf.new.stage.notes.now.list
    (started_on g.D.Drivers.states c.args.stage.now c.args.uid term view)
hears g c a is term view can =
    let waits = c.in_ok-start_asking.ensures.goes term view can in
    let goes = earlier c.in_ok-start_asking.ensures.same (VisitsBy g.D.Drivers.states c.start_asking.new.stage c.visit_leaf.new.stage (c.args.uid + 1) (Ok (turn.Back c.in_ok-answer.answer))) c.in_ok-answer.ensures.goes in
    subst (λ (x : Answer). Goes c.args.stage.now.nodes.now c.args.stage.now.moment term view c.args.uid (Ok (turn.GoOn (hears_first c.args.uid x))) (scene_on g.D.Drivers.states c.args.stage.now) (scene_on g.D.Drivers.states c.visit_leaf.new.stage) c.args.stage.now.notes.now.list c.visit_leaf.new.stage.notes.now.list
    (started_on g.D.Drivers.states c.args.stage.now c.args.uid term view)) is
    (asked_hears term_keeps _ _ term view (first_frame c.args.uid) _ _ _ _ _ waits _ _ c.in_ok-answer.answer (goes _ _ (asked_can term_keeps _ _ term view (first_frame c.args.uid) _ _ _ _ _ waits)))

-- and keeps the memo of its start
keeps_memo : (g : Over) (c : In_ok-answer g) → (kept_at c.visit_leaf.new.stage.kept.now c.args.uid).memo ≡ Index 0 false
keeps_memo g c =
    let (term, view, can) = c.requires.can in
    let waits = c.in_ok-start_asking.ensures.goes term view can in
    let goes = earlier c.in_ok-start_asking.ensures.same (VisitsBy g.D.Drivers.states c.start_asking.new.stage c.visit_leaf.new.stage (c.args.uid + 1) (Ok (turn.Back c.in_ok-answer.answer))) c.in_ok-answer.ensures.goes in
    let child = goes _ _ (asked_can term_keeps _ _ term view (first_frame c.args.uid) _ _ _ _ _ waits) in
    ap (λ (k : Kept). k.memo) (child.beside.below c.args.uid (omega arith)) ∙ c.in_ok-start_asking.ensures.memo

pub settle-requires-clause-can : goal.settle-requires-clause-can
settle-requires-clause-can g c =
    let (term, view, can) = c.requires.can in
    let since = same_both c.in_ok-start_asking.ensures.same c.in_ok-answer.ensures.same in
    let heard = hears g (goal.at.settle-requires-clause-can g c).In_ok-answer answer.Success c.in-Success.is term view can in
    (term, view, heard.ends.next, step_later since heard.ends.does)

pub returns-in_err-given-in-Success-clause-goes : goal.returns-in_err-given-in-Success-clause-goes
returns-in_err-given-in-Success-clause-goes g c = λ term view can.
    let since = same_both c.in_ok-start_asking.ensures.same c.in_ok-answer.ensures.same in
    let heard = hears g (goal.at.returns-in_err-given-in-Success-clause-goes g c).In_ok-answer answer.Success c.in-Success.is term view can in
    let settles = earlier since (StepsBy g.D.Drivers.states c.visit_leaf.new.stage c.settle.new.stage (hears_first c.args.uid answer.Success) (Err c.in_err-given-in-Success.field-0.0)) c.in_err-given-in-Success.ensures.goes in
    turned_with _ _ _ _ _ _ _ _ _ _ _ _ c.from_residual-in_err-given-in-Success.ensures.1
    (goes_further _ _ term view (hears_first c.args.uid answer.Success) (Err c.in_err-given-in-Success.field-0.0) _ _ _ _ _ _ _ heard settles)

pub returns-in_ok-given-in-Success-clause-goes : goal.returns-in_ok-given-in-Success-clause-goes
returns-in_ok-given-in-Success-clause-goes g c = λ term view can.
    let since = same_both c.in_ok-start_asking.ensures.same c.in_ok-answer.ensures.same in
    let heard = hears g (goal.at.returns-in_ok-given-in-Success-clause-goes g c).In_ok-answer answer.Success c.in-Success.is term view can in
    let settles = earlier since (StepsBy g.D.Drivers.states c.visit_leaf.new.stage c.settle.new.stage (hears_first c.args.uid answer.Success) (Ok (turn.Back c.in_ok-given-in-Success.given))) c.in_ok-given-in-Success.ensures.goes in
    goes_further _ _ term view (hears_first c.args.uid answer.Success) (Ok (turn.Back c.in_ok-given-in-Success.given)) _ _ _ _ _ _ _ heard settles

pub returns-in_ok-given-in-Success-clause-work : goal.returns-in_ok-given-in-Success-clause-work
returns-in_ok-given-in-Success-clause-work g c = cost_positive _

pub returns-in_default : goal.returns-in_default
returns-in_default g c = record {
  goes = λ term view can.
      let at = (goal.at.returns-in_default g c).In_ok-answer in
      hears_kept _ _ term view c.args.uid c.in_ok-answer.answer _ (keeps_memo g at) _ _ _ _ _ (hears g at c.in_ok-answer.answer refl term view can);
  same = same_both c.in_ok-start_asking.ensures.same c.in_ok-answer.ensures.same;
  reserve = c.in_ok-answer.ensures.reserve ∙ c.in_ok-start_asking.ensures.reserve;
  work =
      let (term, view, can) = c.requires.can in
      let kept = c.args.stage.now.kept.now in
      let notes = c.args.stage.now.notes.now.list in
      less_kept _ c.args.uid c.in_ok-answer.answer _ (keeps_memo g (goal.at.returns-in_default g c).In_ok-answer) (asks_less term_keeps _ _ term view _ kept kept kept _ _ _ notes notes can c.requires.asks.kind c.in_ok-answer.answer);
}
