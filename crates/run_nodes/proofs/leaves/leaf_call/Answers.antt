use Rattle.std.proofs.Common.{◌≡◌, ◌++◌, ap, length, refl, subst, sym, ◌∙◌}
use Rattle.std.specs.Prelude.{slice_set}
use Rattle.spec_run.specs.declared.leaf.Reply.{Reply}
use Rattle.spec_run.specs.Leaf.{padded, rule_answer}
use Rattle.spec_run.specs.Leaves.{phase_of, reply_answer, reply_notes}
use Rattle.base_tables.specs.Outputs.{outputs_given}
use Rattle.run_driver.specs.Rules.{rule}
use Rattle.run_arena.specs.declared.stage.Stage.{Stage}
use Rattle.run_arena.specs.Nodes.{kept_at}
use Rattle.run_arena.specs.Noted.{Noted}
use Rattle.run_arena.specs.Stages.{MeetsOn, scene_on}
use Rattle.run_nodes.specs.Calls.{answer_on, as_given, board_left, mark_left, seen_inputs}
use Rattle.run_nodes.specs.Here.{call_on, in_stop}
use Rattle.run_nodes.proofs.Following.{stops_with}
use Rattle.run_nodes.proofs.MadeCalls.{WasCalled, call_met, cut_before, fits_called}
use Rattle.run_nodes.proofs.Readied.{callable_after}
use Rattle.run_nodes.proofs.leaves.leaf_call.Goals as goal
use Rattle.run_nodes.proofs.leaves.leaf_call.Given.{Over}

was_called : (g : Over) (c : goal.After-tell g) →
    WasCalled c.args.stage.now.nodes.now c.args.uid c.args.leaf.now c.args.stage.now.moment (kept_at c.args.stage.now.kept.now c.args.uid).status
    (answer_on g.D.Drivers.states c.keep_inputs.new.stage (kept_at c.args.stage.now.kept.now c.args.uid).status c.args.leaf.now)
    (scene_on g.D.Drivers.states c.args.stage.now)
    (record (scene_on g.D.Drivers.states c.make_call-reply.new.stage) { kept = c.mark.new.kept })
was_called g c =
    let leaf = c.args.leaf.now in
    let status = (kept_at c.args.stage.now.kept.now c.args.uid).status in
    let readied = c.in_ok-keep_inputs.ensures.ok in
    let asked = c.make_call-reply.ensures.asked in
    let reply = c.make_call-reply.ensures.reply in
    let a = answer_on g.D.Drivers.states c.keep_inputs.new.stage status leaf in
    record {
      here = c.requires.here;
      answered = λ i. rule_answer (rule leaf.row) (phase_of status) (readied.instance i) (padded (seen_inputs (readied.board i) leaf.inputs)) (readied.facts i) (readied.same.moment i);
      board = c.make_call-reply.ensures.board ∙ ap (board_left a.reply leaf (outputs_given a)) readied.board;
      slots = c.make_call-reply.ensures.slots ∙ ap length readied.board;
      facts = asked.facts;
      drivers = asked.drivers ∙ readied.called (phase_of status) a.instance;
      kept =
          c.mark.ensures
          ∙ (λ i. let kept = (asked.kept ∙ readied.kept) i in slice_set kept c.args.uid (record (kept_at kept c.args.uid) { held = mark_left (reply i) (kept_at kept c.args.uid).held }));
      kept_status = refl;
    }

pub returns-in_err-room-clause-meets : goal.returns-in_err-room-clause-meets
returns-in_err-room-clause-meets g c = λ term view ms fits.
    cut_before c.args.stage.now.nodes.now c.args.stage.now.moment (λ _. ms) _ _ _ _ _ (ap as_given (stops_with _ _ c.from_residual.ensures.1)) (ap (λ (n : Noted). n.list) c.in_err-room.ensures.err)

pub returns-in_err-keep_inputs-clause-meets : goal.returns-in_err-keep_inputs-clause-meets
returns-in_err-keep_inputs-clause-meets g c = λ term view ms fits.
    let s = c.args.stage.now in
    let states = g.D.Drivers.states in
    let Met : Stage g.row.D.Denot g.row.P.Denot → Type 0 = λ left. MeetsOn states (λ _. ms) (as_given c.from_residual-in_err-keep_inputs.result) s left (call_on states s c.args.uid term view ms) in
    subst Met (sym c.in_err-keep_inputs.ensures.err)
    (cut_before s.nodes.now s.moment (λ _. ms) _ _ _ _ _ (ap as_given (stops_with _ _ c.from_residual-in_err-keep_inputs.ensures.1)) (ap (λ (n : Noted). n.list) c.in_ok-room.ensures.ok))

pub make_call-reply-requires : goal.make_call-reply-requires
make_call-reply-requires g c = callable_after g.D.Drivers.states _ c.args.leaf.now _ c.keep_inputs.new.stage c.in_ok-keep_inputs.ensures.ok c.requires.callable

pub returns-clause-meets : goal.returns-clause-meets
returns-clause-meets g c = λ term view ms fits.
    let s = c.args.stage.now in
    let asked = c.make_call-reply.ensures.asked in
    let reply = c.make_call-reply.ensures.reply in
    let readied = c.in_ok-keep_inputs.ensures.ok in
    let notes_of = reply_notes (phase_of (kept_at s.kept.now c.args.uid).status) c.args.uid in
    call_met s.nodes.now c.args.uid c.args.leaf.now s.moment _ _ _ _ (was_called g c) term view ms fits s.notes.now.list c.tell.new.notes.list
    (c.tell.ensures.list ∙ (λ i. ((asked.notes ∙ readied.notes ∙ c.in_ok-room.ensures.ok) i).list ++ notes_of (reply i)))
    c.tell.result
    (c.tell.ensures.answer ∙ ap (λ (r : Reply). in_stop (reply_answer c.args.uid r)) reply)

pub returns-clause-fits : goal.returns-clause-fits
returns-clause-fits g c =
    let s = c.args.stage.now in
    fits_called s.nodes.now c.args.uid c.args.leaf.now s.moment _ _ _ _ (was_called g c)
