use Rattle.std.proofs.Common.{◌<◌, ◌∙◌, arith, length, subst}
use Rattle.spec_outside.specs.Appending.{Appended, AppendedPrefix}
use Rattle.spec_plan.specs.declared.ending.Step.{Step}
use Rattle.spec_plan.specs.PlanLines.{step_line}
use Rattle.text_lines.proofs.Lines.{Appended-map_more, AppendedPrefix-map_next, AppendedPrefix-map_some, alone}
use Rattle.base_outside.proofs.Appends.{Appended-nil}
use Rattle.base_outside.proofs.Writings.{Writes-after, Writes-lines, Writes-stopped, Wrote-both, Wrote-none, lines-equal}
use Rattle.cli_answers.proofs.LineEnds.{step_lines}
use Rattle.cli_answers.proofs.planning.plan_lines.write_steps.Goals as goal

pub returns-in_err-put_step-clause-prefix : goal.returns-in_err-put_step-clause-prefix
returns-in_err-put_step-clause-prefix g c = AppendedPrefix-map_some step_line c.args.steps.now c.loop-step.step-index _ _ c.loop-step.invariant.text

pub returns-in_err-write_line-clause-prefix : goal.returns-in_err-write_line-clause-prefix
returns-in_err-write_line-clause-prefix g c =
    let within : c.loop-step.step-index < length c.args.steps.now = omega arith in
    let front = rw (c.as_slice.ensures.value ∙ alone _ c.clear.ensures.items c.in_ok-put_step.ensures) at c.in_err-write_line.ensures.prefix in
    let here = subst (λ (step : Step). AppendedPrefix (g.K.Sink.written c.loop-step.out) (g.K.Sink.written c.write_line.new.out) (step_line step)) c.step-item.is front in
    AppendedPrefix-map_next step_line c.args.steps.now c.loop-step.step-index c.step-item.result _ _ _ within c.loop-step.invariant.text here

pub loop-step-preserved : goal.loop-step-preserved
loop-step-preserved g c =
    let within : c.loop-step.step-index < length c.args.steps.now = omega arith in
    let whole = rw (c.as_slice.ensures.value ∙ alone _ c.clear.ensures.items c.in_ok-put_step.ensures) at c.in_ok-write_line.ensures.whole in
    let here = subst (λ (step : Step). Appended (g.K.Sink.written c.loop-step.out) (g.K.Sink.written c.write_line.new.out) (step_line step)) c.step-item.is whole in
    record {
      text = Appended-map_more step_line c.args.steps.now c.loop-step.step-index c.step-item.result _ _ _ within c.loop-step.invariant.text here;
      count = omega arith;
      writes = Wrote-both g.K.Sink.write_gives _ _ _ c.loop-step.invariant.writes (c.in_ok-write_line.ensures.writes (lines-equal _ _ (c.as_slice.ensures.value ∙ alone _ c.clear.ensures.items c.in_ok-put_step.ensures) (step_lines _)));
    }

pub loop-step-init : goal.loop-step-init
loop-step-init g c = record { text = Appended-nil _; count = omega arith; writes = Wrote-none g.K.Sink.write_gives _ }

pub returns-in_err-put_step-clause-writes : goal.returns-in_err-put_step-clause-writes
returns-in_err-put_step-clause-writes g c = Writes-lines g.K.Sink.write_gives c.from_residual.result _ _ c.loop-step.invariant.writes

pub returns-in_err-write_line-clause-writes : goal.returns-in_err-write_line-clause-writes
returns-in_err-write_line-clause-writes g c =
    let lines = lines-equal _ _ (c.as_slice.ensures.value ∙ alone _ c.clear.ensures.items c.in_ok-put_step.ensures) (step_lines _) in
    Writes-after g.K.Sink.write_gives c.from_residual-in_err-write_line.result _ _ _ c.loop-step.invariant.writes
    (Writes-stopped g.K.Sink.write_gives c.from_residual-in_err-write_line.result c.from_residual-in_err-write_line.ensures.0 _ _ (c.in_err-write_line.ensures.writes lines))
