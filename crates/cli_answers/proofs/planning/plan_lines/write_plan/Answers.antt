use Rattle.std.proofs.Common.{◌++◌, map}
use Rattle.std.specs.List.{concat}
use Rattle.base_outside.proofs.Appends.{Appended-trans, AppendedPrefix-after, AppendedPrefix-longer, AppendedPrefix-whole}
use Rattle.spec_plan.specs.PlanLines.{end_line, step_line}
use Rattle.spec_output.specs.NoNames.{no_names}
use Rattle.spec_program.specs.PlanOutputs.{reached_lines}
use Rattle.base_outside.proofs.Writings.{Writes-after, Writes-stopped, Wrote-both}
use Rattle.cli_answers.proofs.planning.plan_lines.write_plan.Goals as goal

pub returns-in_err-write_steps-clause-prefix : goal.returns-in_err-write_steps-clause-prefix
returns-in_err-write_steps-clause-prefix g c =
    let planned = c.args.planned.now in
    AppendedPrefix-longer _ _ (concat (map step_line planned.steps)) (end_line no_names planned.end ++ concat (reached_lines planned.end))
    (rw c.list.ensures at c.in_err-write_steps.ensures.prefix)

pub returns-in_err-write_end-clause-prefix : goal.returns-in_err-write_end-clause-prefix
returns-in_err-write_end-clause-prefix g c =
    let planned = c.args.planned.now in
    AppendedPrefix-after _ _ _ (concat (map step_line planned.steps)) (end_line no_names planned.end ++ concat (reached_lines planned.end))
    (rw c.list.ensures at c.in_ok-write_steps.ensures.whole) c.in_err-write_end.ensures.prefix

pub returns-clause-whole : goal.returns-clause-whole
returns-clause-whole g c =
    let planned = c.args.planned.now in
    Appended-trans _ _ _ (concat (map step_line planned.steps)) (end_line no_names planned.end ++ concat (reached_lines planned.end))
    (rw c.list.ensures at c.in_ok-write_steps.ensures.whole) c.in_ok-write_end.ensures.whole

pub returns-clause-prefix : goal.returns-clause-prefix
returns-clause-prefix g c = AppendedPrefix-whole _ _ _ (returns-clause-whole g c)

pub returns-in_err-write_steps-clause-writes : goal.returns-in_err-write_steps-clause-writes
returns-in_err-write_steps-clause-writes g c = Writes-stopped g.K.Sink.write_gives c.from_residual.result c.from_residual.ensures.0 _ _ c.in_err-write_steps.ensures.writes

pub returns-in_err-write_end-clause-writes : goal.returns-in_err-write_end-clause-writes
returns-in_err-write_end-clause-writes g c =
    Writes-after g.K.Sink.write_gives c.from_residual-in_err-write_end.result _ _ _ c.in_ok-write_steps.ensures.writes
    (Writes-stopped g.K.Sink.write_gives c.from_residual-in_err-write_end.result c.from_residual-in_err-write_end.ensures.0 _ _ c.in_err-write_end.ensures.writes)

pub returns-clause-writes : goal.returns-clause-writes
returns-clause-writes g c = Wrote-both g.K.Sink.write_gives _ _ _ c.in_ok-write_steps.ensures.writes c.in_ok-write_end.ensures.writes
