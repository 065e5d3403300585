use Rattle.std.proofs.Common.{◌∙◌}
use Rattle.std.specs.List.{concat}
use Rattle.base_outside.proofs.Appends.{Appended-trans, AppendedPrefix-after, AppendedPrefix-longer, AppendedPrefix-whole}
use Rattle.spec_plan.specs.PlanLines.{end_line}
use Rattle.spec_output.specs.NoNames.{no_names}
use Rattle.spec_program.specs.PlanOutputs.{reached_lines}
use Rattle.base_outside.proofs.Writings.{Writes-after, Writes-none, Writes-stopped, Wrote-both, lines-equal}
use Rattle.cli_answers.proofs.LineEnds.{end_lines}
use Rattle.cli_answers.proofs.planning.plan_lines.write_end.Goals as goal

pub returns-in_err-write_line-clause-prefix : goal.returns-in_err-write_line-clause-prefix
returns-in_err-write_line-clause-prefix g c =
    AppendedPrefix-longer _ _ (end_line no_names c.args.end.now) (concat (reached_lines c.args.end.now))
    (rw (c.as_slice.ensures.value ∙ c.in_ok-line.ensures) at c.in_err-write_line.ensures.prefix)

pub returns-in_err-write_reached-clause-prefix : goal.returns-in_err-write_reached-clause-prefix
returns-in_err-write_reached-clause-prefix g c =
    AppendedPrefix-after _ _ _ (end_line no_names c.args.end.now) (concat (reached_lines c.args.end.now))
    (rw (c.as_slice.ensures.value ∙ c.in_ok-line.ensures) at c.in_ok-write_line.ensures.whole) c.in_err-write_reached.ensures.prefix

pub returns-clause-whole : goal.returns-clause-whole
returns-clause-whole g c =
    Appended-trans _ _ _ (end_line no_names c.args.end.now) (concat (reached_lines c.args.end.now))
    (rw (c.as_slice.ensures.value ∙ c.in_ok-line.ensures) at c.in_ok-write_line.ensures.whole) c.in_ok-write_reached.ensures.whole

pub returns-clause-prefix : goal.returns-clause-prefix
returns-clause-prefix g c = AppendedPrefix-whole _ _ _ (returns-clause-whole g c)

pub returns-in_err-line-clause-writes : goal.returns-in_err-line-clause-writes
returns-in_err-line-clause-writes g c = Writes-none g.K.Sink.write_gives c.from_residual.result _

pub returns-in_err-write_line-clause-writes : goal.returns-in_err-write_line-clause-writes
returns-in_err-write_line-clause-writes g c = Writes-stopped g.K.Sink.write_gives c.from_residual-in_err-write_line.result c.from_residual-in_err-write_line.ensures.0 _ _ (c.in_err-write_line.ensures.writes (lines-equal _ _ (c.as_slice.ensures.value ∙ c.in_ok-line.ensures) (end_lines no_names c.args.end.now)))

pub returns-in_err-write_reached-clause-writes : goal.returns-in_err-write_reached-clause-writes
returns-in_err-write_reached-clause-writes g c =
    Writes-after g.K.Sink.write_gives c.from_residual-in_err-write_reached.result _ _ _ (c.in_ok-write_line.ensures.writes (lines-equal _ _ (c.as_slice.ensures.value ∙ c.in_ok-line.ensures) (end_lines no_names c.args.end.now)))
    (Writes-stopped g.K.Sink.write_gives c.from_residual-in_err-write_reached.result c.from_residual-in_err-write_reached.ensures.0 _ _ c.in_err-write_reached.ensures.writes)

pub returns-clause-writes : goal.returns-clause-writes
returns-clause-writes g c = Wrote-both g.K.Sink.write_gives _ _ _ (c.in_ok-write_line.ensures.writes (lines-equal _ _ (c.as_slice.ensures.value ∙ c.in_ok-line.ensures) (end_lines no_names c.args.end.now))) c.in_ok-write_reached.ensures.writes
