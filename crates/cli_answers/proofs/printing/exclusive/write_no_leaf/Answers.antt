use Rattle.std.proofs.Common.{◌++◌, ◌∙◌, codes}
use Rattle.base_outside.proofs.Writings.{Writes-none, Writes-stopped, lines-equal}
use Rattle.cli_refusals.proofs.Writings.{refused_lines}
use Rattle.spec_program.specs.Refusals.{no_leaf_words}
use Rattle.cli_answers.proofs.printing.exclusive.write_no_leaf.Goals as goal

pub returns-in_err-line-clause-writes : goal.returns-in_err-line-clause-writes
returns-in_err-line-clause-writes g c = Writes-none g.K.Sink.write_gives c.from_residual.result _

pub returns-in_err-write_line-clause-writes : goal.returns-in_err-write_line-clause-writes
returns-in_err-write_line-clause-writes g c = Writes-stopped g.K.Sink.write_gives c.from_residual-in_err-write_line.result c.from_residual-in_err-write_line.ensures.0 _ _ (c.in_err-write_line.ensures.writes (lines-equal _ _ (c.as_slice.ensures.value ∙ c.in_ok-line.ensures) (refused_lines (codes "refused tree " ++ no_leaf_words c.args.id.now))))

pub returns-clause-writes : goal.returns-clause-writes
returns-clause-writes g c = c.in_ok-write_line.ensures.writes (lines-equal _ _ (c.as_slice.ensures.value ∙ c.in_ok-line.ensures) (refused_lines (codes "refused tree " ++ no_leaf_words c.args.id.now)))
