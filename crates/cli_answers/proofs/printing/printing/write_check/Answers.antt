use Rattle.std.proofs.Common.{◌∙◌, ◌++◌}
use Rattle.std.specs.List.{concat}
use Rattle.spec_program.specs.Printed.{count_line}
use Rattle.spec_tree.specs.PrintedTree.{tree_lines}
use Rattle.base_outside.proofs.Appends.{Appended-trans, AppendedPrefix-after, AppendedPrefix-whole}
use Rattle.base_outside.proofs.Writings.{Writes-after, Writes-lines, Writes-stopped, Wrote-both, lines-equal}
use Rattle.cli_answers.proofs.LineEnds.{count_lines}
use Rattle.cli_answers.proofs.printing.printing.write_check.Goals as goal

pub returns-in_err-write_line-clause-prefix : goal.returns-in_err-write_line-clause-prefix
returns-in_err-write_line-clause-prefix g c =
    AppendedPrefix-after (g.K.Sink.written c.args.out.now) (g.K.Sink.written c.write_tree.new.out) (g.K.Sink.written c.write_line.new.out) (concat (tree_lines c.args.tree.now)) (count_line c.args.tree.now) c.in_ok-write_tree.ensures.whole
    (rw (c.as_slice.ensures.value ∙ c.in_ok-line.ensures) at c.in_err-write_line.ensures.prefix)

pub returns-clause-whole : goal.returns-clause-whole
returns-clause-whole g c =
    Appended-trans (g.K.Sink.written c.args.out.now) (g.K.Sink.written c.write_tree.new.out) (g.K.Sink.written c.write_line.new.out) (concat (tree_lines c.args.tree.now)) (count_line c.args.tree.now) c.in_ok-write_tree.ensures.whole
    (rw (c.as_slice.ensures.value ∙ c.in_ok-line.ensures) at c.in_ok-write_line.ensures.whole)

pub returns-clause-prefix : goal.returns-clause-prefix
returns-clause-prefix g c =
    AppendedPrefix-whole (g.K.Sink.written c.args.out.now) (g.K.Sink.written c.write_line.new.out) (concat (tree_lines c.args.tree.now) ++ count_line c.args.tree.now)
    (Appended-trans (g.K.Sink.written c.args.out.now) (g.K.Sink.written c.write_tree.new.out) (g.K.Sink.written c.write_line.new.out) (concat (tree_lines c.args.tree.now)) (count_line c.args.tree.now) c.in_ok-write_tree.ensures.whole
    (rw (c.as_slice.ensures.value ∙ c.in_ok-line.ensures) at c.in_ok-write_line.ensures.whole))

pub returns-in_err-write_tree-clause-writes : goal.returns-in_err-write_tree-clause-writes
returns-in_err-write_tree-clause-writes g c = Writes-stopped g.K.Sink.write_gives c.from_residual.result c.from_residual.ensures.0 _ _ c.in_err-write_tree.ensures.writes

pub returns-in_err-line-clause-writes : goal.returns-in_err-line-clause-writes
returns-in_err-line-clause-writes g c = Writes-lines g.K.Sink.write_gives c.from_residual-in_err-line.result _ _ c.in_ok-write_tree.ensures.writes

pub returns-in_err-write_line-clause-writes : goal.returns-in_err-write_line-clause-writes
returns-in_err-write_line-clause-writes g c =
    Writes-after g.K.Sink.write_gives c.from_residual-in_err-write_line.result _ _ _ c.in_ok-write_tree.ensures.writes
    (Writes-stopped g.K.Sink.write_gives c.from_residual-in_err-write_line.result c.from_residual-in_err-write_line.ensures.0 _ _ (c.in_err-write_line.ensures.writes (lines-equal _ _ (c.as_slice.ensures.value ∙ c.in_ok-line.ensures) (count_lines c.args.tree.now))))

pub returns-clause-writes : goal.returns-clause-writes
returns-clause-writes g c = Wrote-both g.K.Sink.write_gives _ _ _ c.in_ok-write_tree.ensures.writes (c.in_ok-write_line.ensures.writes (lines-equal _ _ (c.as_slice.ensures.value ∙ c.in_ok-line.ensures) (count_lines c.args.tree.now)))
