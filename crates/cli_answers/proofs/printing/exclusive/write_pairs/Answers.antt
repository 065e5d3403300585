use Rattle.std.proofs.Common.{◌∙◌, map}
use Rattle.std.specs.List.{concat}
use Rattle.base_outside.proofs.Appends.{Appended-trans, AppendedPrefix-after, AppendedPrefix-longer, AppendedPrefix-whole}
use Rattle.spec_program.specs.Exclusives.{pair_line, pairs_line}
use Rattle.base_outside.proofs.Writings.{Writes-after, Writes-lines, Writes-stopped, Wrote-both, lines-equal}
use Rattle.cli_answers.proofs.LineEnds.{pairs_lines}
use Rattle.cli_answers.proofs.printing.exclusive.write_pairs.Goals as goal

pub returns-in_err-write_each-clause-prefix : goal.returns-in_err-write_each-clause-prefix
returns-in_err-write_each-clause-prefix g c =
    AppendedPrefix-longer _ _ (concat (map pair_line c.args.pairs.now)) (pairs_line c.args.count) c.in_err-write_each.ensures.prefix

pub returns-in_err-line-clause-prefix : goal.returns-in_err-line-clause-prefix
returns-in_err-line-clause-prefix g c =
    AppendedPrefix-longer _ _ (concat (map pair_line c.args.pairs.now)) (pairs_line c.args.count) (AppendedPrefix-whole _ _ _ c.in_ok-write_each.ensures.whole)

pub returns-in_err-write_line-clause-prefix : goal.returns-in_err-write_line-clause-prefix
returns-in_err-write_line-clause-prefix g c =
    AppendedPrefix-after _ _ _ (concat (map pair_line c.args.pairs.now)) (pairs_line c.args.count) c.in_ok-write_each.ensures.whole
    (rw (c.as_slice.ensures.value ∙ c.in_ok-line.ensures) at c.in_err-write_line.ensures.prefix)

pub returns-clause-whole : goal.returns-clause-whole
returns-clause-whole g c =
    Appended-trans _ _ _ (concat (map pair_line c.args.pairs.now)) (pairs_line c.args.count) c.in_ok-write_each.ensures.whole
    (rw (c.as_slice.ensures.value ∙ c.in_ok-line.ensures) at c.in_ok-write_line.ensures.whole)

pub returns-clause-prefix : goal.returns-clause-prefix
returns-clause-prefix g c = AppendedPrefix-whole _ _ _ (returns-clause-whole g c)

pub returns-in_err-write_each-clause-writes : goal.returns-in_err-write_each-clause-writes
returns-in_err-write_each-clause-writes g c = Writes-stopped g.K.Sink.write_gives c.from_residual.result c.from_residual.ensures.0 _ _ c.in_err-write_each.ensures.writes

pub returns-in_err-line-clause-writes : goal.returns-in_err-line-clause-writes
returns-in_err-line-clause-writes g c = Writes-lines g.K.Sink.write_gives c.from_residual-in_err-line.result _ _ c.in_ok-write_each.ensures.writes

pub returns-in_err-write_line-clause-writes : goal.returns-in_err-write_line-clause-writes
returns-in_err-write_line-clause-writes g c =
    Writes-after g.K.Sink.write_gives c.from_residual-in_err-write_line.result _ _ _ c.in_ok-write_each.ensures.writes
    (Writes-stopped g.K.Sink.write_gives c.from_residual-in_err-write_line.result c.from_residual-in_err-write_line.ensures.0 _ _ (c.in_err-write_line.ensures.writes (lines-equal _ _ (c.as_slice.ensures.value ∙ c.in_ok-line.ensures) (pairs_lines c.args.count))))

pub returns-clause-writes : goal.returns-clause-writes
returns-clause-writes g c = Wrote-both g.K.Sink.write_gives _ _ _ c.in_ok-write_each.ensures.writes (c.in_ok-write_line.ensures.writes (lines-equal _ _ (c.as_slice.ensures.value ∙ c.in_ok-line.ensures) (pairs_lines c.args.count)))
