use Rattle.std.proofs.Common.{◌≡◌, codes, length, sym, subst, arith}
use Rattle.spec_outside.specs.Appending.{Appended}
use Rattle.spec_program.specs.Output.{Output}
use Rattle.base_outside.proofs.Writings.{Writes-stopped}
use Rattle.cli_refusals.proofs.Writings.{refused_lines}
use Rattle.cli_answers.proofs.Pairs.{none_found}
use Rattle.cli_answers.proofs.printing.exclusive.write_found.Goals as goal

pub returns-then-found-eq0-clause-whole : goal.returns-then-found-eq0-clause-whole
returns-then-found-eq0-clause-whole g c = λ pairs is.
    let none : length pairs ≡ 0 = omega (arith, is.count, c.if-found-eq0.true) in
    subst (λ (o : Output). Appended (g.K.Sink.written c.args.out.now) (g.K.Sink.written c.write_line.new.out) o.bytes) (sym (none_found pairs none)) c.in_ok-write_line.ensures.whole

pub returns-in_err-write_line-clause-writes : goal.returns-in_err-write_line-clause-writes
returns-in_err-write_line-clause-writes g c = Writes-stopped g.K.Sink.write_gives c.from_residual.result c.from_residual.ensures.0 _ _ (c.in_err-write_line.ensures.writes (refused_lines (codes "exclusive")))

pub returns-then-found-eq0-clause-writes : goal.returns-then-found-eq0-clause-writes
returns-then-found-eq0-clause-writes g c = c.in_ok-write_line.ensures.writes (refused_lines (codes "exclusive"))

pub returns-in_err-write_pairs-clause-writes : goal.returns-in_err-write_pairs-clause-writes
returns-in_err-write_pairs-clause-writes g c = Writes-stopped g.K.Sink.write_gives c.from_residual-in_err-write_pairs.result c.from_residual-in_err-write_pairs.ensures.0 _ _ c.in_err-write_pairs.ensures.writes
