use Rattle.std.proofs.Common.{◌<◌, ◌∙◌, arith, length}
use Rattle.text_lines.proofs.Lines.{Appended-map_more, AppendedPrefix-map_next, AppendedPrefix-map_some, alone}
use Rattle.spec_program.specs.Exclusives.{pair_line}
use Rattle.base_outside.proofs.Appends.{Appended-nil}
use Rattle.base_outside.proofs.Writings.{Writes-after, Writes-lines, Writes-stopped, Wrote-both, Wrote-none, lines-equal}
use Rattle.cli_answers.proofs.LineEnds.{pair_lines}
use Rattle.cli_answers.proofs.printing.exclusive.write_each.Goals as goal

pub returns-in_err-put_pair-clause-prefix : goal.returns-in_err-put_pair-clause-prefix
returns-in_err-put_pair-clause-prefix g c =
    AppendedPrefix-map_some pair_line c.args.pairs.now c.loop-pair.pair-index _ _ c.loop-pair.invariant.text

pub returns-in_err-write_line-clause-prefix : goal.returns-in_err-write_line-clause-prefix
returns-in_err-write_line-clause-prefix g c =
    let within : c.loop-pair.pair-index < length c.args.pairs.now = omega arith in
    let front = rw (c.as_slice.ensures.value ∙ alone _ c.clear.ensures.items c.in_ok-put_pair.ensures) at c.in_err-write_line.ensures.prefix in
    AppendedPrefix-map_next pair_line c.args.pairs.now c.loop-pair.pair-index _ _ _ _ within
    c.loop-pair.invariant.text front

pub loop-pair-preserved : goal.loop-pair-preserved
loop-pair-preserved g c =
    let within : c.loop-pair.pair-index < length c.args.pairs.now = omega arith in
    let whole = rw (c.as_slice.ensures.value ∙ alone _ c.clear.ensures.items c.in_ok-put_pair.ensures) at c.in_ok-write_line.ensures.whole in
    record {
      text = Appended-map_more pair_line c.args.pairs.now c.loop-pair.pair-index _ _ _ _ within
          c.loop-pair.invariant.text whole;
      count = omega arith;
      writes = Wrote-both g.K.Sink.write_gives _ _ _ c.loop-pair.invariant.writes (c.in_ok-write_line.ensures.writes (lines-equal _ _ (c.as_slice.ensures.value ∙ alone _ c.clear.ensures.items c.in_ok-put_pair.ensures) (pair_lines _)));
    }

pub loop-pair-init : goal.loop-pair-init
loop-pair-init g c = record { text = Appended-nil _; count = omega arith; writes = Wrote-none g.K.Sink.write_gives _ }

pub returns-in_err-put_pair-clause-writes : goal.returns-in_err-put_pair-clause-writes
returns-in_err-put_pair-clause-writes g c = Writes-lines g.K.Sink.write_gives c.from_residual.result _ _ c.loop-pair.invariant.writes

pub returns-in_err-write_line-clause-writes : goal.returns-in_err-write_line-clause-writes
returns-in_err-write_line-clause-writes g c =
    let lines = lines-equal _ _ (c.as_slice.ensures.value ∙ alone _ c.clear.ensures.items c.in_ok-put_pair.ensures) (pair_lines _) in
    Writes-after g.K.Sink.write_gives c.from_residual-in_err-write_line.result _ _ _ c.loop-pair.invariant.writes
    (Writes-stopped g.K.Sink.write_gives c.from_residual-in_err-write_line.result c.from_residual-in_err-write_line.ensures.0 _ _ (c.in_err-write_line.ensures.writes lines))
