use Rattle.std.proofs.Common.{◌<◌, ◌∙◌, arith, length}
use Rattle.tree_build.specs.Seen.{ids_seen}
use Rattle.text_lines.proofs.Lines.{Appended-map_more, AppendedPrefix-map_next, AppendedPrefix-map_some, alone}
use Rattle.spec_program.specs.Printed.{dead_line}
use Rattle.base_outside.proofs.Appends.{Appended-nil}
use Rattle.base_outside.proofs.Writings.{Writes-after, Writes-lines, Writes-stopped, Wrote-both, Wrote-none, lines-equal}
use Rattle.cli_answers.proofs.LineEnds.{dead_lines}
use Rattle.cli_answers.proofs.printing.dead_nodes.write_each.Goals as goal

pub returns-in_err-put_dead-clause-prefix : goal.returns-in_err-put_dead-clause-prefix
returns-in_err-put_dead-clause-prefix g c =
    AppendedPrefix-map_some (dead_line (ids_seen c.args.ids.now)) c.args.uids.now c.loop-uid.uid-index _ _ c.loop-uid.invariant.text

pub returns-in_err-write_line-clause-prefix : goal.returns-in_err-write_line-clause-prefix
returns-in_err-write_line-clause-prefix g c =
    let within : c.loop-uid.uid-index < length c.args.uids.now = omega arith in
    let front = rw (c.as_slice.ensures.value ∙ alone _ c.clear.ensures.items c.in_ok-put_dead.ensures) at c.in_err-write_line.ensures.prefix in
    AppendedPrefix-map_next (dead_line (ids_seen c.args.ids.now)) c.args.uids.now c.loop-uid.uid-index _ _ _ _ within
    c.loop-uid.invariant.text front

pub loop-uid-preserved : goal.loop-uid-preserved
loop-uid-preserved g c =
    let within : c.loop-uid.uid-index < length c.args.uids.now = omega arith in
    let whole = rw (c.as_slice.ensures.value ∙ alone _ c.clear.ensures.items c.in_ok-put_dead.ensures) at c.in_ok-write_line.ensures.whole in
    record {
      text = Appended-map_more (dead_line (ids_seen c.args.ids.now)) c.args.uids.now c.loop-uid.uid-index _ _ _ _ within
          c.loop-uid.invariant.text whole;
      count = omega arith;
      writes = Wrote-both g.K.Sink.write_gives _ _ _ c.loop-uid.invariant.writes (c.in_ok-write_line.ensures.writes (lines-equal _ _ (c.as_slice.ensures.value ∙ alone _ c.clear.ensures.items c.in_ok-put_dead.ensures) (dead_lines (ids_seen c.args.ids.now) _)));
    }

pub loop-uid-init : goal.loop-uid-init
loop-uid-init g c = record { text = Appended-nil _; count = omega arith; writes = Wrote-none g.K.Sink.write_gives _ }

pub returns-in_err-put_dead-clause-writes : goal.returns-in_err-put_dead-clause-writes
returns-in_err-put_dead-clause-writes g c = Writes-lines g.K.Sink.write_gives c.from_residual.result _ _ c.loop-uid.invariant.writes

pub returns-in_err-write_line-clause-writes : goal.returns-in_err-write_line-clause-writes
returns-in_err-write_line-clause-writes g c =
    let lines = lines-equal _ _ (c.as_slice.ensures.value ∙ alone _ c.clear.ensures.items c.in_ok-put_dead.ensures) (dead_lines (ids_seen c.args.ids.now) _) in
    Writes-after g.K.Sink.write_gives c.from_residual-in_err-write_line.result _ _ _ c.loop-uid.invariant.writes
    (Writes-stopped g.K.Sink.write_gives c.from_residual-in_err-write_line.result c.from_residual-in_err-write_line.ensures.0 _ _ (c.in_err-write_line.ensures.writes lines))
