use Rattle.std.proofs.Common.{Ok, Err, arith}
use Rattle.base_outside.proofs.Writings.{Writes-after, Writes-one, Writes-stopped, Wrote-both}
use Rattle.world_ground.proofs.FirstLines.{next_whole}
use Rattle.world_ground.proofs.Writings.{cut_at, next_underway, stopped}
use Rattle.world_ground.proofs.write.write_ground.Goals as goal

pub returns-in_err-write-clause-prefix : goal.returns-in_err-write-clause-prefix
returns-in_err-write-clause-prefix g c =
    stopped c.args.g.now.text c.lines.rest.now c.split_at.result.0.now c.split_at.result.1.now _ _ _
    (cut_at c.line_len.result c.lines.rest.now c.split_at.result.0.now c.split_at.result.1.now c.split_at.ensures.front c.split_at.ensures.back)
    c.lines.invariant.underway c.in_err-write.ensures.prefix

pub returns-in_err-write-clause-writes : goal.returns-in_err-write-clause-writes
returns-in_err-write-clause-writes g c = λ lines.
    let before = c.lines.invariant.writes lines in
    let next = next_whole c.lines.rest.now c.line_len.result c.split_at.result.0.now c.split_at.result.1.now (grind (arith, c.is_empty.ensures, c.lines-test.true)) c.line_len.ensures c.split_at.ensures.front c.split_at.ensures.back before.1 in
    Writes-after g.K.Sink.write_gives c.from_residual.result _ _ _ before.0
    (Writes-stopped g.K.Sink.write_gives c.from_residual.result c.from_residual.ensures.0 _ _ (Writes-one g.K.Sink.write_gives (Err _) _ _ _ next.0 c.in_err-write.ensures.gives))

pub lines-preserved : goal.lines-preserved
lines-preserved g c =
    record {
      underway = next_underway c.args.g.now.text c.lines.rest.now c.split_at.result.0.now c.split_at.result.1.now _ _ _
          (cut_at c.line_len.result c.lines.rest.now c.split_at.result.0.now c.split_at.result.1.now c.split_at.ensures.front c.split_at.ensures.back)
          c.lines.invariant.underway c.in_ok-write.ensures.whole;
      count = omega arith;
      writes = λ lines.
          let before = c.lines.invariant.writes lines in
          let next = next_whole c.lines.rest.now c.line_len.result c.split_at.result.0.now c.split_at.result.1.now (grind (arith, c.is_empty.ensures, c.lines-test.true)) c.line_len.ensures c.split_at.ensures.front c.split_at.ensures.back before.1 in
          (Wrote-both g.K.Sink.write_gives _ _ _ before.0 (Writes-one g.K.Sink.write_gives (Ok tt) _ _ _ next.0 c.in_ok-write.ensures.gives), next.1);
    }
