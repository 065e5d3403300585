use Rattle.std.proofs.Common.{Ok, Err}
use Rattle.base_outside.proofs.Writings.{Writes-one, Writes-stopped}
use Rattle.text_lines.proofs.block.write_line.Goals as goal

pub returns-in_err-write-clause-writes : goal.returns-in_err-write-clause-writes
returns-in_err-write-clause-writes g c = λ lines. Writes-stopped g.K.Sink.write_gives c.from_residual.result c.from_residual.ensures.0 _ _ (Writes-one g.K.Sink.write_gives (Err _) _ _ _ lines c.in_err-write.ensures.gives)

pub returns-clause-writes : goal.returns-clause-writes
returns-clause-writes g c = λ lines. Writes-one g.K.Sink.write_gives (Ok tt) _ _ _ lines c.in_ok-write.ensures.gives
