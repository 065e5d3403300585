use Rattle.std.proofs.Common.{rules}
use Rattle.base_outside.proofs.Appends.{AppendedPrefix-taken}
use Rattle.base_outside.proofs.mem_sink.MemSinkSink.write.Goals as goal

pub returns-in_ok-write-in-Some-clause-prefix : goal.returns-in_ok-write-in-Some-clause-prefix
returns-in_ok-write-in-Some-clause-prefix c = AppendedPrefix-taken _ _ c.args.piece.now c.min-taken.result (search rules)
