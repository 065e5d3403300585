use Rattle.std.proofs.Common.{◌≡◌, drop}
use Rattle.base_outside.specs.MemSink.{takes_at}
use Rattle.base_outside.proofs.mem_sink.takes.Given as goal

abbrev pub invariant-loop-number : goal.invariant-loop-number
invariant-loop-number l = takes_at (drop l.number-index l.fails) l.call ≡ takes_at l.fails l.call
