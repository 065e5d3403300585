use Rattle.std.proofs.Common.{◌≡◌, ◌++◌, drop}
use Rattle.host_library.proofs.events.copy_outs.Given as goal

-- the copies so far, and behind them what is still to be copied
abbrev pub invariant-loop-out : goal.invariant-loop-out
invariant-loop-out l = l.copies.items ++ drop l.out-index l.outs ≡ l.outs
