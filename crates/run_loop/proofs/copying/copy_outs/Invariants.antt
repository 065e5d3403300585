use Rattle.std.proofs.Common.{◌≡◌, ◌++◌, drop}
use Rattle.run_loop.proofs.copying.copy_outs.Given as goal

-- the copies so far, followed by those still to come, are all
abbrev pub invariant-loop-out : goal.invariant-loop-out
invariant-loop-out l = l.copied.items ++ drop l.out-index l.outs ≡ l.outs
