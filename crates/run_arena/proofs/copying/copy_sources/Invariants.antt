use Rattle.std.proofs.Common.{◌≡◌, ◌++◌, drop}
use Rattle.run_arena.proofs.copying.copy_sources.Given as goal

-- the sources so far, followed by those still to come, are all
abbrev pub invariant-loop-source : goal.invariant-loop-source
invariant-loop-source l = l.copied.items ++ drop l.source-index l.sources ≡ l.sources
