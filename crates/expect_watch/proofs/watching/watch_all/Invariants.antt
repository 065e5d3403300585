use Rattle.std.proofs.Common.{length, take}
use Rattle.expect_watch.specs.Begun.{AreBegun}
use Rattle.expect_watch.specs.Valid.{AreFit}
use Rattle.expect_watch.proofs.watching.watch_all.Given as goal

abbrev pub invariant-loop-one : goal.invariant-loop-one
invariant-loop-one l = record {
  begun : AreBegun l.names l.facts (take (length l.yielded) l.fn.expected) l.watched.items;
  fit : AreFit (length l.facts) l.watched.items;
}
