use Rattle.std.proofs.Common.{◌≡◌, drop, length}
use Rattle.spec_expect.specs.Stories.{changed}
use Rattle.expect_watch.proofs.facts.change.Given as goal

abbrev pub invariant-loop-fact : goal.invariant-loop-fact
invariant-loop-fact l = record {
  changed : changed (drop l.fact-index l.changes) l.facts ≡ changed l.changes l.initial.facts;
  length : length l.facts ≡ length l.initial.facts;
}
