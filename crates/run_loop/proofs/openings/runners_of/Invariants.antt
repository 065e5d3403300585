use Rattle.std.proofs.Common.{◌≡◌, None, length}
use Rattle.spec_tree.specs.Terms.{leaf_ids}
use Rattle.spec_run.specs.Joins.{first_missing}
use Rattle.run_loop.specs.Opening.{AreOpening}
use Rattle.run_loop.proofs.openings.runners_of.Given as goal

-- this many runners are made, and nothing is missing
abbrev pub invariant-loop-before : goal.invariant-loop-before
invariant-loop-before g l = record {
  many : length l.runners.items ≡ l.before;
  runners : AreOpening l.tree l.world (g.D.Drivers.states l.drivers) l.runners.items;
  joined : first_missing l.world.rows (g.D.Drivers.states l.drivers) (leaf_ids l.tree.term) ≡ None;
}
