use Rattle.std.proofs.Common.{◌≡◌, length}
use Rattle.base_tables.specs.DriverCalls.{kind_of_way}
use Rattle.run_driver.specs.Rules.{rule}
use Rattle.test_leaves.specs.Stages.{IsAtWork}
use Rattle.test_leaves.proofs.leaves.answers_text.Given as goal

-- the row can be tried with the roster
abbrev pub invariant-loop-call : goal.invariant-loop-call
invariant-loop-call g l =
    (goal.iterator-loop-call g).can_next l.call-iterator
    × (goal.iterator-loop-call g).is_finite l.call-iterator
    × IsAtWork (g.D.Drivers.states l.drivers) l.stage.place (kind_of_way (rule l.stage.row).way) l.stage.since.items
    × (length l.stage.facts ≡ l.stage.row.facts)
