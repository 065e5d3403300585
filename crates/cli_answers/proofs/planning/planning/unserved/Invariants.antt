use Rattle.std.proofs.Common.{◌≡◌, drop}
use Rattle.spec_program.specs.PlanOutputs.{first_unserved}
use Rattle.cli_answers.proofs.planning.planning.unserved.Given as goal

-- what the rows still to come lack is what all lack
abbrev pub invariant-loop-row : goal.invariant-loop-row
invariant-loop-row g l = first_unserved (g.D.Drivers.states l.drivers) (drop l.row-index l.rows) ≡ first_unserved (g.D.Drivers.states l.drivers) l.rows
