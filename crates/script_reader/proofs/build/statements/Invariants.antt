use Rattle.std.proofs.Common.{◌-◌, length}
use Rattle.script_reader.proofs.Statements.{Progress}
use Rattle.script_reader.proofs.build.statements.Given as goal

abbrev pub invariant-loop-at : goal.invariant-loop-at
invariant-loop-at l = Progress l.tokens l.stmts.items l.at

abbrev pub decreases-loop-at : goal.decreases-loop-at
decreases-loop-at l = length l.tokens - l.at
