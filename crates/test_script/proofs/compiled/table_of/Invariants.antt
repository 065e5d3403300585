use Rattle.std.proofs.Common.{◌≡◌, length}
use Rattle.test_script.proofs.compiled.table_of.Given as goal

abbrev pub invariant-loop-name : goal.invariant-loop-name
invariant-loop-name l = length l.table.items ≡ l.name-index
