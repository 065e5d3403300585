use Rattle.std.proofs.Common.{◌≡◌, take, reverse, Some}
use Rattle.spec_script.specs.Reading.{bare}
use Rattle.spec_script.specs.Spots.{run}
use Rattle.script_reader.proofs.check.check.Given as goal

abbrev pub invariant-loop-placed : goal.invariant-loop-placed
invariant-loop-placed l = run (bare (take l.placed-index l.tokens)) (l.fn.start, reverse l.fn.opened.items) ≡ Some (l.stage, reverse l.opened.items)
