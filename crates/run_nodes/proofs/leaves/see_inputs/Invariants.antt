use Rattle.std.proofs.Common.{◌≡◌, ◌-◌, ◌++◌, take}
use Rattle.std.specs.Prelude.{replicate}
use Rattle.spec_script.specs.declared.cells.Seen.TheVariants.{Absent}
use Rattle.run_nodes.specs.Calls.{seen_inputs}
use Rattle.run_nodes.proofs.leaves.see_inputs.Given as goal

abbrev pub invariant-loop-place : goal.invariant-loop-place
invariant-loop-place g l = l.inputs ≡ seen_inputs l.board (take l.place l.sources) ++ replicate (8 - l.place) Absent
