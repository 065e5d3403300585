use Rattle.std.proofs.Common.{◌≡◌, [], drop, length, map}
use Rattle.spec_run.specs.Leaf.{outputs_of}
use Rattle.run_driver.specs.Ready.{ready_number}
use Rattle.run_driver.proofs.Outputs.{following}
use Rattle.run_driver.proofs.row.ReadyRow.outputs.Given as goal

-- the numbers so far, and those still to come
abbrev pub invariant-loop-e : goal.invariant-loop-e
invariant-loop-e l = record {
  left : following l.outs.numbers (outputs_of (map ready_number (drop l.e-index l.e-items)) l.inputs l.facts) ≡ outputs_of (map ready_number l.e-items) l.inputs l.facts;
  made : length l.outs.numbers ≡ l.e-index;
  untold : l.outs.told ≡ [];
}
