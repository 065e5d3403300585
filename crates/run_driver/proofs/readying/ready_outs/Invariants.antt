use Rattle.std.proofs.Common.{◌≡◌, ◌+◌, ◌≤◌, length, map, take}
use Rattle.std.specs.List.{All}
use Rattle.spec_world.specs.declared.world.Out.{Out}
use Rattle.spec_run.specs.Leaf.{number_of, place_of}
use Rattle.run_driver.specs.declared.expression.ReadyExpr.{ReadyExpr}
use Rattle.run_driver.specs.Ready.{expr_reach, ready_number}
use Rattle.run_driver.proofs.readying.ready_outs.Given as goal

abbrev pub invariant-loop-out : goal.invariant-loop-out
invariant-loop-out l = record {
  numbers : map ready_number l.exprs.items ≡ map (λ (out : Out). number_of (place_of l.names.ports.now l.names.facts.now) out.expr) (take l.out-index l.outs);
  reach : All (λ (e : ReadyExpr). expr_reach e ≤ 8 + length l.names.facts.now) l.exprs.items;
}
