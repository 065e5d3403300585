use Rattle.std.proofs.Common.{◌≡◌, ◌+◌, ◌<◌, ◌≤◌, ◌++◌, ℕ, map, length, drop}
use Rattle.spec_run.specs.Drivers.{is_held}
use Rattle.spec_run.specs.Leaf.{let_go}
use Rattle.spec_run.specs.Run.{releases, quenched_notes}
use Rattle.run_arena.specs.Nodes.{at_rest, kept_at}
use Rattle.run_arena.specs.Rosters.{AreServed, instances_of, leaves_in, roster_after}
use Rattle.run_arena.specs.Scenes.{marks_of}
use Rattle.run_nodes.proofs.AboutHalting.Leaving.{calls_left}
use Rattle.run_nodes.proofs.halting.quenching.quench_nodes.Given as goal

-- the leaves halted so far, followed by those still to come, are all
abbrev pub invariant-loop-uid : goal.invariant-loop-uid
invariant-loop-uid g l = record {
  rest : (p : ℕ) → p < l.uid → kept_at l.kept p ≡ at_rest;
  marks : marks_of l.kept ≡ map is_held (instances_of l.nodes (g.D.Drivers.states l.drivers));
  leaves : AreServed (g.D.Drivers.states l.drivers) l.nodes;
  drivers : roster_after l.nodes (calls_left l.nodes l.uid (g.D.Drivers.states l.drivers)) (g.D.Drivers.states l.drivers) ≡ roster_after l.nodes (releases 0 (instances_of l.nodes (g.D.Drivers.states l.fn.drivers))) (g.D.Drivers.states l.fn.drivers);
  instances : map let_go (instances_of l.nodes (g.D.Drivers.states l.drivers)) ≡ map let_go (instances_of l.nodes (g.D.Drivers.states l.fn.drivers));
  notes : l.notes.list ++ quenched_notes l.runner (calls_left l.nodes l.uid (g.D.Drivers.states l.drivers)) ≡ l.fn.notes.list ++ quenched_notes l.runner (releases 0 (instances_of l.nodes (g.D.Drivers.states l.fn.drivers)));
  reserve : l.notes.reserve + length (releases 0 (instances_of l.nodes (g.D.Drivers.states l.fn.drivers))) ≡ l.fn.notes.reserve + length (calls_left l.nodes l.uid (g.D.Drivers.states l.drivers));
  room : leaves_in (drop l.uid l.nodes) ≤ l.notes.reserve;
  full : l.notes.full ≡ l.fn.notes.full;
}
