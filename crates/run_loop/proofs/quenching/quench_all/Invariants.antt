use Rattle.std.proofs.Common.{◌≡◌, ◌≤◌, ℤ, List, drop, length}
use Rattle.run_loop.specs.Runs.{RunnersFit, arenas_in, boards_in, leaves_of}
use Rattle.spec_run.specs.Served.{Setup}
use Rattle.run_loop.proofs.Quenched.{Quenching}
use Rattle.run_loop.proofs.quenching.quench_all.Given as goal

-- the runners before this one are quenched, and there is room for the notes of the others
abbrev pub invariant-loop-place : goal.invariant-loop-place
invariant-loop-place g l =
    ((of : Setup) (facts : List ℤ) → RunnersFit of.tree of.world facts (g.D.Drivers.states l.fn.drivers) l.fn.runners.items →
    Quenching of.tree of.world facts l.place (g.D.Drivers.states l.fn.drivers) (g.D.Drivers.states l.drivers) l.fn.runners.items l.runners.items l.fn.notes.list l.notes.list)
    × (leaves_of (drop l.place (arenas_in l.fn.runners.items)) ≤ l.notes.reserve)
    × (arenas_in l.runners.items ≡ arenas_in l.fn.runners.items)
    × (boards_in l.runners.items ≡ boards_in l.fn.runners.items)
    × (l.notes.full ≡ l.fn.notes.full)
    × (length l.runners.items ≡ length l.fn.runners.items)
