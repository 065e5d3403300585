-- A modelled run, tick by tick.
use Rattle.std.specs.Prelude.{ℕ, zero, suc, List, [], ◌∷◌, ◌++◌}
use Rattle.spec_tree.specs.declared.term.Tree.{Tree}
use Rattle.spec_world.specs.declared.world.World.{World}
use Rattle.spec_run.specs.Run.{RunnerCall, Stepped, Trace}
use Rattle.spec_plan.specs.Modelled.{next_tick}

-- the calls of drivers in the first ticks
abbrev pub calls_after : Tree → World → ℕ → ℕ → List RunnerCall
calls_after tree world period zero = []
calls_after tree world period (suc n) = calls_after tree world period n ++ (next_tick tree world period n).calls

-- one event as a whole trace
abbrev pub alone : Stepped → Trace
alone d = record { blocks = d.block ∷ []; calls = d.calls; state = d.state; fault = d.fault }
