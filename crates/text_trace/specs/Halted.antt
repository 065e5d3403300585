-- Calls of a run that was cut off.
use Rattle.std.specs.Prelude.{◌≡◌, List, ◌++◌}
use Rattle.spec_run.specs.Drivers.{DriverState}
use Rattle.spec_run.specs.Run.{RunnerCall, Trace}
use Rattle.run_arena.specs.declared.nodes.Node.{Node}
use Rattle.run_loop.specs.Runs.{roster_over}
use Rattle.spec_output.specs.Cuts.{AreHalts}

-- the drivers had such calls alone
pub record HaveHalted (arenas : List (List Node)) (before after : List DriverState) : Type 0 where
  pub halts : List RunnerCall
  pub are : AreHalts halts
  pub drivers : after ≡ roster_over arenas halts before

-- the drivers had the first calls of a trace, and then such calls alone
pub record IsCut (arenas : List (List Node)) (before after : List DriverState) (trace : Trace) : Type 0 where
  pub made : List RunnerCall
  pub unmade : List RunnerCall
  pub halts : List RunnerCall
  pub all : made ++ unmade ≡ trace.calls
  pub are : AreHalts halts
  pub drivers : after ≡ roster_over arenas (made ++ halts) before
