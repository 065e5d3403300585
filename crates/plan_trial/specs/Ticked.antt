-- A modelled run on its way, as runs go.
use Rattle.std.specs.Prelude.{◌≡◌, ℕ, ◌+◌, ◌*◌, ◌≤◌, List, Some, Result, Ok, Err}
use Rattle.base_texts.specs.declared.stop.Stop.{Stop}
use Rattle.base_texts.specs.declared.stop.Stop.TheVariants as stop
use Rattle.spec_run.specs.declared.fault.RunFault.{RunFault}
use Rattle.spec_run.specs.Drivers.{DriverState}
use Rattle.spec_run.specs.Run.{RunnerCall}
use Rattle.run_arena.specs.declared.block.Block.{Block}
use Rattle.run_arena.specs.Blocks.{seen}
use Rattle.run_loop.specs.declared.runs.Runs.{Runs}
use Rattle.run_loop.specs.Runs.{AreRuns, arenas_of, roster_over, state_of_runs}
use Rattle.spec_run.specs.Served.{Setup}
use Rattle.text_trace.specs.Halted.{IsCut}
use Rattle.spec_plan.specs.declared.pace.Pace.{Pace}
use Rattle.plan_trial.specs.declared.ticking.Ticked.{Ticked}
use Rattle.spec_plan.specs.declared.verdict.Verdict.{Verdict}
use Rattle.spec_plan.specs.Modelled.{IsLast, modelled, modelled_run, next_tick, state_after, verdict_after}
use Rattle.plan_trial.specs.Ticking.{alone, calls_after}

-- the runs are the modelled run after so many ticks
pub record IsAfter (of : Setup) (period n : ℕ) (drivers : List DriverState) (runs : Runs) : Type 0 where
  pub are : AreRuns of.tree (modelled of.world) drivers runs
  pub state : state_of_runs of.tree.term drivers runs ≡ state_after of.tree of.world period n
  pub last : runs.last ≤ n * period

-- the tick after so many has decided so, and the drivers had these calls
pub record HasTicked (of : Setup) (period n : ℕ) (verdict : Verdict) (calls : List RunnerCall) (before after : List DriverState) (runs : Runs) (block : Block) : Type 0 where
  pub run : IsAfter of period (n + 1) after runs
  pub decided : verdict_after of.tree of.world period n ≡ Some verdict
  pub shown : seen block ≡ (next_tick of.tree of.world period n).block
  pub drivers : after ≡ roster_over (arenas_of runs) calls before

-- the tick after so many has faulted, and the drivers had these calls
pub record HasFaulted (of : Setup) (period n : ℕ) (fault : RunFault) (calls : List RunnerCall) (before after : List DriverState) (runs : Runs) : Type 0 where
  pub faulted : (next_tick of.tree of.world period n).fault ≡ Some fault
  pub drivers : after ≡ roster_over (arenas_of runs) calls before

-- how the tick after so many ends
abbrev pub TickEnds : Result Verdict (Stop RunFault) → Setup → ℕ → ℕ → List DriverState → List DriverState → Runs → Block → Type 0
TickEnds (Ok verdict) of period n before after runs block =
    HasTicked of period n verdict (next_tick of.tree of.world period n).calls before after runs block
TickEnds (Err (stop.Fault fault)) of period n before after runs block =
    HasFaulted of period n fault (next_tick of.tree of.world period n).calls before after runs
TickEnds (Err stop.NoMemory) of period n before after runs block = IsCut (arenas_of runs) before after (alone (next_tick of.tree of.world period n))

-- how the ticks of a run end
abbrev pub TicksEnd : Result Ticked (Stop RunFault) → Setup → Pace → List DriverState → List DriverState → Runs → Block → Type 0
TicksEnd (Ok t) of pace before after runs block =
    IsLast of.tree of.world pace t.before
    × HasTicked of pace.period t.before t.verdict (calls_after of.tree of.world pace.period (t.before + 1)) before after runs block
TicksEnd (Err (stop.Fault fault)) of pace before after runs block =
    (n : ℕ) × IsLast of.tree of.world pace n
    × HasFaulted of pace.period n fault (calls_after of.tree of.world pace.period (n + 1)) before after runs
TicksEnd (Err stop.NoMemory) of pace before after runs block =
    (n : ℕ) × IsLast of.tree of.world pace n × IsCut (arenas_of runs) before after (modelled_run of.tree of.world pace.period (n + 1))
