-- A whole modelled run, as it ends.
use Rattle.std.specs.Prelude.{◌≡◌, ◌⊎◌, ℕ, ◌+◌, List, Option, Some, None, Result, Ok, Err}
use Rattle.base_texts.specs.declared.stop.Stop.{Stop}
use Rattle.base_texts.specs.declared.stop.Stop.TheVariants as stop
use Rattle.spec_run.specs.declared.fault.RunFault.{RunFault}
use Rattle.spec_run.specs.Drivers.{DriverState}
use Rattle.spec_run.specs.Run.{RunnerCall}
use Rattle.run_arena.specs.Blocks.{seen}
use Rattle.run_loop.specs.Begun.{HaveSameTotals}
use Rattle.spec_run.specs.Served.{Setup}
use Rattle.spec_output.specs.Cuts.{HaveBegunWithin}
use Rattle.spec_plan.specs.declared.pace.Pace.{Pace}
use Rattle.plan_trial.specs.declared.trying.Tried.{Tried}
use Rattle.spec_plan.specs.Modelled.{IsLast, modelled_run, next_tick, verdict_after}

-- A whole modelled run, by how many ticks come before its last one: its fault, and the drivers after its calls.
pub record IsRun (of : Setup) (pace : Pace) (n : ℕ) (fault : Option RunFault) (called : List RunnerCall → List DriverState) (after : List DriverState) : Type 0 where
  pub last : IsLast of.tree of.world pace n
  pub ends : (modelled_run of.tree of.world pace.period (n + 1)).fault ≡ fault
  pub drivers : after ≡ called (modelled_run of.tree of.world pace.period (n + 1)).calls

-- How a modelled run ends, by what calls leave of the drivers. Memory may be wanting before the first tick, or later.
abbrev pub RunEnds : Result Tried (Stop RunFault) → Setup → Pace → (List RunnerCall → List DriverState) → List DriverState → List DriverState → Type 0
RunEnds (Ok t) of pace called before after =
    IsRun of pace t.before None called after
    × (verdict_after of.tree of.world pace.period t.before ≡ Some t.verdict)
    × (seen t.blocks.ticked ≡ (next_tick of.tree of.world pace.period t.before).block)
RunEnds (Err (stop.Fault fault)) of pace called before after = (n : ℕ) × IsRun of pace n (Some fault) called after
RunEnds (Err stop.NoMemory) of pace called before after =
    HaveSameTotals before after
    ⊎ ((n : ℕ) × IsLast of.tree of.world pace n × HaveBegunWithin before after (called (modelled_run of.tree of.world pace.period (n + 1)).calls))
