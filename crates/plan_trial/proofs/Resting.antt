-- After the finish of its only runner a modelled run holds nothing.
use Rattle.std.proofs.Common.{◌≡◌, List, Result, Ok, length, refl, arith}
use Rattle.base_texts.specs.declared.stop.Stop.{Stop}
use Rattle.spec_run.specs.declared.fault.RunFault.{RunFault}
use Rattle.spec_run.specs.Drivers.{DriverState, NothingHeld}
use Rattle.spec_run.specs.Run.{finish}
use Rattle.run_arena.specs.declared.block.Block.{Block}
use Rattle.run_loop.specs.declared.runs.Runs.{Runs}
use Rattle.run_loop.specs.Runs.{AreRuns, state_of_runs}
use Rattle.spec_run.specs.Served.{Setup}
use Rattle.run_loop.specs.Steps.{EventEnds}
use Rattle.text_trace.proofs.Rests.{rest_holds_nothing, rests_after}
use Rattle.spec_plan.specs.Modelled.{modelled}

pub finished_rests : (of : Setup) (runs new : Runs) (now after : List DriverState) (told : Block) (made : Result (Unit {0}) (Stop RunFault)) → AreRuns of.tree (modelled of.world) now runs → made ≡ Ok tt →
    EventEnds made of.tree.term now after new told (finish of.tree (modelled of.world) 1 (state_of_runs of.tree.term now runs)) → AreRuns of.tree (modelled of.world) after new → NothingHeld after
finished_rests of runs new now after told made old done ends are =
    rest_holds_nothing of.tree (modelled of.world) after new are 1 (let many : length new.runners.items ≡ 1 = are.fit.many in omega (arith, many))
    (rests_after of.tree (modelled of.world) 1 runs old (λ k r low at. absurd (omega (arith, low))) made new told after (finish of.tree (modelled of.world) 1 (state_of_runs of.tree.term now runs)) refl done ends)
