use Rattle.std.proofs.Common.{arith}
use Rattle.run_loop.proofs.FewLeaves.{leaves_are_few}
use Rattle.run_loop.proofs.Rising.{roster_both}
use Rattle.spec_plan.specs.Modelled.{modelled}
use Rattle.plan_trial.proofs.Finishing.{finish_stopped, finished, ticks_stopped}
use Rattle.plan_trial.proofs.Resting.{finished_rests}
use Rattle.plan_trial.proofs.trying.make_run.Goals as goal

pub overflow_cast-count : goal.overflow_cast-count
overflow_cast-count g c =
    let r = c.requires.1 in
    omega (arith, c.leaves-count.ensures, leaves_are_few g.of.tree (modelled g.of.world) c.args.runs.facts _ c.args.runs.runners.items r.1.0 r.0.runnable r.1.1.0.are.fit)

pub returns-in_err-ticked-clause-ends : goal.returns-in_err-ticked-clause-ends
returns-in_err-ticked-clause-ends g c =
    ticks_stopped g.of c.args.task.now.pace c.args.runs (g.D.Drivers.states c.args.drivers.now) c.make_ticks.new.runs _ c.make_ticks.new.block c.make_ticks.ensures.arenas
    c.make_ticks.result c.from_residual-in_err-ticked.result c.in_err-ticked.field-0.0 c.in_err-ticked.was c.from_residual-in_err-ticked.ensures.1 c.make_ticks.ensures.ends

pub returns-in_err-run_finish-clause-ends : goal.returns-in_err-run_finish-clause-ends
returns-in_err-run_finish-clause-ends g c =
    finish_stopped g.of c.args.task.now.pace c.args.runs (g.D.Drivers.states c.args.drivers.now) c.make_ticks.new.runs _ c.make_ticks.new.block c.make_ticks.ensures.arenas
    c.in_ok-ticked.ticked c.in_ok-ticked.ensures.ends.0 c.in_ok-ticked.ensures.ends.1 c.run_finish.new.runs _ c.run_finish.new.block c.run_finish.ensures.arenas
    c.run_finish.result c.from_residual-in_err-run_finish.result c.in_err-run_finish.field-0.0 c.in_err-run_finish.was c.from_residual-in_err-run_finish.ensures.1 c.run_finish.ensures.step

pub returns-in_err-run_finish-clause-roster : goal.returns-in_err-run_finish-clause-roster
returns-in_err-run_finish-clause-roster g c = roster_both _ _ _ c.make_ticks.ensures.roster c.run_finish.ensures.roster

pub returns-clause-ends : goal.returns-clause-ends
returns-clause-ends g c =
    finished g.of c.args.task.now.pace c.args.runs (g.D.Drivers.states c.args.drivers.now) c.make_ticks.new.runs _ c.make_ticks.new.block c.make_ticks.ensures.arenas
    c.in_ok-ticked.ticked c.in_ok-ticked.ensures.ends.0 c.in_ok-ticked.ensures.ends.1 c.run_finish.new.runs _ c.run_finish.new.block c.run_finish.ensures.arenas c.in_ok-run_finish.ensures.step

pub returns-clause-none : goal.returns-clause-none
returns-clause-none g c =
    finished_rests g.of c.make_ticks.new.runs c.run_finish.new.runs _ _ c.run_finish.new.block c.run_finish.result c.in_ok-ticked.ensures.ends.1.run.are c.in_ok-run_finish.was c.run_finish.ensures.step c.in_ok-run_finish.ensures.runs

pub returns-clause-roster : goal.returns-clause-roster
returns-clause-roster g c = roster_both _ _ _ c.make_ticks.ensures.roster c.run_finish.ensures.roster
