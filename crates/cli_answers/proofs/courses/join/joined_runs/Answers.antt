use Rattle.std.proofs.Common.{Some, None}
use Rattle.std.proofs.lemmas.Result.{err_from_is_err_and}
use Rattle.base_tables.proofs.Runnable.{runnable_world}
use Rattle.cli_answers.proofs.AboutCourses.Runs.{leaves_lack, untold_lacks}
use Rattle.cli_answers.proofs.courses.join.joined_runs.Goals as goal

pub make_runs-requires-clause-world : goal.make_runs-requires-clause-world
make_runs-requires-clause-world g c = runnable_world c.args.world.now c.requires.1.1.1.1.1.0

pub tellings_fit-requires : goal.tellings_fit-requires
tellings_fit-requires g c =
    (rw c.requires.1.1.0 at (runnable_world c.args.world.now c.requires.1.1.1.1.1.0), (g.D.Drivers.states c.make_runs.new.drivers, rw (c.requires.1.0, c.requires.1.1.0) at c.in_ok-runs.ensures.begun.runs))

pub returns-in_err-runs-clause-fault : goal.returns-in_err-runs-clause-fault
returns-in_err-runs-clause-fault g c =
    let p = err_from_is_err_and c.from_residual.result c.from_residual.ensures.1 in
    rw (p.1, p.2) (leaves_lack g.of _ c.in_err-runs.field-0.0 (rw (c.requires.1.0, c.requires.1.1.0) at c.in_err-runs.ensures.fault))

pub returns-in-Ok-clause-fault : goal.returns-in-Ok-clause-fault
returns-in-Ok-clause-fault g c =
    untold_lacks g.of _ None (rw (c.requires.1.0, c.requires.1.1.0) at c.in_ok-runs.ensures.fault) (rw (c.list.ensures, c.requires.1.1.0) at c.in-Ok.ensures)

pub returns-in-Err-clause-fault : goal.returns-in-Err-clause-fault
returns-in-Err-clause-fault g c =
    untold_lacks g.of _ (Some c.in-Err.fault) (rw (c.requires.1.0, c.requires.1.1.0) at c.in_ok-runs.ensures.fault) (rw (c.list.ensures, c.requires.1.1.0) at c.in-Err.ensures)
