use Rattle.std.proofs.lemmas.Result.{err_from_is_err_and}
use Rattle.cli_commands.proofs.Plans.{script_parsed, script_stopped}
use Rattle.std.proofs.Common.{refl}
use Rattle.cli_refusals.proofs.Writings.{end_refused}
use Rattle.cli_commands.proofs.command.plan_file.Goals as goal

pub returns-in_err-world-clause-ends : goal.returns-in_err-world-clause-ends
returns-in_err-world-clause-ends g c =
    let p = err_from_is_err_and c.from_residual.result c.from_residual.ensures.1 in
    rw (p.1, p.2) (script_stopped c.args.limits.now c.args.world.now c.requires.world c.in_err-world.field-0.0 _ c.in_err-world.ensures.reads)

pub returns-clause-ends : goal.returns-clause-ends
returns-clause-ends g c =
    script_parsed c.args.limits.now c.args.world.now c.requires.world _ _ _ _ c.in_ok-world.ensures.reads c.plan_and_print-ended.ensures.ends

pub returns-in_err-world-clause-writes : goal.returns-in_err-world-clause-writes
returns-in_err-world-clause-writes g c = end_refused g.K.Sink.write_gives c.from_residual.result _ _ c.from_residual.ensures.0 refl
