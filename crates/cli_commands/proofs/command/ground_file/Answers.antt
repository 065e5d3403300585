use Rattle.std.proofs.lemmas.Result.{err_from_is_err_and}
use Rattle.cli_commands.proofs.Grounds.{ground_stopped, ground_written}
use Rattle.std.proofs.Common.{refl}
use Rattle.cli_refusals.proofs.Writings.{end_refused}
use Rattle.cli_commands.proofs.GroundLines.{ground_lines}
use Rattle.cli_commands.proofs.command.ground_file.Goals as goal

pub returns-in_err-ground-clause-ends : goal.returns-in_err-ground-clause-ends
returns-in_err-ground-clause-ends g c =
    let p = err_from_is_err_and c.from_residual.result c.from_residual.ensures.1 in
    rw (p.1, p.2) (ground_stopped c.args.bytes.now c.requires.bytes c.in_err-ground.field-0.0 _ c.in_err-ground.ensures)

pub returns-clause-ends : goal.returns-clause-ends
returns-clause-ends g c = ground_written c.args.bytes.now c.requires.bytes _ _ _ _ _ c.in_ok-ground.ensures c.print_ground.ensures.printed

pub returns-in_err-ground-clause-writes : goal.returns-in_err-ground-clause-writes
returns-in_err-ground-clause-writes g c = end_refused g.K.Sink.write_gives c.from_residual.result _ _ c.from_residual.ensures.0 refl

pub returns-clause-writes : goal.returns-clause-writes
returns-clause-writes g c = c.print_ground.ensures.writes (ground_lines c.args.bytes.now _ c.in_ok-ground.ensures)
