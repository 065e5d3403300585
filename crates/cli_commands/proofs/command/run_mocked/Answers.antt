use Rattle.cli_commands.proofs.Files.{mocked_ran, rules_stopped}
use Rattle.cli_commands.proofs.command.run_mocked.Goals as goal

pub returns-in-Ok-clause-ends : goal.returns-in-Ok-clause-ends
returns-in-Ok-clause-ends g c = mocked_ran c.args.rules.now c.args.tree c.args.world.now _ _ _ _ c.in-Ok.ensures.mocked c.join_and_run-ended.ensures.ends

pub returns-in-Err-clause-ends : goal.returns-in-Err-clause-ends
returns-in-Err-clause-ends g c = rw c.from.ensures (rules_stopped c.args.rules.now c.args.tree c.args.world.now c.in-Err.stopped _ c.in-Err.ensures.mocked)
