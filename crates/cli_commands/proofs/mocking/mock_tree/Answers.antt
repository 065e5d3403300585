use Rattle.base_tables.proofs.Runnable.{runnable}
use Rattle.cli_commands.proofs.mocking.mock_tree.Goals as goal

pub returns-clause-runnable : goal.returns-clause-runnable
returns-clause-runnable c = c.substitute.ensures.runnable (runnable c.args.tree.now c.requires.valid) c.in_ok-rules.ensures.fit
