use Rattle.base_tables.proofs.Runnable.{runnable_world}
use Rattle.cli_serve.proofs.Opening.{no_events}
use Rattle.cli_serve.proofs.files.world_of_file.Goals as goal

pub returns-clause-runnable : goal.returns-clause-runnable
returns-clause-runnable c = runnable_world c.in_ok-read_script.field-0.0 c.in_ok-read_script.ensures.valid

pub returns-clause-events : goal.returns-clause-events
returns-clause-events c = no_events c.args.bytes.now c.in_ok-read_script.field-0 c.in_ok-read_script.ensures.reads
