use Rattle.run_driver.proofs.Runnable.{can_be_ready}
use Rattle.run_driver.proofs.laws.rows_can_be_ready.Goals as goal

pub returns : goal.returns
returns c = can_be_ready
