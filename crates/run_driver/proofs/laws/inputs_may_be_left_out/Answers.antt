use Rattle.run_driver.proofs.Padding.{padding_is_nothing}
use Rattle.run_driver.proofs.laws.inputs_may_be_left_out.Goals as goal

pub returns : goal.returns
returns c = padding_is_nothing
