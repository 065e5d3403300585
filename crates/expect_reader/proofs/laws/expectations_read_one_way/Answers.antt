use Rattle.expect_reader.proofs.OneReading.{one_reading}
use Rattle.expect_reader.proofs.laws.expectations_read_one_way.Goals as goal

pub returns : goal.returns
returns c = one_reading
