use Rattle.world_reader.proofs.AboutUnique.Validity.{valid_world}
use Rattle.world_reader.proofs.unique.laws.read_worlds_are_valid.Goals as goal

pub returns : goal.returns
returns c = valid_world
