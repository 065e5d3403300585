use Rattle.world_reader.proofs.AboutUnique.Alone.{one_world}
use Rattle.world_reader.proofs.unique.laws.worlds_read_one_way.Goals as goal

pub returns : goal.returns
returns c = one_world
