use Rattle.std.proofs.Common.{arith}
use Rattle.std.proofs.lemmas.List.{map-set, get_or-map}
use Rattle.std.proofs.lemmas.Grind.{common_steps}
use Rattle.run_driver.proofs.roster.keep_at.Goals as goal

pub returns : goal.returns
returns g c = rw map-set (grind (arith, common_steps, get_or-map))
