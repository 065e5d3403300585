use Rattle.std.proofs.Common.{◌++◌, Option, List, map, length}
use Rattle.std.specs.Prelude.{option_map}
use Rattle.spec_world.specs.declared.world.ToldOut.{ToldOut}
use Rattle.spec_world_file.specs.WorldFile.{ReadsTold}
use Rattle.world_lines.specs.Written.{seen_out}
use Rattle.world_lines.proofs.told.outs_in.Given as goal

abbrev pub invariant-outs : goal.invariant-outs
invariant-outs l = (o : Option (List ToldOut)) → ReadsTold l.rest o → ReadsTold l.fn.text (option_map (λ more. map seen_out l.outs.items ++ more) o)

abbrev pub decreases-outs : goal.decreases-outs
decreases-outs l = length l.rest
