use Rattle.script_reader.specs.Climb.{whole_expr}
use Rattle.script_reader.proofs.build.expression.Goals as goal

pub returns : goal.returns
unfolding whole_expr
returns c = c.climb.ensures
