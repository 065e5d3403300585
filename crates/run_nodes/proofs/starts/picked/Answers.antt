use Rattle.std.proofs.Common.{ap, ◌∙◌}
use Rattle.spec_run.specs.Visit.{or_bad_port}
use Rattle.run_nodes.proofs.starts.picked.Goals as goal

pub returns : goal.returns
returns g c = λ term view whole s k. c.or_bad_port.ensures ∙ ap (or_bad_port c.args.uid) (c.pick.ensures term view whole c.args.uid s k)
