use Rattle.base_tables.proofs.Runnable.{runnable, runnable_world}
use Rattle.host_session.proofs.opening.open_world.Goals as goal

pub session_in-requires-clause-tree : goal.session_in-requires-clause-tree
session_in-requires-clause-tree c = runnable c.args.tree c.requires.tree

pub session_in-requires-clause-world : goal.session_in-requires-clause-world
session_in-requires-clause-world c = runnable_world c.in-Ok.world c.in-Ok.ensures.valid
