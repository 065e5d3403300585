use Rattle.run_arena.proofs.Prepared.{numbered_are_served}
use Rattle.run_arena.proofs.laws.numbered_leaves_are_served.Goals as goal

pub returns : goal.returns
returns c = numbered_are_served
