use Rattle.run_arena.proofs.Framed.{framed, memory_at_place, memory_set, rested}
use Rattle.run_arena.proofs.laws.memories_are_of_their_nodes.Goals as goal

pub returns : goal.returns
returns c = record { own = framed; place = memory_at_place; change = memory_set; rest = rested }
