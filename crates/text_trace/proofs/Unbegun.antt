-- Rounds of which none has begun.
use Rattle.std.proofs.Common.{ℕ, List, arith, refl}
use Rattle.spec_tree.specs.declared.term.Tree.{Tree}
use Rattle.spec_world.specs.declared.world.World.{World}
use Rattle.spec_run.specs.Run.{RunState}
use Rattle.spec_output.specs.Rounds.{CanBegin}

pub none_begin : (tree : Tree) (world : World) (last : ℕ) (moments : List ℕ) (s : RunState) → CanBegin tree world last moments s 0
none_begin tree world last moments s = record { within = omega arith; before = refl }
