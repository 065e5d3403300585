-- The quench of one leaf, and of a runner.
use Rattle.std.specs.Prelude.{ℕ, List, [], ◌∷◌, is_some, if◌then◌else◌}
use Rattle.spec_run.specs.declared.leaf.Instance.{Instance}
use Rattle.spec_run.specs.declared.leaf.Phase.TheVariants as phase
use Rattle.spec_tree.specs.declared.term.Tree.{Tree}
use Rattle.spec_run.specs.Done.{Call}
use Rattle.spec_run.specs.Drivers.{DriverState}
use Rattle.spec_run.specs.Leaf.{released}
use Rattle.spec_run.specs.Run.{Runner, releases}
use Rattle.run_arena.specs.declared.nodes.Node.{Node}
use Rattle.run_arena.specs.Nodes.{leaf_at}
use Rattle.run_arena.specs.Rosters.{instances_of, leaf_instance}
use Rattle.run_arena.specs.Scenes.{Scene}
use Rattle.run_arena.specs.Stands.{memory_of}

-- the call of `halted` for an instance that is held
abbrev pub releases_one : ℕ → Instance → List Call
releases_one uid i = if is_some i.since then record { uid = uid; phase = phase.Halted; left = released i } ∷ [] else []

-- the call of `halted` for the leaf with this uid, where it is held
abbrev pub releases_at : List Node → ℕ → List DriverState → List Call
releases_at nodes uid drivers = releases_one uid (leaf_instance drivers (leaf_at nodes uid))

-- the calls of `halted` for all leaves of these nodes that are held, by uid
abbrev pub releases_in : List Node → List DriverState → List Call
releases_in nodes drivers = releases 0 (instances_of nodes drivers)

-- the runner of a tree whose arena this is
abbrev pub runner_in : Tree → List Node → Scene → Runner
runner_in tree nodes s = record { memory = memory_of tree.term 1 s.kept; board = s.board; instances = instances_of nodes s.drivers }
