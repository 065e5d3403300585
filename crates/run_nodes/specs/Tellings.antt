-- A leaf that is told what it answers.
use Rattle.std.specs.Prelude.{◌≡◌, ℕ, List, Some, slice_index_or}
use Rattle.spec_run.specs.declared.leaf.DriverKind.TheVariants as driver
use Rattle.spec_world.specs.declared.world.Telling.{Telling}
use Rattle.spec_run.specs.Done.{Call}
use Rattle.spec_run.specs.Drivers.{DriverState}
use Rattle.spec_run.specs.Leaf.{fresh}
use Rattle.spec_run.specs.Run.{tell_call}
use Rattle.base_tables.specs.DriverCalls.{kind_of_way}
use Rattle.run_driver.specs.Rules.{rule}
use Rattle.run_arena.specs.declared.nodes.Node.{Node}
use Rattle.run_arena.specs.declared.nodes.ReadyLeaf.{ReadyLeaf}
use Rattle.run_arena.specs.Nodes.{leaf_at}
use Rattle.run_arena.specs.Rosters.{instances_of}

-- the leaf with this uid follows a row whose leaves are told what they answer
pub record CanBeTold (nodes : List Node) (uid : ℕ) : Type 0 where
  pub leaf : ReadyLeaf
  pub here : leaf_at nodes uid ≡ Some leaf
  pub kind : kind_of_way (rule leaf.row).way ≡ driver.Told

-- the call by which the leaf with this uid is told something
abbrev pub telling_at : List Node → List DriverState → ℕ → Telling → Call
telling_at nodes drivers uid telling = tell_call uid telling (slice_index_or (instances_of nodes drivers) uid fresh)
