-- The drivers of an arena's leaves: which leaf has which instance, and what calls leave of the instances.
use Rattle.std.specs.Prelude.{◌≡◌, ℕ, ◌+◌, ◌-◌, ◌*◌, nat_eq, Bool, true, false, List, [], ◌∷◌, map, take, count_by, Option, Some, None}
use Rattle.spec_run.specs.declared.leaf.Instance.{Instance}
use Rattle.spec_run.specs.Done.{Call}
use Rattle.spec_run.specs.Drivers.{DriverState, driver_at, place_of_kind, roster_called}
use Rattle.base_tables.specs.DriverCalls.{IsThere, instance_at, kind_of_way}
use Rattle.spec_run.specs.Leaf.{fresh}
use Rattle.run_driver.specs.Rules.{rule}
use Rattle.run_arena.specs.declared.nodes.Node.{Node}
use Rattle.run_arena.specs.declared.nodes.ReadyLeaf.{ReadyLeaf}
use Rattle.run_arena.specs.Nodes.{leaf_at}

-- ---- Instances

abbrev pub leaf_instance : List DriverState → Option ReadyLeaf → Instance
leaf_instance drivers (Some leaf) = instance_at drivers leaf.driver leaf.instance
leaf_instance drivers None = fresh

-- the instances of an arena's leaves by uid, as its drivers keep them
abbrev pub instances_of : List Node → List DriverState → List Instance
instances_of nodes drivers = map (λ (node : Node). leaf_instance drivers node.leaf) nodes

-- a leaf's instance is there, at a driver that serves its row
pub record IsServed (drivers : List DriverState) (leaf : ReadyLeaf) : Type 0 where
  pub there : IsThere drivers leaf.driver leaf.instance
  pub kind : kind_of_way (rule leaf.row).way ≡ (driver_at drivers leaf.driver).kind

-- each leaf of an arena is served, and has an instance of its own
pub record AreServed (drivers : List DriverState) (nodes : List Node) : Type 0 where
  pub served : (uid : ℕ) (leaf : ReadyLeaf) → leaf_at nodes uid ≡ Some leaf → IsServed drivers leaf
  pub own : (uid other : ℕ) (a b : ReadyLeaf) → leaf_at nodes uid ≡ Some a → leaf_at nodes other ≡ Some b →
      a.driver ≡ b.driver → a.instance ≡ b.instance → uid ≡ other

-- ---- Calls

-- the drivers after a call for this leaf
abbrev pub leaf_called : Option ReadyLeaf → Call → List DriverState → List DriverState
leaf_called (Some leaf) call drivers = roster_called drivers leaf.driver call.phase leaf.instance call.left
leaf_called None call drivers = drivers

-- the drivers after these calls for leaves of an arena, in order
abbrev pub roster_after : List Node → List Call → List DriverState → List DriverState
roster_after nodes [] drivers = drivers
roster_after nodes (call ∷ calls) drivers = roster_after nodes calls (leaf_called (leaf_at nodes call.uid) call drivers)

-- ---- Numbers

abbrev pub is_served_at : ℕ → Option ReadyLeaf → Bool
is_served_at place (Some leaf) = nat_eq leaf.driver place
is_served_at place None = false

-- how many of these nodes are leaves that the driver at a place serves
abbrev pub served : ℕ → List Node → ℕ
served place nodes = count_by (λ (node : Node). is_served_at place node.leaf) nodes

-- Each leaf of a runner's arena is served by the first driver of its row's kind. The instances of a driver are numbered
-- by runner, and then by uid, among the leaves that it serves.
pub record AreNumbered (drivers : List DriverState) (runner : ℕ) (nodes : List Node) : Type 0 where
  pub driver : (uid : ℕ) (leaf : ReadyLeaf) → leaf_at nodes uid ≡ Some leaf → place_of_kind drivers (kind_of_way (rule leaf.row).way) ≡ Some leaf.driver
  pub instance : (uid : ℕ) (leaf : ReadyLeaf) → leaf_at nodes uid ≡ Some leaf →
      leaf.instance ≡ (runner - 1) * served leaf.driver nodes + served leaf.driver (take uid nodes)

abbrev pub has_driver : Option ReadyLeaf → Bool
has_driver (Some leaf) = true
has_driver None = false

-- how many of these nodes are leaves with a driver
abbrev pub leaves_in : List Node → ℕ
leaves_in nodes = count_by (λ (node : Node). has_driver node.leaf) nodes
