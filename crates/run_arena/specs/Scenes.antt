-- What an event finds around an arena, and what it leaves.
use Rattle.std.specs.Prelude.{◌≡◌, ◌<◌, ◌^◌, ℕ, ℤ, List, length, map, Bool, Option}
use Rattle.spec_script.specs.declared.value.Value.{Value}
use Rattle.spec_tree.specs.declared.term.Term.{Term}
use Rattle.spec_run.specs.Done.{State}
use Rattle.spec_run.specs.Drivers.{DriverState, is_held}
use Rattle.spec_run.specs.Sites.{View}
use Rattle.run_arena.specs.declared.nodes.Kept.{Kept}
use Rattle.run_arena.specs.declared.nodes.Node.{Node}
use Rattle.run_arena.specs.Rosters.{AreServed, instances_of}
use Rattle.run_arena.specs.Stands.{Stands}

-- what a part of an event can change: what the nodes of an arena keep, the blackboard, the facts and the drivers
pub record Scene : Type 0 where
  pub kept : List Kept
  pub board : List (Option Value)
  pub facts : List ℤ
  pub drivers : List DriverState

abbrev pub scene : List Kept → List (Option Value) → List ℤ → List DriverState → Scene
scene kept board facts drivers = record { kept = kept; board = board; facts = facts; drivers = drivers }

-- the state of a runner at a moment
abbrev pub state_in : List Node → Scene → ℕ → State
state_in nodes s moment = record { board = s.board; facts = s.facts; instances = instances_of nodes s.drivers; moment = moment }

-- the marks of leaves whose instances are held
abbrev pub marks_of : List Kept → List Bool
marks_of kept = map (λ (k : Kept). k.held) kept

-- A term fits an arena: it stands there, among less than 2^30 nodes; the marks say which instances the drivers hold;
-- each leaf is served; and there are as many slots and facts as the view has.
pub record Fits (term : Term) (view : View) (uid : ℕ) (nodes : List Node) (s : Scene) : Type 0 where
  pub stands : Stands term nodes view uid
  pub few : length nodes < 2 ^ 30
  pub marks : marks_of s.kept ≡ map is_held (instances_of nodes s.drivers)
  pub leaves : AreServed s.drivers nodes
  pub slots : length s.board ≡ length view.slots
  pub facts : length s.facts ≡ length view.facts
