-- The runs of a tree in a world: the state that they keep, and what holds of them between events.
use Rattle.std.specs.Prelude.{◌≡◌, ◌+◌, ◌-◌, ◌<◌, ◌≤◌, ◌^◌, ℕ, ℤ, List, [], ◌∷◌, length, map, sum, slice_get, slice_index_or, Option, Some, None, true}
use Rattle.std.specs.Vec.{vec_capacity}
use Rattle.spec_tree.specs.declared.term.Term.{Term}
use Rattle.spec_tree.specs.declared.term.Tree.{Tree}
use Rattle.spec_world.specs.declared.world.World.{World}
use Rattle.spec_tree.specs.Boards.{slots}
use Rattle.spec_run.specs.Drivers.{DriverState, is_held}
use Rattle.base_tables.specs.DriverCalls.{instance_at}
use Rattle.spec_run.specs.Run.{RunState, Runner, RunnerCall, root_view}
use Rattle.base_tables.specs.Sound.{RunSteady}
use Rattle.spec_tree.specs.Terms.{depth_of, node_count}
use Rattle.run_arena.specs.declared.nodes.Node.{Node}
use Rattle.run_arena.specs.declared.nodes.ReadyLeaf.{ReadyLeaf}
use Rattle.run_arena.specs.Nodes.{leaf_at}
use Rattle.run_arena.specs.Rosters.{instances_of, leaf_called, leaves_in}
use Rattle.run_arena.specs.Scenes.{Fits, scene}
use Rattle.run_arena.specs.Stands.{memory_of}
use Rattle.run_loop.specs.declared.runs.ReadyRunner.{ReadyRunner}
use Rattle.run_loop.specs.declared.runs.Runs.{Runs}
use Rattle.spec_script.specs.declared.value.Value.{Value}
use Rattle.spec_run.specs.Served.{Setup}

-- ---- States

-- what a runner keeps: the memory of its nodes, its blackboard, and its leaves' instances, which the drivers have
abbrev pub runner_in : Term → List DriverState → ReadyRunner → Runner
runner_in term drivers r =
    record { memory = memory_of term 1 r.arena.kept.items; board = r.board; instances = instances_of r.arena.nodes.items drivers }

abbrev pub runners_in : Term → List DriverState → List ReadyRunner → List Runner
runners_in term drivers runners = map (runner_in term drivers) runners

-- the state of runs
abbrev pub state_of_runs : Term → List DriverState → Runs → RunState
state_of_runs term drivers runs = record { runners = runners_in term drivers runs.runners.items; facts = runs.facts; last = runs.last }

abbrev pub boards_in : List ReadyRunner → List (List (Option Value))
boards_in runners = map (λ (r : ReadyRunner). r.board) runners

-- ---- Arenas

-- the nodes of each runner, which no event changes
abbrev pub arenas_in : List ReadyRunner → List (List Node)
arenas_in runners = map (λ (r : ReadyRunner). r.arena.nodes.items) runners

abbrev pub arenas_of : Runs → List (List Node)
arenas_of runs = arenas_in runs.runners.items

-- how many leaves all runners have together
abbrev pub leaves_of : List (List Node) → ℕ
leaves_of arenas = sum (map leaves_in arenas)

-- the nodes of the runner of this number
abbrev pub nodes_of_runner : List (List Node) → ℕ → List Node
nodes_of_runner arenas runner = slice_index_or arenas (runner - 1) []

-- the drivers after these calls for leaves of runners, in order
abbrev pub roster_over : List (List Node) → List RunnerCall → List DriverState → List DriverState
roster_over arenas [] drivers = drivers
roster_over arenas (c ∷ calls) drivers =
    roster_over arenas calls (leaf_called (leaf_at (nodes_of_runner arenas c.runner) c.call.uid) c.call drivers)

-- no two runners have an instance in common
abbrev pub AreApart : List (List Node) → Type 0
AreApart arenas =
    (k other uid p : ℕ) (a b : List Node) (x y : ReadyLeaf) → slice_get arenas k ≡ Some a → slice_get arenas other ≡ Some b →
    leaf_at a uid ≡ Some x → leaf_at b p ≡ Some y → x.driver ≡ y.driver → x.instance ≡ y.instance → k ≡ other

-- the instance of the driver at a place is that of a leaf of these runners
pub record IsTheirs (arenas : List (List Node)) (place instance : ℕ) : Type 0 where
  pub runner : ℕ
  pub nodes : List Node
  pub uid : ℕ
  pub leaf : ReadyLeaf
  pub is_runner : slice_get arenas runner ≡ Some nodes
  pub is_leaf : leaf_at nodes uid ≡ Some leaf
  pub is_driver : leaf.driver ≡ place
  pub is_instance : leaf.instance ≡ instance

-- only instances of leaves of these runners are held
abbrev pub HeldAreTheirs : List (List Node) → List DriverState → Type 0
HeldAreTheirs arenas drivers = (place instance : ℕ) → is_held (instance_at drivers place instance) ≡ true → IsTheirs arenas place instance

-- ---- What holds of runs

-- a runner's tree stands in its arena, with nothing else but place 0; the marks of the arena say what is held; and
-- there is room for the visits that can be under way at once
pub record RunnerFits (tree : Tree) (world : World) (facts : List ℤ) (drivers : List DriverState) (number : ℕ) (r : ReadyRunner)
    : Type 0 where
  pub numbered : r.arena.runner ≡ number
  pub fits : Fits tree.term (root_view tree world) 1 r.arena.nodes.items (scene r.arena.kept.items r.board facts drivers)
  pub nodes : length r.arena.nodes.items ≡ 1 + node_count tree.term
  pub nobody : leaf_at r.arena.nodes.items 0 ≡ None
  pub deep : depth_of tree.term ≤ vec_capacity r.arena.frames

-- what holds of the runners of a world, even during an event
pub record RunnersFit (tree : Tree) (world : World) (facts : List ℤ) (drivers : List DriverState) (runners : List ReadyRunner)
    : Type 0 where
  pub many : length runners ≡ world.runners
  pub each : (k : ℕ) (r : ReadyRunner) → slice_get runners k ≡ Some r → RunnerFits tree world facts drivers (k + 1) r
  pub apart : AreApart (arenas_in runners)
  pub theirs : HeldAreTheirs (arenas_in runners) drivers
  pub many_facts : length facts ≡ length world.facts
  pub few_facts : length world.facts < 2 ^ 32
  pub few_slots : length (slots tree) < 2 ^ 32

abbrev pub RunsFit : Setup → List DriverState → Runs → Type 0
RunsFit of drivers runs = RunnersFit of.tree of.world runs.facts drivers runs.runners.items

-- what holds of the runs of a tree in a world between events, as long as none has ended with a fault or for want of
-- memory
pub record AreRuns (tree : Tree) (world : World) (drivers : List DriverState) (runs : Runs) : Type 0 where
  pub usable : runs.usable ≡ true
  pub fit : RunnersFit tree world runs.facts drivers runs.runners.items
  pub told : runs.told.items ≡ runs.facts
  pub steady : RunSteady tree.term world.rows (state_of_runs tree.term drivers runs)

-- the blackboard of the runner of this number
abbrev pub nth_board : List ReadyRunner → ℕ → List (Option Value)
nth_board runners number = slice_index_or (boards_in runners) (number - 1) []
