-- What stays the same in all modelled runs of a world, and which trees can be run in it.
use Rattle.std.specs.Prelude.{◌≡◌, ℕ, ◌<◌, ◌≤◌, List, [], ◌∷◌, length, map, Some, None}
use Rattle.spec_tree.specs.declared.term.Tree.{Tree}
use Rattle.spec_world.specs.declared.world.World.{World}
use Rattle.base_tables.specs.SlotTables.{slot_table}
use Rattle.spec_run.specs.Drivers.{DriverState}
use Rattle.spec_tree.specs.Terms.{leaf_ids}
use Rattle.spec_world.specs.Runnable.{IsRunnableWorld}
use Rattle.spec_run.specs.Joins.{first_missing}
use Rattle.spec_plan.specs.declared.domain.Test.{Test}
use Rattle.spec_plan.specs.Achievers.{test_of}
use Rattle.spec_plan.specs.declared.pace.Pace.{Pace}
use Rattle.plan_trial.specs.declared.task.Task.{Task}
use Rattle.spec_plan.specs.Modelled.{modelled}

-- there are so many facts, and each test compares one of them
abbrev pub HaveFacts : ℕ → List Test → Type 0
HaveFacts facts [] = Unit {0}
HaveFacts facts (test ∷ tests) = (test.fact < facts) × HaveFacts facts tests

-- the tests of a world's goals
pub record AreTests (world : World) (tests : List Test) : Type 0 where
  pub are : map (λ (test : Test). Some test) tests ≡ map (test_of world.rows) world.goals
  pub facts : HaveFacts (length world.facts) tests

-- the pace is in its range
pub record IsInRange (pace : Pace) : Type 0 where
  pub some_tick : 1 ≤ pace.ticks
  pub ticks : pace.ticks ≤ 10000
  pub period : pace.period ≤ 1000000

-- the task of this world
pub record IsTaskOf (world : World) (task : Task) : Type 0 where
  pub world_is : task.world ≡ modelled world
  pub runnable : IsRunnableWorld (modelled world)
  pub goals : AreTests world task.goals.items
  pub pace : IsInRange task.pace

-- each leaf of the tree has a row, and each of these rows a driver
abbrev pub LacksNothing : Tree → World → List DriverState → Type 0
LacksNothing tree world drivers = first_missing world.rows drivers (leaf_ids tree.term) ≡ None

-- the tree names no key, so that it has no slots
abbrev pub NamesNothing : Tree → Type 0
NamesNothing tree = slot_table tree ≡ record { cells = []; named = [] }
