-- What is asked of the tree and the steps of a plan, so that they can be written and run.
use Rattle.std.specs.Prelude.{◌≡◌, List, None, IsTrue}
use Rattle.std.specs.List.{list_all}
use Rattle.spec_script.specs.Identifiers.{is_identifier_continue}
use Rattle.spec_tree.specs.Terms.{leaf_ids}
use Rattle.spec_run.specs.Drivers.{DriverState}
use Rattle.spec_run.specs.Joins.{first_missing}
use Rattle.spec_world.specs.declared.world.World.{World}
use Rattle.spec_plan.specs.declared.ending.End.{End}
use Rattle.spec_plan.specs.declared.ending.End.TheVariants.{Reached}
use Rattle.spec_plan.specs.declared.ending.Step.{Step}

-- no leaf of a tree that reaches the goals lacks its row or the driver of its row
abbrev pub JoinsWorld : World → List DriverState → End → Type 0
JoinsWorld world drivers (Reached tree tick) = first_missing world.rows drivers (leaf_ids tree.term) ≡ None
JoinsWorld world drivers end = Unit {0}

-- a step names its condition and its action by letters, digits and `_` alone
pub record IsNamedPlainly (s : Step) : Type 0 where
  pub condition : IsTrue (list_all is_identifier_continue s.condition)
  pub action : IsTrue (list_all is_identifier_continue s.action)
