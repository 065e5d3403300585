-- The behavior tree of a plan tree.
use Rattle.std.specs.Prelude.{◌≡◌, List, [], ◌∷◌, codes}
use Rattle.spec_tree.specs.declared.term.Tree.{Tree as Planned}
use Rattle.spec_world.specs.declared.world.Row.{Row}
use Rattle.spec_plan.specs.Forests.{Forest}
use Rattle.spec_plan.specs.Planned.{terms_of}

-- the behavior tree of a plan tree
pub record IsPlanned (rows : List Row) (tree : Forest) (planned : Planned) : Type 0 where
  pub main : planned.main ≡ codes "Plan"
  pub term : terms_of rows tree ≡ planned.term ∷ []
