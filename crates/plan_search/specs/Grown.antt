-- From a tree that failed to the next one, as the slab of a plan tree goes.
use Rattle.std.specs.Prelude.{◌≡◌, ℕ, ◌+◌, ◌≤◌, List, [], ◌∷◌, ◌++◌, Option, Some, None}
use Rattle.std.specs.List.{AllByRecursion}
use Rattle.spec_world.specs.declared.world.World.{World}
use Rattle.plan_tree.specs.declared.tree.PlanTree.{PlanTree}
use Rattle.plan_tree.specs.Expanded.{Expands}
use Rattle.spec_plan.specs.Expansion.{untried}
use Rattle.spec_plan.specs.Forests.{Forest}
use Rattle.plan_tree.specs.Sizes.{subtrees}
use Rattle.spec_plan.specs.Planned.{id_of}
use Rattle.plan_tree.specs.Stands.{IsConditionOf, StandsFor}
use Rattle.spec_plan.specs.Conflicts.{Pair}
use Rattle.spec_plan.specs.Raising.{raised}
use Rattle.spec_plan.specs.declared.ending.End.{End}
use Rattle.spec_plan.specs.declared.ending.End.TheVariants.{NoOrder}
use Rattle.spec_plan.specs.declared.ending.Limits.{Limits}
use Rattle.spec_plan.specs.declared.ending.Step.{Step}
use Rattle.plan_search.specs.declared.growing.Grown.{Grown}
use Rattle.spec_plan.specs.declared.places.Place.{Place}
use Rattle.plan_search.specs.declared.settling.Settled.{Settled}
use Rattle.spec_plan.specs.Failing.{first_open}
use Rattle.spec_plan.specs.PlanRuns.{Ends, IsStep, Trial}
use Rattle.spec_plan.specs.Settling.{AreRaises, Settles, Stalls, first_conflict, name_at}

-- conditions of a tree
abbrev pub AreConditions : Forest → List Place → Type 0
AreConditions tree places = AllByRecursion (λ (c : Place). IsConditionOf tree c.key) places

-- a condition was expanded, with a sequence of this key, or it has no untried template
abbrev pub ExpandsOrNot : PlanTree → World → Forest → ℕ → Option ℕ → Type 0
ExpandsOrNot after world tree key (Some added) = Expands after world tree key added
ExpandsOrNot after world tree key None = StandsFor after world tree × (untried world.rows key tree ≡ [])

-- the first of some conditions that has an untried template was expanded
pub record IsGrown (after : PlanTree) (world : World) (tree : Forest) (places : List Place) (g : Grown) : Type 0 where
  pub first : first_open world.rows tree places ≡ Some g.place
  pub expands : Expands after world tree g.place.key g.sequence
  pub action : g.action ≡ expands.template.row

-- .. or there is none
pub record IsNotGrown (after : PlanTree) (world : World) (tree : Forest) (places : List Place) : Type 0 where
  pub none : first_open world.rows tree places ≡ None
  pub stands : StandsFor after world tree

abbrev pub GrowsOrNot : PlanTree → World → Forest → List Place → Option Grown → Type 0
GrowsOrNot after world tree places (Some g) = IsGrown after world tree places g
GrowsOrNot after world tree places None = IsNotGrown after world tree places

-- what stands in the way, if anything
abbrev pub IsLeft : World → ℕ → Forest → Option Pair → Type 0
IsLeft world sequence after (Some pair) = (first_conflict world.rows after ≡ Some pair) × (raised sequence after ≡ None)
IsLeft world sequence after None = first_conflict world.rows after ≡ None

-- a sequence was raised until nothing conflicts or no raise is left
pub record IsSettled (now : PlanTree) (world : World) (sequence : ℕ) (tree : Forest) (s : Settled) : Type 0 where
  pub after : Forest
  pub raises : AreRaises world.rows sequence s.raises tree after
  pub stands : StandsFor now world after
  pub left : IsLeft world sequence after s.conflict
  pub many : subtrees after ≡ subtrees tree

-- nothing conflicts then, and the step was added to others
pub record SettlesInto (now : PlanTree) (world : World) (g : Grown) (tree : Forest) (before after : List Step) : Type 0 where
  pub step : Step
  pub next : Forest
  pub settles : Settles world.rows g.sequence step.raises tree next
  pub uid : step.uid ≡ g.place.uid
  pub condition : step.condition ≡ id_of world.rows g.place.row
  pub action : step.action ≡ id_of world.rows g.action
  pub steps : after ≡ before ++ step ∷ []
  pub stands : StandsFor now world next
  pub many : subtrees next ≡ subtrees tree

-- something conflicts, and no raise is left
pub record StallsAt (world : World) (g : Grown) (tree : Forest) (end : End) : Type 0 where
  pub after : Forest
  pub pair : Pair
  pub stalls : Stalls world.rows g.sequence tree after pair
  pub is : end ≡ NoOrder (name_at world.rows after pair.0) (name_at world.rows after pair.1)

abbrev pub SettlesOrStalls : PlanTree → World → Grown → Forest → List Step → List Step → Option End → Type 0
SettlesOrStalls now world g tree before after (Some end) = StallsAt world g tree end × (after ≡ before)
SettlesOrStalls now world g tree before after None = SettlesInto now world g tree before after

-- a step was made, and these are the steps then
pub record Steps (now : PlanTree) (world : World) (limits : Limits) (t : Trial) (before after : List Step) : Type 0 where
  pub step : Step
  pub tree : Forest
  pub is : IsStep world limits t step tree
  pub steps : after ≡ before ++ step ∷ []
  pub stands : StandsFor now world tree
  pub many : subtrees tree ≡ subtrees t.tree + 1

-- a plan run goes on from a tree to which so many sequences were added, or ends there
abbrev pub GoesOrEnds : PlanTree → World → Limits → ℕ → Trial → List Step → List Step → Option End → Type 0
GoesOrEnds now world limits added t before after (Some end) = Ends world limits added t end × (after ≡ before)
GoesOrEnds now world limits added t before after None = (added + 1 ≤ limits.expand) × Steps now world limits t before after
