-- The output of a plan for a world: a refusal, or its steps, its end, and the tree that reaches the goals.
use Rattle.std.specs.Prelude.{ℕ, ◌≡◌, List, [], ◌∷◌, ◌++◌, map, Option, Some, None, option_map}
use Rattle.std.specs.List.{concat}
use Rattle.spec_run.specs.declared.join_fault.JoinFault.{JoinFault}
use Rattle.spec_run.specs.Joins.{lacks_driver}
use Rattle.spec_program.specs.declared.exit.Exit.{Exit}
use Rattle.spec_world.specs.declared.world.World.{World}
use Rattle.spec_run.specs.Drivers.{DriverState, kind_of_row, place_of_kind}
use Rattle.spec_tree.specs.PrintedTree.{tree_lines}
use Rattle.spec_plan.specs.declared.ending.PlanEnd.{PlanEnd}
use Rattle.spec_program.specs.Output.{Begun, Never, OfPlan, Output}
use Rattle.spec_program.specs.RefusalOutputs.{join_refused, no_goal}
use Rattle.std.specs.Option.{option_or}
use Rattle.spec_world.specs.declared.world.Row.{Row}
use Rattle.spec_world.specs.Worlds.{IsValidWorld}
use Rattle.spec_plan.specs.PlanAnswers.{IsPlan, IsPlanCut, StandsAlone}
use Rattle.spec_plan.specs.declared.ending.End.{End}
use Rattle.spec_plan.specs.declared.ending.End.TheVariants.{Reached, Faulted}
use Rattle.spec_plan.specs.declared.ending.Limits.{Limits}
use Rattle.spec_plan.specs.PlanLines.{end_line, step_line}
use Rattle.spec_output.specs.NoNames.{no_names}
use Rattle.spec_program.specs.declared.exit.Exit.TheVariants as exit

-- what the first row lacks, in the script's order, whose kind no driver serves
abbrev pub first_unserved : List DriverState → List Row → Option JoinFault
first_unserved drivers [] = None
first_unserved drivers (row ∷ rows) =
    option_or (lacks_driver (place_of_kind drivers (kind_of_row row)) (kind_of_row row)) (first_unserved drivers rows)

-- the refusal of a plan for goals in a world: without a goal, and then for a row that no driver serves
abbrev pub refusal_for : List ℕ → Option JoinFault → Option Output
refusal_for [] lack = Some no_goal
refusal_for (goal ∷ goals) lack = option_map join_refused lack

-- the exit of an end
abbrev pub plan_exit : End → Exit
plan_exit (Reached tree tick) = exit.Done
plan_exit (Faulted uid cause) = exit.Fault
plan_exit _ = exit.NoPlan

-- the lines after that of an end: where the goals are reached, those of the tree
abbrev pub reached_lines : End → List (List ℕ)
reached_lines (Reached tree tick) = tree_lines tree
reached_lines _ = []

-- A line for each step, one for the end, and the tree that reaches the goals. The line of the end is told without names,
-- since no cause of a plan's fault has one in it: `causes_of_plans_have_no_names`, a law of `plan_search`.
abbrev pub plan_bytes : PlanEnd → List ℕ
plan_bytes planned = concat (map step_line planned.steps) ++ (end_line no_names planned.end ++ concat (reached_lines planned.end))

-- what is printed of a plan, with the drivers that its modelled runs leave
abbrev pub plan_output : PlanEnd → List DriverState → Output
plan_output planned after = record { bytes = plan_bytes planned; exit = plan_exit planned.end; calls = OfPlan after; asked = Never }

-- this is printed of a plan run of the world, whose tree can be printed and read
pub record IsPlanned (world : World) (limits : Limits) (drivers : List DriverState) (output : Output) : Type 0 where
  pub planned : PlanEnd
  pub after : List DriverState
  pub valid : IsValidWorld world
  pub run : IsPlan world limits drivers after planned
  pub alone : StandsAlone planned.end
  pub is : output ≡ plan_output planned after

-- the output of a plan, by its refusal if there is one
abbrev pub PlannedOr : Option Output → World → Limits → List DriverState → Output → Type 0
PlannedOr (Some refused) world limits drivers output = output ≡ refused
PlannedOr None world limits drivers output = IsPlanned world limits drivers output

abbrev pub WorldPlans : World → Limits → List DriverState → Output → Type 0
WorldPlans world limits drivers output =
    PlannedOr (refusal_for world.goals (first_unserved drivers world.rows)) world limits drivers output

-- planning for a world had begun, which nothing refuses: no driver was asked to start and to go on more often than by the
-- modelled runs with which a plan run begins
abbrev pub WorldBegun : World → Limits → Begun
WorldBegun world limits = λ old new.
    (refusal_for world.goals (first_unserved old world.rows) ≡ None) × IsPlanCut world limits old new
