-- What a plan for a world gives.
use Rattle.std.proofs.Common.{◌≡◌, ℕ, List, [], true, false, inl, inr, Option, Some, None, length, refl, sym, ap, subst, arith, Ok, Err, ◌≢◌, ◌==◌, ◌∷◌}
use Rattle.std.specs.Prelude.{option_map}
use Rattle.spec_program.specs.declared.exit.Exit.{Exit}
use Rattle.spec_program.specs.declared.exit.Exit.TheVariants as exit
use Rattle.spec_world.specs.declared.world.World.{World}
use Rattle.spec_run.specs.Drivers.{DriverState, kind_of_row, place_of_kind}
use Rattle.cli_refusals.specs.declared.refusal.Refusal.TheVariants as refusal
use Rattle.spec_program.specs.Answers.{Gave, Side, side, IsWhole}
use Rattle.cli_refusals.specs.Printing.{IsSpoken}
use Rattle.spec_program.specs.RefusalOutputs.{join_refused, no_goal}
use Rattle.cli_refusals.specs.Ends.{Ends, EndsAt}
use Rattle.spec_program.specs.Output.{Output}
use Rattle.std.specs.List.{All}
use Rattle.std.proofs.lemmas.Bool.Decides.{nat_tests}
use Rattle.std.proofs.lemmas.List.Elements.{All-cons, All-nil}
use Rattle.std.specs.Option.{option_or}
use Rattle.spec_run.specs.declared.join_fault.JoinFault.{JoinFault}
use Rattle.spec_run.specs.declared.join_fault.JoinFault.TheVariants as join
use Rattle.spec_run.specs.Joins.{lacks_driver}
use Rattle.spec_run.specs.declared.leaf.DriverKind.{DriverKind}
use Rattle.spec_world.specs.declared.world.Row.{Row}
use Rattle.spec_world.specs.Worlds.{IsValidWorld}
use Rattle.spec_outside.specs.Appending.{Appended}
use Rattle.cli_answers.specs.Planning.Printed.{PlanPrinted}
use Rattle.spec_program.specs.PlanOutputs.{IsPlanned, PlannedOr, WorldBegun, WorldPlans, first_unserved, plan_bytes, plan_exit, plan_output, refusal_for}
use Rattle.cli_refusals.proofs.AboutLent.Moments.{at_any}
use Rattle.cli_refusals.proofs.Ends.{refused_ends}
use Rattle.spec_plan.specs.PlanAnswers.{IsPlan, IsPlanCut, StandsAlone}
use Rattle.spec_plan.specs.declared.ending.End.{End}
use Rattle.spec_plan.specs.declared.ending.End.TheVariants.{Reached, NoTemplate, NoOrder, Expansions, StillRunning, Faulted}
use Rattle.spec_plan.specs.declared.ending.Limits.{Limits}
use Rattle.spec_plan.specs.declared.ending.PlanEnd.{PlanEnd}

-- ---- Rows that are served

lacks_none : (place : Option ℕ) (kind : DriverKind) → lacks_driver place kind ≡ None → place ≢ None
lacks_none (Some place) kind e = λ none. cc
lacks_none None kind e = λ none. cc

or_left : (a b : Option JoinFault) → option_or a b ≡ None → a ≡ None
or_left None b e = refl
or_left (Some fault) b e = cc

or_right : (a b : Option JoinFault) → option_or a b ≡ None → b ≡ None
or_right None b e = e
or_right (Some fault) b e = cc

abbrev IsServed : List DriverState → Row → Type 0
IsServed drivers row = place_of_kind drivers (kind_of_row row) ≢ None

-- where no row lacks a driver, all are served
pub all_served : (drivers : List DriverState) (rows : List Row) → first_unserved drivers rows ≡ None → All (λ (row : Row). place_of_kind drivers (kind_of_row row) ≢ None) rows
all_served drivers [] e = All-nil (IsServed drivers)
all_served drivers (row ∷ rows) e =
    let here = or_left (lacks_driver (place_of_kind drivers (kind_of_row row)) (kind_of_row row)) (first_unserved drivers rows) e in
    let later = or_right (lacks_driver (place_of_kind drivers (kind_of_row row)) (kind_of_row row)) (first_unserved drivers rows) e in
    All-cons (IsServed drivers) row rows (lacks_none (place_of_kind drivers (kind_of_row row)) (kind_of_row row) here) (all_served drivers rows later)

-- ---- Goals

pub goals_none : (goals : List ℕ) → (length goals == 0) ≡ true → goals ≡ []
goals_none [] e = refl
goals_none (goal ∷ goals) e = let none : length (goal ∷ goals) ≡ 0 = grind (arith, nat_tests) in absurd (omega (arith, none))

pub goals_some : (goals : List ℕ) → (length goals == 0) ≡ false → goals ≢ []
goals_some [] e = λ none. cc
goals_some (goal ∷ goals) e = λ none. cc

-- ---- Lines

gave_spoken : (o : Output) (result : Exit) (a b : Side) → IsSpoken result → IsWhole o result a b → Gave o result a b
gave_spoken o exit.Done a b spoken p = p
gave_spoken o exit.Words a b spoken p = p
gave_spoken o exit.Tree a b spoken p = p
gave_spoken o exit.World a b spoken p = p
gave_spoken o exit.Fault a b spoken p = p
gave_spoken o exit.NoPlan a b spoken p = p
gave_spoken o exit.Read a b spoken p = p
gave_spoken o exit.Write a b spoken p = absurd spoken
gave_spoken o exit.Memory a b spoken p = absurd spoken
gave_spoken o exit.Rules a b spoken p = p
gave_spoken o exit.Request a b spoken p = p
gave_spoken o exit.NotExclusive a b spoken p = p
gave_spoken o exit.Expect a b spoken p = p
gave_spoken o exit.Unmet a b spoken p = p

end_spoken : (end : End) → IsSpoken (plan_exit end)
end_spoken (Reached tree tick) = tt
end_spoken (NoTemplate failed) = tt
end_spoken (NoOrder action condition) = tt
end_spoken (Expansions n) = tt
end_spoken (StillRunning ticks) = tt
end_spoken (Faulted uid cause) = tt

-- all lines of a plan were written
pub plan_printed : (planned : PlanEnd) (written : Option (List ℕ)) (faults : ℕ) (written_after : Option (List ℕ)) (faults_after : ℕ) → Appended written written_after (plan_bytes planned)
    → PlanPrinted planned (plan_exit planned.end) written faults written_after faults_after
plan_printed planned written faults written_after faults_after appended =
    λ clock old after. gave_spoken (plan_output planned after) (plan_exit planned.end) (side written faults clock old) (side written_after faults_after clock after) (end_spoken planned.end)
    (refl, appended, refl, refl)

-- ---- Worlds

-- the output of a plan for these goals, where this is lacking
abbrev Planned : List ℕ → Option JoinFault → World → Limits → List DriverState → Output → Type 0
Planned goals lack world limits drivers output = PlannedOr (refusal_for goals lack) world limits drivers output

no_goals : (world : World) (limits : Limits) (drivers : List DriverState) → world.goals ≡ [] → WorldPlans world limits drivers no_goal
no_goals world limits drivers none =
    subst (λ (goals : List ℕ). Planned goals (first_unserved drivers world.rows) world limits drivers no_goal) (sym none) refl

-- a world without a goal is refused
pub goal_lacks : (world : World) (limits : Limits) (a : Side) → world.goals ≡ [] → EndsAt (λ moments. WorldPlans world limits) (WorldBegun world limits) (Err refusal.NoGoal) a a
goal_lacks world limits a none = refused_ends (λ moments. WorldPlans world limits) (WorldBegun world limits) refusal.NoGoal a (λ moments. no_goals world limits a.drivers none)

some_goals : (goals : List ℕ) (world : World) (limits : Limits) (drivers : List DriverState) (fault : JoinFault) → goals ≢ [] → Planned goals (Some fault) world limits drivers (join_refused fault)
some_goals [] world limits drivers fault some = absurd (some refl)
some_goals (goal ∷ goals) world limits drivers fault some = refl

-- a row lacks a driver
pub driver_lacks : (world : World) (limits : Limits) (a : Side) (kind : DriverKind) → world.goals ≢ [] → first_unserved a.drivers world.rows ≡ Some (join.NoDriver kind)
    → EndsAt (λ moments. WorldPlans world limits) (WorldBegun world limits) (Err (refusal.Join (join.NoDriver kind))) a a
driver_lacks world limits a kind some lack = refused_ends (λ moments. WorldPlans world limits) (WorldBegun world limits) (refusal.Join (join.NoDriver kind)) a
    (λ moments. subst (λ (l : Option JoinFault). Planned world.goals l world limits a.drivers (join_refused (join.NoDriver kind))) (sym lack)
    (some_goals world.goals world limits a.drivers (join.NoDriver kind) some))

planned_goals : (goals : List ℕ) (world : World) (limits : Limits) (drivers : List DriverState) (output : Output) → goals ≢ [] → IsPlanned world limits drivers output → Planned goals None world limits drivers output
planned_goals [] world limits drivers output some is = absurd (some refl)
planned_goals (goal ∷ goals) world limits drivers output some is = is

-- a plan was printed
pub plan_ends : (world : World) (limits : Limits) (a : Side) (after : List DriverState) (planned : PlanEnd) (exit : Exit) (written : Option (List ℕ)) (faults : ℕ) → world.goals ≢ [] → first_unserved a.drivers world.rows ≡ None
    → IsValidWorld world → IsPlan world limits a.drivers after planned → StandsAlone planned.end → PlanPrinted planned exit a.written a.faults written faults → EndsAt (λ moments. WorldPlans world limits) (WorldBegun world limits) (Ok exit) a (side written faults a.clock after)
plan_ends world limits a after planned exit written faults some lack valid run alone printed =
    at_any a.clock (λ moments. Ends (WorldPlans world limits a.drivers) (WorldBegun world limits) (Ok exit) a (side written faults a.clock after))
    (λ moments. inl (
      plan_output planned after,
      subst (λ (l : Option JoinFault). Planned world.goals l world limits a.drivers (plan_output planned after)) (sym lack)
          (planned_goals world.goals world limits a.drivers (plan_output planned after) some (record { planned = planned; after = after; valid = valid; run = run; alone = alone; is = refl })),
      printed a.clock a.drivers after,
    ))

unrefused : (goals : List ℕ) (lack : Option JoinFault) → goals ≢ [] → lack ≡ None → refusal_for goals lack ≡ None
unrefused [] lack some none = absurd (some refl)
unrefused (goal ∷ goals) lack some none = ap (option_map join_refused) none

-- memory ran out in a plan
pub plan_stopped : (world : World) (limits : Limits) (a : Side) (after : List DriverState) → world.goals ≢ [] → first_unserved a.drivers world.rows ≡ None → IsPlanCut world limits a.drivers after
    → EndsAt (λ moments. WorldPlans world limits) (WorldBegun world limits) (Ok exit.Memory) a (side a.written a.faults a.clock after)
plan_stopped world limits a after some lack cut =
    at_any a.clock (λ moments. Ends (WorldPlans world limits a.drivers) (WorldBegun world limits) (Ok exit.Memory) a (side a.written a.faults a.clock after))
    (λ moments. inr (record { exit = refl; written = refl; clock = refl; drivers = (unrefused world.goals (first_unserved a.drivers world.rows) some lack, cut) }))
