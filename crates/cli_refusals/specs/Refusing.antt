-- Refusals, as the code names them.
use Rattle.std.specs.Prelude.{ℕ, ◌≡◌, List, Option, Some, None, MatchOption}
use Rattle.spec_program.specs.declared.exit.Exit.{Exit}
use Rattle.cli_refusals.specs.declared.refusal.Refusal.{Refusal}
use Rattle.base_texts.specs.declared.stop.Stop.{Stop}
use Rattle.spec_program.specs.Output.{Output}
use Rattle.cli_refusals.specs.Printing.{Printed}
use Rattle.spec_program.specs.RefusalOutputs.{words_refused, unread, too_long, tree_refused, world_refused, rules_refused, expect_refused, ground_refused, no_goal, join_refused}
use Rattle.spec_program.specs.declared.exit.Exit.TheVariants as exit
use Rattle.cli_refusals.specs.declared.refusal.Refusal.TheVariants as refusal
use Rattle.base_texts.specs.declared.stop.Stop.TheVariants as stop

-- the output of a refusal; out of memory there is none
abbrev pub refused_as : Refusal → Option Output
refused_as refusal.Words = Some words_refused
refused_as (refusal.Unread which) = Some (unread which)
refused_as (refusal.TooLong which) = Some (too_long which)
refused_as (refusal.Tree fault) = Some (tree_refused fault)
refused_as (refusal.World fault) = Some (world_refused fault)
refused_as (refusal.Join fault) = Some (join_refused fault)
refused_as refusal.NoGoal = Some no_goal
refused_as (refusal.Rules fault) = Some (rules_refused fault)
refused_as (refusal.Expect fault) = Some (expect_refused fault)
refused_as (refusal.Ground fault) = Some (ground_refused fault)
refused_as refusal.NoMemory = None

-- the refusal of a call that stopped, by what its fault refuses
abbrev pub stopped_as : {F : Type 0} → (F → Refusal) → Stop F → Refusal
stopped_as of (stop.Fault fault) = of fault
stopped_as of stop.NoMemory = refusal.NoMemory

-- the output of a refusal was given so; out of memory nothing was written
abbrev pub IsRefused : Refusal → Exit → Option (List ℕ) → ℕ → Option (List ℕ) → ℕ → Type 0
IsRefused refusal result written faults written_after faults_after =
    MatchOption (refused_as refusal) ((result ≡ exit.Memory) × (written_after ≡ written))
    (λ o. Printed o result written faults written_after faults_after)
