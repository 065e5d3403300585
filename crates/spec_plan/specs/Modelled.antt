-- Modelled runs: a tree is ticked in its world from the opening facts on, until a tick decides.
use Rattle.std.specs.Prelude.{◌≡◌, ℕ, zero, suc, ◌+◌, ◌*◌, ◌≤◌, ◌<◌, ℤ, Bool, true, false, List, [], ◌∷◌, ◌++◌, Option, Some, None}
use Rattle.std.specs.List.{list_all, list_any}
use Rattle.std.specs.Option.{option_map_or}
use Rattle.std.specs.Ordering.{int_cmp}
use Rattle.spec_script.specs.Operators.{compares}
use Rattle.spec_run.specs.declared.fault.RunFault.{RunFault}
use Rattle.spec_run.specs.declared.note.Note.{Note}
use Rattle.spec_tree.specs.declared.term.Tree.{Tree}
use Rattle.spec_world.specs.declared.world.Event.{Event}
use Rattle.spec_world.specs.declared.world.Row.{Row}
use Rattle.spec_world.specs.declared.world.What.TheVariants.{Tick}
use Rattle.spec_world.specs.declared.world.World.{World}
use Rattle.spec_run.specs.Leaf.{fact_at}
use Rattle.spec_run.specs.Run.{RunState, Stepped, Trace, opening, run_over, step}
use Rattle.spec_plan.specs.declared.domain.Test.{Test}
use Rattle.spec_plan.specs.Achievers.{test_of}
use Rattle.spec_plan.specs.declared.pace.Pace.{Pace}
use Rattle.spec_plan.specs.declared.verdict.Verdict.{Verdict}
use Rattle.spec_plan.specs.declared.verdict.Verdict.TheVariants.{Reaches, Fails, GoesOn}
use Rattle.spec_run.specs.declared.note.Note.TheVariants as note
use Rattle.spec_run.specs.declared.status.Answer.TheVariants as answer

-- ---- Runs

-- the world of a modelled run: it has one runner, and the events of the script are not used
abbrev pub modelled : World → World
modelled world = record world { runners = 1; events = [] }

-- the tick that comes after so many: the first is at 0, and then one comes each period
abbrev pub tick_after : ℕ → ℕ → Event
tick_after period n = record { at = n * period; what = Tick 1 }

-- the first ticks
abbrev pub ticks : ℕ → ℕ → List Event
ticks period zero = []
ticks period (suc n) = ticks period n ++ tick_after period n ∷ []

-- the run of a tree over so many ticks, with its finish
abbrev pub modelled_run : Tree → World → ℕ → ℕ → Trace
modelled_run tree world period n = run_over tree (modelled world) (ticks period n)

-- the state of the run after so many ticks
abbrev pub state_after : Tree → World → ℕ → ℕ → RunState
state_after tree world period zero = opening tree (modelled world)
state_after tree world period (suc n) = (step tree (modelled world) (tick_after period n) (state_after tree world period n)).state

-- what the tick after so many leaves
abbrev pub next_tick : Tree → World → ℕ → ℕ → Stepped
next_tick tree world period n = step tree (modelled world) (tick_after period n) (state_after tree world period n)

-- ---- Goals

abbrev pub holds : List ℤ → Test → Bool
holds facts test = compares test.op (int_cmp (fact_at facts test.fact) test.value)

-- the test of the condition of this row is true
abbrev pub row_holds : List Row → List ℤ → ℕ → Bool
row_holds rows facts row = option_map_or (holds facts) (test_of rows row) false

-- the test of every goal is true
abbrev pub goals_hold : World → List ℤ → Bool
goals_hold world facts = list_all (row_holds world.rows facts) world.goals

-- In the run of the tree, ticked once each period, every goal's test is true after tick k, and not all are true after any
-- earlier tick.
pub record ReachedAt (tree : Tree) (world : World) (period k : ℕ) : Type 0 where
  pub first : 1 ≤ k
  pub unbroken : (n : ℕ) → n < k → (next_tick tree world period n).fault ≡ None
  pub reached : goals_hold world (state_after tree world period k).facts ≡ true
  pub not_before : (n : ℕ) → 1 ≤ n → n < k → goals_hold world (state_after tree world period n).facts ≡ false

abbrev pub is_failed_root : Note → Bool
is_failed_root (note.Root runner answer.Failure) = true
is_failed_root _ = false

-- the goals decide first, whatever the root answered, and then a FAILURE of the root
abbrev pub decided : Bool → Bool → Verdict
decided true failed = Reaches
decided false true = Fails
decided false false = GoesOn

-- a tick that faults decides nothing
abbrev pub verdict_by : Option RunFault → Verdict → Option Verdict
verdict_by (Some fault) verdict = None
verdict_by None verdict = Some verdict

-- what the tick after so many decides
abbrev pub verdict_of : World → Stepped → Option Verdict
verdict_of world d = verdict_by d.fault (decided (goals_hold world d.state.facts) (list_any is_failed_root d.block.notes))

abbrev pub verdict_after : Tree → World → ℕ → ℕ → Option Verdict
verdict_after tree world period n = verdict_of world (next_tick tree world period n)

-- The run goes on after each of the first n ticks, and the next one is its last: it faults, it decides, or no more are
-- allowed.
pub record IsLast (tree : Tree) (world : World) (pace : Pace) (n : ℕ) : Type 0 where
  pub allowed : n < pace.ticks
  pub before : (k : ℕ) → k < n → verdict_after tree world pace.period k ≡ Some GoesOn
  pub last : verdict_after tree world pace.period n ≡ Some GoesOn → n + 1 ≡ pace.ticks
