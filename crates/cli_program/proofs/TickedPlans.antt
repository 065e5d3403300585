-- What is written of a plan is run by `tick`, where the script of its world is a tick each period, and is not refused.
use Rattle.std.proofs.Common.{◌≡◌, ℕ, zero, suc, ◌+◌, ◌≤◌, Bool, false, List, [], ◌∷◌, ◌++◌, length, Some, None, Option, Ok, MatchBool, refl, sym, ap, subst, ◌∙◌, arith}
use Rattle.std.proofs.lemmas.Bool.Decides.{nat_tests}
use Rattle.spec_run.specs.declared.block.Header.{Header}
use Rattle.spec_run.specs.declared.block.Header.TheVariants as header
use Rattle.spec_run.specs.declared.fault.RunFault.{RunFault}
use Rattle.spec_run.specs.declared.join_fault.JoinFault.{JoinFault}
use Rattle.spec_run.specs.Run.{RunState, Runner, Stepped, Trace, before_rest, finish, finishes, opening, reset_step, run_from, run_over, runner_at, step, step_by, then_rest, tick_step}
use Rattle.spec_run.specs.Joins.{lack_of}
use Rattle.spec_tree.specs.declared.term.Tree.{Tree}
use Rattle.spec_tree.specs.Limits.{most_file_bytes}
use Rattle.spec_world.specs.declared.world.Event.{Event}
use Rattle.spec_world.specs.declared.world.What.{What}
use Rattle.spec_world.specs.declared.world.What.TheVariants.{Tick, Halt, Change, Tell}
use Rattle.spec_world.specs.declared.world.World.{World}
use Rattle.spec_plan.specs.Modelled.{modelled, modelled_run, ticks}
use Rattle.spec_world_file.specs.WorldFile.{ReadsWorld}
use Rattle.spec_program.specs.Answers.{Side}
use Rattle.spec_program.specs.Courses.{Given, joined_output, run_output}
use Rattle.spec_program.specs.declared.file.File.TheVariants as file
use Rattle.spec_program.specs.Gives.{RunGives, is_too_long}
use Rattle.spec_program.specs.Headline.{PlanReaches, plan_file, ticking}
use Rattle.spec_program.specs.Output.{Output}
use Rattle.spec_program.specs.RefusalOutputs.{too_long}
use Rattle.cli_program.proofs.Clauses.{OneReading, one_run}

not_long : (bytes : List ℕ) → length bytes ≤ most_file_bytes → is_too_long bytes ≡ false
not_long bytes short = grind (arith, nat_tests, short)

given_short : (bytes : List ℕ) (refusal output : Output) (Gives : Type 0) → length bytes ≤ most_file_bytes → Gives → MatchBool (is_too_long bytes) (output ≡ refusal) Gives
given_short bytes refusal output Gives short gives = subst (λ (b : Bool). MatchBool b (output ≡ refusal) Gives) (sym (not_long bytes short)) gives

-- each output of the bytes that were written is the run of the tree
pub runs_as_it_stands : OneReading → (read : List ℕ) (Describes : List ℕ → World → Type 0) (period : ℕ) (old new : Side) (p : PlanReaches read Describes period old new)
    (n : ℕ) (script : List ℕ) (g : Given) (o : Output) → g.drivers ≡ old.drivers → ReadsWorld script (Ok (ticking p.world period n)) → length script ≤ most_file_bytes
    → RunGives None (plan_file p.steps p.tree p.tick) script g o → o ≡ run_output p.tree (ticking p.world period n) g
runs_as_it_stands one read Describes period old new p n script g o drivers reads short gives =
    let world : World = ticking p.world period n in
    let bytes : List ℕ = plan_file p.steps p.tree p.tick in
    let ran : Output = run_output p.tree world g in
    let joins = subst (λ ds. lack_of p.tree world ds ≡ None) (sym drivers) (p.joins n) in
    one_run one None bytes script g o ran gives
    (given_short bytes (too_long file.Tree) ran _ p.short
    (given_short script (too_long file.World) ran _ short
    (Ok p.tree, p.reads_back, (Ok world, reads, sym (ap (λ (lack : Option JoinFault). joined_output lack p.tree world g) joins)))))

-- ---- The run

-- a run asks nothing of the events of its world but those that it is given
module _ (tree : Tree) (world : World) (script : List Event) where
  abbrev other : World
  other = record world { events = script }

  tick_same : (o : Option Runner) (runner at : ℕ) (s : RunState) → tick_step o tree other runner at s ≡ tick_step o tree world runner at s
  tick_same (Some r) runner at s = refl
  tick_same None runner at s = refl

  reset_same : (o : Option Runner) (header : Header) (runner at : ℕ) (s : RunState) → reset_step o header tree other runner at s ≡ reset_step o header tree world runner at s
  reset_same (Some r) header runner at s = refl
  reset_same None header runner at s = refl

  step_same : (what : What) (at : ℕ) (s : RunState) → step_by what tree other at s ≡ step_by what tree world at s
  step_same (Tick runner) at s = tick_same (runner_at s runner) runner at s
  step_same (Halt runner) at s = reset_same (runner_at s runner) (header.Halt runner at) runner at s
  step_same (Change fact value) at s = refl
  step_same (Tell runner uid telling) at s = refl

  rest_same : (d e : Stepped) (rest more : RunState → Trace) → d ≡ e → ((s : RunState) → rest s ≡ more s) → then_rest d rest ≡ then_rest e more
  rest_same d e rest more is each = ap (λ (x : Stepped). then_rest x rest) is ∙ by_fault e.fault where
    by_fault : (o : Option RunFault) → before_rest o e rest ≡ before_rest o e more
    by_fault (Some fault) = refl
    by_fault None =
        ap (λ (t : Trace). record { blocks = e.block ∷ t.blocks; calls = e.calls ++ t.calls; state = t.state; fault = t.fault }) (each e.state)

  finishes_same : (n runner : ℕ) (s : RunState) → finishes tree other runner n s ≡ finishes tree world runner n s
  finishes_same zero runner s = refl
  finishes_same (suc n) runner s =
      rest_same (finish tree other runner s) (finish tree world runner s) (finishes tree other (runner + 1) n) (finishes tree world (runner + 1) n)
      (reset_same (runner_at s runner) (header.Finish runner s.last) runner s.last s) (finishes_same n (runner + 1))

  events_same : (events : List Event) (s : RunState) → run_from tree other events s ≡ run_from tree world events s
  events_same [] s = finishes_same world.runners 1 s
  events_same (e ∷ events) s =
      rest_same (step tree other e s) (step tree world e s) (run_from tree other events) (run_from tree world events) (step_same e.what e.at s) (events_same events)

-- it is the modelled run of the tree
pub run_modelled : (tree : Tree) (world : World) (period n : ℕ) → run_over tree (ticking world period n) (ticks period n) ≡ modelled_run tree world period n
run_modelled tree world period n = events_same tree (modelled world) (ticks period n) (ticks period n) (opening tree (modelled world))
