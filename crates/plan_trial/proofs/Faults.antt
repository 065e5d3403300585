-- A fault of a modelled run is one of its only runner.
use Rattle.std.proofs.Common.{◌≡◌, ℕ, zero, suc, List, [], ◌∷◌, ◌++◌, Option, Some, None, Result, Ok, Err, refl, sym, ap, subst}
use Rattle.std.specs.List.{AllByRecursion}
use Rattle.spec_run.specs.declared.block.Header.{Header}
use Rattle.spec_run.specs.declared.fault.NodeFault.{NodeFault}
use Rattle.spec_run.specs.declared.fault.RunFault.{RunFault}
use Rattle.spec_run.specs.declared.note.Note.{Note}
use Rattle.spec_tree.specs.declared.term.Tree.{Tree}
use Rattle.spec_world.specs.declared.world.Event.{Event}
use Rattle.spec_world.specs.declared.world.What.{What}
use Rattle.spec_world.specs.declared.world.What.TheVariants.{Tick}
use Rattle.spec_world.specs.declared.world.World.{World}
use Rattle.spec_run.specs.Done.{Call}
use Rattle.spec_run.specs.Run.{RunState, Runner, Stepped, Trace, before_rest, finish, opening, reset_step, run_from, runner_at, step, step_by, tick_step, told}
use Rattle.spec_plan.specs.Modelled.{modelled, modelled_run, tick_after, ticks}

told_runner : {A : Type 0} (answer : Result A NodeFault) (header : Header) (tree : Tree) (runner : ℕ) (notes : List Note) (calls : List Call) (s after : RunState) (fault : RunFault) →
    (told answer header tree runner notes calls s after).fault ≡ Some fault → fault.runner ≡ runner
told_runner (Ok x) header tree runner notes calls s after fault is = cc is
told_runner (Err f) header tree runner notes calls s after fault is = ap (λ (o : Option RunFault). runner_of o) (sym is) where
  runner_of : Option RunFault → ℕ
  runner_of (Some x) = x.runner
  runner_of None = 0

tick_runner : (o : Option Runner) (tree : Tree) (world : World) (runner at : ℕ) (s : RunState) (fault : RunFault) → (tick_step o tree world runner at s).fault ≡ Some fault → fault.runner ≡ runner
tick_runner None tree world runner at s fault is = cc is
tick_runner (Some r) tree world runner at s fault is = told_runner _ _ tree runner _ _ s _ fault is

reset_runner : (o : Option Runner) (header : Header) (tree : Tree) (world : World) (runner at : ℕ) (s : RunState) (fault : RunFault) → (reset_step o header tree world runner at s).fault ≡ Some fault → fault.runner ≡ runner
reset_runner None header tree world runner at s fault is = cc is
reset_runner (Some r) header tree world runner at s fault is = told_runner _ header tree runner _ _ s _ fault is

module _ (tree : Tree) (world : World) (fault : RunFault) where
  -- the fault of a step, or of what follows it
  rest_runner : (o : Option RunFault) (d : Stepped) (rest : RunState → Trace) → (o ≡ Some fault → fault.runner ≡ 1) → ((rest d.state).fault ≡ Some fault → fault.runner ≡ 1) → (before_rest o d rest).fault ≡ Some fault → fault.runner ≡ 1
  rest_runner (Some f) d rest own later is = own is
  rest_runner None d rest own later is = later is

  abbrev IsTick : Event → Type 0
  IsTick e = e.what ≡ Tick 1

  step_runner : (e : Event) (s : RunState) → IsTick e → (step tree (modelled world) e s).fault ≡ Some fault → fault.runner ≡ 1
  step_runner e s is faulted =
      tick_runner (runner_at s 1) tree (modelled world) 1 e.at s fault (subst (λ (w : What). (step_by w tree (modelled world) e.at s).fault ≡ Some fault) is faulted)

  ticks_runner : (events : List Event) (s : RunState) → AllByRecursion IsTick events → (run_from tree (modelled world) events s).fault ≡ Some fault → fault.runner ≡ 1
  ticks_runner [] s are is =
      let d = finish tree (modelled world) 1 s in
      rest_runner d.fault d _ (λ own. reset_runner (runner_at s 1) _ tree (modelled world) 1 s.last s fault own) (λ none. cc none) is
  ticks_runner (e ∷ events) s are is =
      let d = step tree (modelled world) e s in
      rest_runner d.fault d _ (step_runner e s are.0) (ticks_runner events d.state are.1) is

  tick_added : (events : List Event) (e : Event) → AllByRecursion IsTick events → IsTick e → AllByRecursion IsTick (events ++ e ∷ [])
  tick_added [] e are is = (is, tt)
  tick_added (x ∷ events) e are is = (are.0, tick_added events e are.1 is)

  are_ticks : (period n : ℕ) → AllByRecursion IsTick (ticks period n)
  are_ticks period zero = tt
  are_ticks period (suc n) = tick_added (ticks period n) (tick_after period n) (are_ticks period n) refl

  -- a fault of a modelled run is one of its only runner
  pub only_runner : (period n : ℕ) → (modelled_run tree world period n).fault ≡ Some fault → fault.runner ≡ 1
  only_runner period n is = ticks_runner (ticks period n) (opening tree (modelled world)) (are_ticks period n) is
