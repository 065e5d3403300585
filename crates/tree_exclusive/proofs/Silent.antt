-- Scripts make no note.
use Rattle.std.proofs.Common.{◌≡◌, List, [], ◌++◌, Bool, true, false, Option, Some, None, Result, Ok, Err, refl, ap, ◌∙◌}
use Rattle.spec_run.specs.declared.fault.NodeFault.{NodeFault}
use Rattle.spec_run.specs.declared.note.Note.{Note}
use Rattle.spec_run.specs.declared.status.Answer.{Answer}
use Rattle.spec_run.specs.declared.status.Answer.TheVariants.{Running, Success, Failure, Skipped}
use Rattle.spec_script.specs.declared.syntax.Script.{Script}
use Rattle.spec_run.specs.Done.{Done, State, carried, done, ends, follow}
use Rattle.spec_run.specs.NodeScripts.{answers_where, goes_on, goes_on_by, guard, guards_answer, posts, script_holds, script_if_there, script_run, truth_of}
use Rattle.spec_run.specs.Sites.{Site}

abbrev pub Silent : {A M : Type 0} → Done A M → Type 0
Silent d = d.notes ≡ []

module _ {A M B N : Type 0} where
  carried_silent : (r : Result A NodeFault) (d : Done A M) (place : M → N) (go : A → M → State → Done B N) → Silent d → ((a : A) → Silent (go a d.memory d.state)) → Silent (carried r d place go)
  carried_silent (Ok a) d place go silent goes = ap (λ (ns : List Note). ns ++ (go a d.memory d.state).notes) silent ∙ goes a
  carried_silent (Err f) d place go silent goes = silent

  pub follow_silent : (d : Done A M) (place : M → N) (go : A → M → State → Done B N) → Silent d → ((a : A) → Silent (go a d.memory d.state)) → Silent (follow d place go)
  follow_silent d = carried_silent d.answer d

module _ (site : Site) where
  pub holds_silent : (script : Script) (s : State) → Silent (script_holds site script s)
  holds_silent script s = follow_silent (script_run site script s) (λ _. tt) (λ value _ s1. ends (truth_of site.uid value) tt s1) refl (λ value. refl)

  pub if_there_silent : (script : Option Script) (s : State) → Silent (script_if_there site script s)
  if_there_silent None s = refl
  if_there_silent (Some script) s = follow_silent (script_run site script s) (λ _. tt) (λ value _ s1. done tt tt s1) refl (λ value. refl)

  answers_silent : (truth : Bool) (a : Answer) (next : State → Done (Option Answer) (Unit {0})) (b : Bool) (s : State) → Silent (next s) → Silent (answers_where truth a next b s)
  answers_silent true a next true s silent = refl
  answers_silent false a next false s silent = refl
  answers_silent true a next false s silent = silent
  answers_silent false a next true s silent = silent

  guard_silent : (script : Option Script) (truth : Bool) (a : Answer) (next : State → Done (Option Answer) (Unit {0})) → ((s : State) → Silent (next s)) → (s : State) → Silent (guard site script truth a next s)
  guard_silent None truth a next silent s = silent s
  guard_silent (Some script) truth a next silent s =
      follow_silent (script_holds site script s) (λ _. tt) (λ b _ s1. answers_where truth a next b s1) (holds_silent script s)
      (λ b. answers_silent truth a next b (script_holds site script s).state (silent (script_holds site script s).state))

  pub guards_silent : (s : State) → Silent (guards_answer site s)
  guards_silent =
      guard_silent site.node.guards.failure_if true Failure _
      (guard_silent site.node.guards.success_if true Success _
      (guard_silent site.node.guards.skip_if true Skipped _
      (guard_silent site.node.guards.while_true false Skipped (λ s1. done None tt s1) (λ s1. refl))))

  by_silent : (script : Option Script) (s : State) → Silent (goes_on_by site script s)
  by_silent None s = refl
  by_silent (Some script) s = holds_silent script s

  pub goes_on_silent : (s : State) → Silent (goes_on site s)
  goes_on_silent s = by_silent site.node.guards.while_true s

  two_silent : (one other : Option Script) (s : State) → Silent (follow (script_if_there site one s) (λ _. tt) (λ _ _ s1. script_if_there site other s1))
  two_silent one other s =
      follow_silent (script_if_there site one s) (λ _. tt) (λ _ _ s1. script_if_there site other s1) (if_there_silent one s)
      (λ _. if_there_silent other (script_if_there site one s).state)

  pub posts_silent : (a : Answer) (s : State) → Silent (posts site a s)
  posts_silent Running s = refl
  posts_silent Skipped s = refl
  posts_silent Success s = two_silent site.node.guards.on_success site.node.guards.post s
  posts_silent Failure s = two_silent site.node.guards.on_failure site.node.guards.post s
