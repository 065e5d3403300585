-- What the words of rules lead to, from children with these statuses on.
use Rattle.std.proofs.Common.{◌≡◌, ℕ, true, false, List, Option, None, refl, sym, ap, subst, ◌∙◌, arith}
use Rattle.std.proofs.lemmas.Bool.{cond_both}
use Rattle.spec_run.specs.declared.memory.Memo.{Memo}
use Rattle.spec_run.specs.declared.memory.Memory.{Memory}
use Rattle.spec_run.specs.declared.moves.Span.{Span}
use Rattle.spec_run.specs.declared.status.Answer.{Answer}
use Rattle.spec_run.specs.declared.status.Status.{Status}
use Rattle.spec_run.specs.Done.{Done, State, follow}
use Rattle.base_tables.specs.Shapes.{status_at}
use Rattle.spec_run.specs.Sites.{View}
use Rattle.base_tables.specs.Sound.{Leaves, statuses}
use Rattle.spec_run.specs.Steps.{Given, Rule, child_at, is_completed, keep, reset, resets, visit, visit_or_pass}
use Rattle.spec_run.specs.Visit.{status_of}
use Rattle.run_laws.proofs.Parts.{follow_leaves, within_same}
use Rattle.run_laws.proofs.Children.{Family, size_all}
use Rattle.run_laws.proofs.Acts.{All, Changed, children_here, status_here, visit_at}
use Rattle.run_laws.proofs.Resting.{Rested, span_leaves}

module _ (F : Family) (view : View) (cs : List F.Child) (uid : ℕ) (fits : Given → List Status → Type 0) where
  abbrev Holds : Option ℕ → List Memory → State → Type 0
  Holds f ms s = All F view cs uid f ms s

  -- from children with these statuses, a rule leaves the rules of the children, and what it gives fits their statuses
  abbrev pub Leads : List Status → Rule → Type 0
  Leads ss rule = (ms : List Memory) (s : State) → statuses ms ≡ ss → Holds None ms s →
      Leaves Holds (λ g ms1 s1. fits g (statuses ms1)) uid (size_all F cs) s (rule (children_here F view cs uid) ms s)

  -- a part of the rule, and then the rule after it
  then_leads : {A : Type 0} (made : A → List Status → List Status → Type 0) (go : A → Rule) (ms : List Memory) (s : State) (d : Done A (List Memory)) →
      Leaves Holds (λ a ms1 s1. made a (statuses ms) (statuses ms1)) uid (size_all F cs) s d →
      ((a : A) (ss1 : List Status) → made a (statuses ms) ss1 → Leads ss1 (go a)) →
      Leaves Holds (λ g ms1 s1. fits g (statuses ms1)) uid (size_all F cs) s (follow d (λ ms1. ms1) (λ a ms1 s1. go a (children_here F view cs uid) ms1 s1))
  then_leads made go ms s d left goes =
      follow_leaves {rules = Holds} {fits = λ a ms1 s1. made a (statuses ms) (statuses ms1)} {rules2 = Holds} {fits2 = λ g ms1 s1. fits g (statuses ms1)}
      d (λ ms1. ms1) (λ a ms1 s1. go a (children_here F view cs uid) ms1 s1) uid (size_all F cs) uid (size_all F cs) s (omega arith) (omega arith) left
      (λ a is all w. goes a (statuses d.memory) is d.memory d.state refl all)
      (λ f low high all w. all)

  pub keep_leads : (a : Answer) (memo : Memo) (ss : List Status) → fits (record { answer = a; memo = memo }) ss → Leads ss (keep a memo)
  unfolding keep
  keep_leads a memo ss fit = λ ms s is all. record {
    sound = all;
    within = within_same uid (size_all F cs) s;
    ends = subst (λ (x : List Status). fits (record { answer = a; memo = memo }) x) (sym is) fit;
  }

  pub visit_leads : (place : ℕ) (go : Answer → Rule) (ss : List Status) → ((a : Answer) (ss1 : List Status) → Changed place (status_of a) ss ss1 → Leads ss1 (go a)) → Leads ss (visit place go)
  unfolding visit
  visit_leads place go ss goes = λ ms s is all.
      then_leads (λ a ss0 ss1. Changed place (status_of a) ss0 ss1) go ms s ((child_at (children_here F view cs uid) place).visit ms s) (visit_at F view cs uid place ms s all)
      (λ a ss1 changed. goes a ss1 (subst (λ (x : List Status). Changed place (status_of a) x ss1) is changed))

  pub pass_leads : (place : ℕ) (passed : Rule) (go : Answer → Rule) (ss : List Status) →
      (is_completed (status_at ss place) ≡ true → Leads ss passed) → (is_completed (status_at ss place) ≡ false → Leads ss (visit place go)) → Leads ss (visit_or_pass place passed go)
  unfolding visit_or_pass
  pass_leads place passed go ss passes goes = λ ms s is all.
      let here : is_completed ((child_at (children_here F view cs uid) place).status ms) ≡ is_completed (status_at ss place) = ap is_completed (status_here F view cs uid place ms s all ∙ ap (λ (x : List Status). status_at x place) is) in
      cond_both (is_completed ((child_at (children_here F view cs uid) place).status ms)) (passed (children_here F view cs uid) ms s) (visit place go (children_here F view cs uid) ms s)
      (λ d. Leaves Holds (λ g ms1 s1. fits g (statuses ms1)) uid (size_all F cs) s d)
      (λ e. passes (sym here ∙ e) ms s is all)
      (λ e. goes (sym here ∙ e) ms s is all)

  pub reset_leads : (span : Span) (rule : Rule) (ss : List Status) → ((ss1 : List Status) → Rested span ss ss1 → Leads ss1 rule) → Leads ss (reset span rule)
  unfolding reset
  reset_leads span rule ss goes = λ ms s is all.
      then_leads (λ _ ss0 ss1. Rested span ss0 ss1) (λ _. rule) ms s (resets span (children_here F view cs uid) 0 ms s) (span_leaves F view cs uid span ms s all)
      (λ _ ss1 rested. goes ss1 (subst (λ (x : List Status). Rested span x ss1) is rested))
