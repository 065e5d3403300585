-- Switch, IfThenElse and WhileDoElse keep the rules.
use Rattle.std.proofs.Common.{◌≡◌, ℕ, ◌≤◌, List, true, false, not, nat_eq, nat_lt, Some, None, refl, ap, subst, ◌∙◌, arith, ⊎_elim}
use Rattle.std.proofs.lemmas.Bool.{cases_eq, cond_both, eqb-true, eq-eqb, ne_eqb}
use Rattle.spec_run.specs.declared.memory.Memo.TheVariants.{Nothing, Chosen}
use Rattle.spec_run.specs.declared.moves.Span.TheVariants as span
use Rattle.spec_run.specs.declared.status.Answer.{Answer}
use Rattle.spec_run.specs.declared.status.Answer.TheVariants as answer
use Rattle.spec_run.specs.declared.status.Status.{Status}
use Rattle.spec_run.specs.declared.status.Status.TheVariants as status
use Rattle.spec_tree.specs.declared.term.Kind.TheVariants.{Switch, IfThenElse, WhileDoElse}
use Rattle.spec_run.specs.Rules.Answers.{pass_on}
use Rattle.spec_run.specs.Rules.Choices.{chosen_branch, if_then_else, if_then_else_after, only_branch, switch, while_do_else, while_do_else_after}
use Rattle.base_tables.specs.Shapes.{AllIdle, BranchRuns, IdleFrom, NoneCompleted, OneRuns, status_at}
use Rattle.spec_run.specs.Steps.{is_completed, over, reset, visit}
use Rattle.spec_run.specs.Visit.{status_of}
use Rattle.run_laws.proofs.Acts.{Changed, others}
use Rattle.run_laws.proofs.Resting.{Rested}
use Rattle.run_laws.proofs.Nodes.{Goes, Node, is_over, keeps, passes_on, resets_first, visits}

-- all children are IDLE, except the one at this place
abbrev pub OthersIdle : ℕ → List Status → Type 0
OthersIdle place ss = (k : ℕ) → (k ≡ place → ⊥) → status_at ss k ≡ status.Idle

-- the visited child is the only RUNNING one where it answers RUNNING
pub runs_alone : (place : ℕ) (a : Answer) (ss ss1 : List Status) → OthersIdle place ss → Changed place (status_of a) ss ss1 → a ≡ answer.Running → OneRuns place ss1
runs_alone place a ss ss1 idle changed is = record { runs = changed.here ∙ ap status_of is; others = λ k other. others changed k other ∙ idle k other }

-- all children are IDLE after a reset of the only one that was not
pub released : (kept : ℕ) (ss ss1 : List Status) → OthersIdle kept ss → Rested (span.One kept) ss ss1 → AllIdle ss1
released kept ss ss1 idle rested = λ k from. ⊎_elim
    (λ same. rested.away k (eq-eqb k kept same))
    (λ other. rested.stays k (ne_eqb k kept other) ∙ idle k other)
    (cases_eq k kept)

-- ---- Switch

module _ (n : Node) (cases : ℕ) where
  chosen_goes : (place : ℕ) (ss : List Status) → OthersIdle place ss → Goes n (Switch cases) ss (chosen_branch place)
  chosen_goes place ss idle =
      visits n (Switch cases) place (λ a. pass_on (Chosen (Some place)) a) ss
      (λ a ss1 changed. passes_on n (Switch cases) (Chosen (Some place)) a ss1 (runs_alone place a ss ss1 idle changed))

  pub switch_starts : (picked : ℕ) (ss : List Status) → AllIdle ss → Goes n (Switch cases) ss (switch None picked)
  switch_starts picked ss idle = chosen_goes picked ss (λ k other. idle k (omega arith))

  pub switch_goes : (kept picked : ℕ) (ss : List Status) → OneRuns kept ss → Goes n (Switch cases) ss (switch (Some kept) picked)
  switch_goes kept picked ss runs =
      cond_both (nat_eq kept picked) (chosen_branch picked) (reset (span.One kept) (chosen_branch picked)) (λ rule. Goes n (Switch cases) ss rule)
      (λ same. chosen_goes picked ss (subst (λ (k : ℕ). OthersIdle k ss) (eqb-true kept picked same) runs.others))
      (λ _. resets_first n (Switch cases) (span.One kept) (chosen_branch picked) ss
      (λ ss1 rested. chosen_goes picked ss1 (λ k other. released kept ss ss1 runs.others rested k (omega arith))))

-- ---- IfThenElse

-- the branch at this place can be visited: the condition has completed, and the other branch is IDLE
record BranchStarts (place : ℕ) (ss : List Status) : Type 0 where
  is_branch : 1 ≤ place
  condition : is_completed (status_at ss 0) ≡ true
  other : (k : ℕ) → 1 ≤ k → (k ≡ place → ⊥) → status_at ss k ≡ status.Idle

branch_runs : (place : ℕ) (a : Answer) (ss ss1 : List Status) → BranchStarts place ss → Changed place (status_of a) ss ss1 → a ≡ answer.Running → BranchRuns place ss1
branch_runs place a ss ss1 starts changed is = record {
  is_branch = starts.is_branch;
  runs = changed.here ∙ ap status_of is;
  condition = ap is_completed (others changed 0 (λ same. absurd (omega (arith, same, starts.is_branch)))) ∙ starts.condition;
  others = λ k from other. others changed k other ∙ starts.other k from other;
}

-- the condition has given this answer
judged : (place : ℕ) (st : Status) (ss ss1 : List Status) → 1 ≤ place → IdleFrom 1 ss → Changed 0 st ss ss1 → is_completed st ≡ true → BranchStarts place ss1
judged place st ss ss1 is_branch idle changed completed = record {
  is_branch = is_branch;
  condition = ap is_completed changed.here ∙ completed;
  other = λ k from other. others changed k (λ same. absurd (omega (arith, same, from))) ∙ idle k from;
}

module _ (n : Node) where
  branch_goes : (place : ℕ) (ss : List Status) → BranchStarts place ss → Goes n IfThenElse ss (chosen_branch place)
  branch_goes place ss starts =
      visits n IfThenElse place (λ a. pass_on (Chosen (Some place)) a) ss
      (λ a ss1 changed. passes_on n IfThenElse (Chosen (Some place)) a ss1 (branch_runs place a ss ss1 starts changed))

  condition_goes : (children : ℕ) (a : Answer) (ss ss1 : List Status) → IdleFrom 1 ss → Changed 0 (status_of a) ss ss1 → Goes n IfThenElse ss1 (if_then_else_after children a)
  condition_goes children answer.Running ss ss1 idle changed =
      keeps n IfThenElse answer.Running (Chosen None) ss1 (runs_alone 0 answer.Running ss ss1 (λ k other. idle k (omega (arith, other))) changed refl)
  condition_goes children answer.Success ss ss1 idle changed = branch_goes 1 ss1 (judged 1 status.Success ss ss1 (omega arith) idle changed refl)
  condition_goes children answer.Failure ss ss1 idle changed =
      cond_both (nat_lt 2 children) (chosen_branch 2) (over answer.Failure) (λ rule. Goes n IfThenElse ss1 rule)
      (λ _. branch_goes 2 ss1 (judged 2 status.Failure ss ss1 (omega arith) idle changed refl))
      (λ _. is_over n IfThenElse answer.Failure ss1 refl)
  condition_goes children answer.Skipped ss ss1 idle changed = is_over n IfThenElse answer.Skipped ss1 refl

  pub if_then_else_starts : (children : ℕ) (ss : List Status) → IdleFrom 1 ss → Goes n IfThenElse ss (if_then_else children None)
  if_then_else_starts children ss idle = visits n IfThenElse 0 (λ a. if_then_else_after children a) ss (λ a ss1 changed. condition_goes children a ss ss1 idle changed)

  pub if_then_else_goes : (children place : ℕ) (ss : List Status) → BranchRuns place ss → Goes n IfThenElse ss (if_then_else children (Some place))
  if_then_else_goes children place ss runs = branch_goes place ss (record { is_branch = runs.is_branch; condition = runs.condition; other = runs.others })

-- ---- WhileDoElse

-- where the visited child answers RUNNING and no other child had completed, none has
pub none_completed : (place : ℕ) (a : Answer) (ss ss1 : List Status) → ((k : ℕ) → (k ≡ place → ⊥) → is_completed (status_at ss k) ≡ false) → Changed place (status_of a) ss ss1 → a ≡ answer.Running → NoneCompleted ss1
none_completed place a ss ss1 none changed is = λ k. ⊎_elim
    (λ same. ap is_completed (ap (status_at ss1) same ∙ changed.here ∙ ap status_of is))
    (λ other. ap is_completed (others changed k other) ∙ none k other)
    (cases_eq k place)

module _ (n : Node) where
  only_branch_goes : (place : ℕ) (ss : List Status) → Goes n WhileDoElse ss (only_branch place Nothing)
  only_branch_goes place ss =
      resets_first n WhileDoElse (span.AllBut place) (visit place (λ a. pass_on Nothing a)) ss
      (λ ss1 rested. visits n WhileDoElse place (λ a. pass_on Nothing a) ss1
      (λ a ss2 changed. passes_on n WhileDoElse Nothing a ss2
      (none_completed place a ss1 ss2 (λ k other. ap is_completed (rested.away k (ap not (ne_eqb k place other)))) changed)))

  while_goes : (children : ℕ) (a : Answer) (ss ss1 : List Status) → NoneCompleted ss → Changed 0 (status_of a) ss ss1 → Goes n WhileDoElse ss1 (while_do_else_after children Nothing a)
  while_goes children answer.Running ss ss1 none changed = keeps n WhileDoElse answer.Running Nothing ss1 (none_completed 0 answer.Running ss ss1 (λ k other. none k) changed refl)
  while_goes children answer.Success ss ss1 none changed = only_branch_goes 1 ss1
  while_goes children answer.Failure ss ss1 none changed =
      cond_both (nat_lt 2 children) (only_branch 2 Nothing) (over answer.Failure) (λ rule. Goes n WhileDoElse ss1 rule)
      (λ _. only_branch_goes 2 ss1)
      (λ _. is_over n WhileDoElse answer.Failure ss1 refl)
  while_goes children answer.Skipped ss ss1 none changed = is_over n WhileDoElse answer.Skipped ss1 refl

  pub while_do_else_goes : (children : ℕ) (ss : List Status) → NoneCompleted ss → Goes n WhileDoElse ss (while_do_else children Nothing)
  while_do_else_goes children ss none = visits n WhileDoElse 0 (λ a. while_do_else_after children Nothing a) ss (λ a ss1 changed. while_goes children a ss ss1 none changed)
