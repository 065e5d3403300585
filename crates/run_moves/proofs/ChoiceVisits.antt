-- SwitchN, IfThenElse and WhileDoElse over one visit.
use Rattle.std.proofs.Common.{◌≡◌, ℕ, Bool, true, false, not, cond, nat_eq, nat_lt, List, [], ◌∷◌, Option, Some, None, refl, sym, ap, subst, arith}
use Rattle.std.proofs.lemmas.Bool.{both_ways, cond-false, cond-true}
use Rattle.spec_run.specs.declared.memory.Memo.{Memo}
use Rattle.spec_run.specs.declared.memory.Memo.TheVariants.{Chosen}
use Rattle.spec_run.specs.declared.moves.Span.TheVariants as span
use Rattle.spec_run.specs.declared.status.Answer.{Answer}
use Rattle.spec_run.specs.declared.status.Answer.TheVariants.{Failure, Running, Skipped, Success}
use Rattle.spec_tree.specs.declared.term.Kind.TheVariants.{IfThenElse, Switch, WhileDoElse}
use Rattle.spec_run.specs.Rules.Answers.{pass_on}
use Rattle.spec_run.specs.Rules.Choices.{chosen_branch, if_then_else_after, only_branch, while_do_else_after}
use Rattle.spec_run.specs.Rules.Kinds.{rule}
use Rattle.spec_run.specs.Steps.{over, reset}
use Rattle.run_moves.specs.Choices.{answers_after, branch_after, branch_answers, branch_kept, choice_answers, choice_stops, given_up, has_branch, keeps_memo}
use Rattle.run_moves.specs.Decorators.Again.{last_answer}
use Rattle.run_moves.specs.Visits.{Hears, IsVisit}
use Rattle.run_moves.proofs.Visits.{by_answer}

-- an answer that is passed on
passed : (memo : Memo) (a : Answer) → pass_on memo a ≡ keeps_memo memo a
passed memo Running = refl
passed memo Success = refl
passed memo Failure = refl
passed memo Skipped = refl

-- ---- SwitchN

switch_after : (cases n now picked kept : ℕ) (a : Answer) (b : Bool) → nat_eq kept picked ≡ b →
    Hears (Switch cases) (cond b (chosen_branch picked) (reset (span.One kept) (chosen_branch picked)))
    (answers_after (cond b span.None (span.One kept)) picked a ∷ []) (keeps_memo (Chosen (Some picked)) a)
switch_after cases n now picked kept a true e = (by_answer (λ b. pass_on (Chosen (Some picked)) b), refl, passed (Chosen (Some picked)) a)
switch_after cases n now picked kept a false e = (by_answer (λ b. pass_on (Chosen (Some picked)) b), refl, passed (Chosen (Some picked)) a)

pub switch_hears : (cases n now picked : ℕ) (kept : Option ℕ) (a : Answer) →
    Hears (Switch cases) (rule (Switch cases) n (Chosen kept) picked now) (answers_after (given_up kept picked) picked a ∷ []) (keeps_memo (Chosen (Some picked)) a)
switch_hears cases n now picked None a = (by_answer (λ b. pass_on (Chosen (Some picked)) b), refl, passed (Chosen (Some picked)) a)
switch_hears cases n now picked (Some kept) a = switch_after cases n now picked kept a (nat_eq kept picked) refl

-- ---- IfThenElse

pub branch_hears : (n now picked place : ℕ) (a : Answer) →
    Hears IfThenElse (rule IfThenElse n (Chosen (Some place)) picked now) (answers_after span.None place a ∷ []) (keeps_memo (Chosen (Some place)) a)
branch_hears n now picked place a = (by_answer (λ b. pass_on (Chosen (Some place)) b), refl, passed (Chosen (Some place)) a)

-- no visit goes on where there is no branch
no_more : (n : ℕ) (a b : Answer) → IsVisit (λ l. choice_stops n l) 2 (a ∷ b ∷ []) → has_branch n a ≡ false → ⊥
no_more n a b visited none = both_ways (not (has_branch n a)) (visited.goes_on 1 (omega arith) (omega arith)) (ap not none)

-- .. and none stops where there is one
no_less : (n : ℕ) (a : Answer) → IsVisit (λ l. choice_stops n l) 2 (a ∷ []) → has_branch n a ≡ true → ⊥
no_less n a visited some = both_ways (not (has_branch n a)) (ap not some) (visited.ends (omega arith))

-- ---- The condition and its branch

-- after SUCCESS and FAILURE, and after another answer
by_test : {A : Type 0} (b : Bool) → (b ≡ true → A) → (b ≡ false → A) → A
by_test true then_so else_so = then_so refl
by_test false then_so else_so = else_so refl

module _ (n : ℕ) where
  if_alone : (a : Answer) → IsVisit (λ l. choice_stops n l) 2 (a ∷ []) → if_then_else_after n a ≡ keeps_memo (Chosen None) a
  if_alone Success visited = absurd (no_less n Success visited refl)
  if_alone Failure visited = by_test (nat_lt 2 n) (λ e. absurd (no_less n Failure visited e)) (λ e. cond-false (nat_lt 2 n) (chosen_branch 2) (over Failure) e)
  if_alone Running visited = refl
  if_alone Skipped visited = refl

  if_branch : (a b : Answer) → IsVisit (λ l. choice_stops n l) 2 (a ∷ b ∷ []) →
      Hears IfThenElse (if_then_else_after n a) (branch_answers (λ _. span.None) (branch_after a) (b ∷ [])) (keeps_memo (Chosen (Some (branch_after a))) b)
  if_branch Success b visited = branch_hears n 0 0 1 b
  if_branch Failure b visited = by_test (nat_lt 2 n)
      (λ e. subst (λ rest. Hears IfThenElse rest (answers_after span.None 2 b ∷ []) (keeps_memo (Chosen (Some 2)) b))
      (sym (cond-true (nat_lt 2 n) (chosen_branch 2) (over Failure) e)) (branch_hears n 0 0 2 b))
      (λ e. absurd (no_more n Failure b visited e))
  if_branch Running b visited = absurd (no_more n Running b visited refl)
  if_branch Skipped b visited = absurd (no_more n Skipped b visited refl)

  pub condition_hears : (now picked : ℕ) (answers : List Answer) → IsVisit (λ l. choice_stops n l) 2 answers →
      Hears IfThenElse (rule IfThenElse n (Chosen None) picked now) (choice_answers (λ _. span.None) answers)
      (keeps_memo (Chosen (branch_kept answers)) (last_answer answers))
  condition_hears now picked [] visited = absurd (omega (arith, visited.some))
  condition_hears now picked (a ∷ []) visited = (by_answer (λ x. if_then_else_after n x), refl, if_alone a visited)
  condition_hears now picked (a ∷ b ∷ []) visited = (by_answer (λ x. if_then_else_after n x), refl, if_branch a b visited)
  condition_hears now picked (a ∷ b ∷ c ∷ more) visited = absurd (omega (arith, visited.within))

  -- ---- WhileDoElse

  only_hears : (place : ℕ) (memo : Memo) (b : Answer) → Hears WhileDoElse (only_branch place memo) (answers_after (span.AllBut place) place b ∷ []) (keeps_memo memo b)
  only_hears place memo b = (by_answer (λ x. pass_on memo x), refl, passed memo b)

  while_alone : (memo : Memo) (a : Answer) → IsVisit (λ l. choice_stops n l) 2 (a ∷ []) → while_do_else_after n memo a ≡ keeps_memo memo a
  while_alone memo Success visited = absurd (no_less n Success visited refl)
  while_alone memo Failure visited = by_test (nat_lt 2 n) (λ e. absurd (no_less n Failure visited e)) (λ e. cond-false (nat_lt 2 n) (only_branch 2 memo) (over Failure) e)
  while_alone memo Running visited = refl
  while_alone memo Skipped visited = refl

  while_branch : (memo : Memo) (a b : Answer) → IsVisit (λ l. choice_stops n l) 2 (a ∷ b ∷ []) →
      Hears WhileDoElse (while_do_else_after n memo a) (branch_answers (λ place. span.AllBut place) (branch_after a) (b ∷ [])) (keeps_memo memo b)
  while_branch memo Success b visited = only_hears 1 memo b
  while_branch memo Failure b visited = by_test (nat_lt 2 n)
      (λ e. subst (λ rest. Hears WhileDoElse rest (answers_after (span.AllBut 2) 2 b ∷ []) (keeps_memo memo b))
      (sym (cond-true (nat_lt 2 n) (only_branch 2 memo) (over Failure) e)) (only_hears 2 memo b))
      (λ e. absurd (no_more n Failure b visited e))
  while_branch memo Running b visited = absurd (no_more n Running b visited refl)
  while_branch memo Skipped b visited = absurd (no_more n Skipped b visited refl)

  pub loop_hears : (now picked : ℕ) (memo : Memo) (answers : List Answer) → IsVisit (λ l. choice_stops n l) 2 answers →
      Hears WhileDoElse (rule WhileDoElse n memo picked now) (choice_answers (λ place. span.AllBut place) answers) (keeps_memo memo (last_answer answers))
  loop_hears now picked memo [] visited = absurd (omega (arith, visited.some))
  loop_hears now picked memo (a ∷ []) visited = (by_answer (λ x. while_do_else_after n memo x), refl, while_alone memo a visited)
  loop_hears now picked memo (a ∷ b ∷ []) visited = (by_answer (λ x. while_do_else_after n memo x), refl, while_branch memo a b visited)
  loop_hears now picked memo (a ∷ b ∷ c ∷ more) visited = absurd (omega (arith, visited.within))
