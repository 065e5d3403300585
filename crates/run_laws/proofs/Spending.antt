-- How many calls of start and running the parts of rules make.
use Rattle.std.proofs.Common.{◌≡◌, ℕ, suc, ◌+◌, ◌≤◌, List, [], ◌∷◌, ◌++◌, Option, Some, None, slice_get, Result, Ok, Err, sym, ap, subst, ◌∙◌, arith, ⊎_elim}
use Rattle.std.proofs.lemmas.Bool.{cond_both}
use Rattle.spec_run.specs.declared.fault.NodeFault.{NodeFault}
use Rattle.spec_run.specs.declared.memory.Memo.{Memo}
use Rattle.spec_run.specs.declared.memory.Memo.TheVariants.{Nothing}
use Rattle.spec_run.specs.declared.memory.Memory.{Memory}
use Rattle.spec_run.specs.declared.moves.Span.{Span}
use Rattle.spec_run.specs.declared.moves.Span.TheVariants as span
use Rattle.spec_run.specs.declared.status.Answer.{Answer}
use Rattle.spec_run.specs.declared.status.Answer.TheVariants as answer
use Rattle.spec_run.specs.Done.{Call, Done, State, carried, done, follow}
use Rattle.spec_run.specs.Rules.Answers.{pass_on}
use Rattle.spec_run.specs.Sites.{View, memory_at}
use Rattle.base_tables.specs.Sound.{Left, begun_calls}
use Rattle.spec_run.specs.Steps.{Child, Rule, child_at, is_completed, keep, over, reset, reset_within, resets, spans, visit, visit_or_pass}
use Rattle.run_laws.proofs.Children.{Family, size_all}
use Rattle.run_laws.proofs.Acts.{All, children_here, visit_at}
use Rattle.run_laws.proofs.Resting.{span_leaves}
use Rattle.run_laws.proofs.Seats.{seated}
use Rattle.run_laws.proofs.Shares.{share, share_of}

pub begun_both : (xs ys : List Call) → begun_calls (xs ++ ys) ≡ begun_calls xs + begun_calls ys
begun_both [] ys = omega arith
begun_both (x ∷ xs) ys = omega (arith, begun_both xs ys)

-- this part of an event makes at most this many calls of start and running
abbrev pub Spends : {A M : Type 0} → ℕ → Done A M → Type 0
Spends most d = begun_calls d.calls ≤ most

module _ {A M B N : Type 0} {rules : Option ℕ → M → State → Type 0} {fits : A → M → State → Type 0} where
  carried_spends :
      (first rest most uid size : ℕ) (s : State) (r : Result A NodeFault) (d : Done A M) (place : M → N) (go : A → M → State → Done B N) → first + rest ≤ most →
      Left rules fits uid size s r d.memory d.state → Spends first d → ((a : A) → rules None d.memory d.state → Spends rest (go a d.memory d.state)) → Spends most (carried r d place go)
  carried_spends first rest most uid size s (Ok a) d place go sum left here goes = omega (arith, sum, here, goes a left.sound, begun_both d.calls (go a d.memory d.state).calls)
  carried_spends first rest most uid size s (Err f) d place go sum left here goes = omega (arith, sum, here)

  -- a part that keeps the rules, and the part after it
  pub follow_spends :
      (first rest most uid size : ℕ) (s : State) (d : Done A M) (place : M → N) (go : A → M → State → Done B N) → first + rest ≤ most →
      Left rules fits uid size s d.answer d.memory d.state → Spends first d → ((a : A) → rules None d.memory d.state → Spends rest (go a d.memory d.state)) → Spends most (follow d place go)
  follow_spends first rest most uid size s d = carried_spends first rest most uid size s d.answer d

module _ {A M B N : Type 0} (first rest most : ℕ) where
  carried_with : (r : Result A NodeFault) (d : Done A M) (place : M → N) (go : A → M → State → Done B N) → first + rest ≤ most → Spends first d → ((a : A) → Spends rest (go a d.memory d.state)) → Spends most (carried r d place go)
  carried_with (Ok a) d place go sum here goes = omega (arith, sum, here, goes a, begun_both d.calls (go a d.memory d.state).calls)
  carried_with (Err f) d place go sum here goes = omega (arith, sum, here)

  -- a part, whatever it leaves, and the part after it
  pub follow_with : (d : Done A M) (place : M → N) (go : A → M → State → Done B N) → first + rest ≤ most → Spends first d → ((a : A) → Spends rest (go a d.memory d.state)) → Spends most (follow d place go)
  follow_with d = carried_with d.answer d

-- a part that makes no such call, and the part after it
pub follow_free : {A M B N : Type 0} (d : Done A M) (place : M → N) (go : A → M → State → Done B N) → Spends 0 d → ((a : A) → Spends 0 (go a d.memory d.state)) → Spends 0 (follow d place go)
follow_free d place go here goes = follow_with 0 0 0 d place go (omega arith) here goes

-- a reset of a child makes no such call
abbrev pub ResetsAreFree : Family → Type 0
ResetsAreFree F = (c : F.Child) (view : View) (uid : ℕ) (m : Memory) (s : State) → Spends 0 ((F.meaning c).reset view uid m s)

-- a bound for each of some children: a visit makes at most this many such calls, and a reset none
pub record Labour (F : Family) (cs : List F.Child) : Type 0 where
  pub work : F.Child → ℕ
  pub visit : (place : ℕ) (c : F.Child) → slice_get cs place ≡ Some c → (view : View) (uid : ℕ) (m : Memory) (s : State) → F.rules c view.rows None uid m s →
      Spends (work c) ((F.meaning c).visit view uid m s)
  pub reset : ResetsAreFree F

module _ (F : Family) (free : ResetsAreFree F) (view : View) (cs : List F.Child) (uid : ℕ) where
  abbrev here : List Child
  here = children_here F view cs uid

  reset_spends : (place : ℕ) (ms : List Memory) (s : State) → Spends 0 ((child_at here place).reset ms s)
  reset_spends place ms s =
      let Goal : Child → Type 0 = λ child. Spends 0 (child.reset ms s) in
      ⊎_elim
      (λ there. subst Goal (sym there.is_child) (free there.who view there.at (memory_at ms place) s))
      (λ none. subst Goal (sym none.1) (omega arith))
      (seated F view cs uid place)

  resets_spend : (span : Span) (ks : List Child) (first : ℕ) (ms : List Memory) (s : State) → ((i : ℕ) → child_at ks i ≡ child_at here (first + i)) → Spends 0 (resets span ks first ms s)
  resets_spend span [] first ms s same = omega arith
  resets_spend span (k ∷ ks) first ms s same =
      follow_free (reset_within span first k ms s) (λ ms1. ms1) (λ _ ms1 s1. resets span ks (first + 1) ms1 s1)
      (cond_both (spans span first) (k.reset ms s) (done tt ms s) (λ d. Spends 0 d)
      (λ _. subst (λ (child : Child). Spends 0 (child.reset ms s)) (sym (same 0)) (reset_spends (first + 0) ms s))
      (λ _. omega arith))
      (λ _. resets_spend span ks (first + 1) (reset_within span first k ms s).memory (reset_within span first k ms s).state (λ i. same (suc i) ∙ ap (child_at here) (let e : first + suc i ≡ first + 1 + i = omega arith in e)))

  -- the resets of the children of a span make no such call
  pub span_spends : (span : Span) (ms : List Memory) (s : State) → Spends 0 (resets span here 0 ms s)
  span_spends span ms s = resets_spend span here 0 ms s (λ i. ap (child_at here) (let e : i ≡ 0 + i = omega arith in e))

module _ (F : Family) (cs : List F.Child) (L : Labour F cs) (view : View) (uid : ℕ) where
  abbrev all_here : List Child
  all_here = children_here F view cs uid

  abbrev Holds : Option ℕ → List Memory → State → Type 0
  Holds f ms s = All F view cs uid f ms s

  -- from children that keep their rules, this rule makes at most this many such calls
  abbrev pub Makes : ℕ → Rule → Type 0
  Makes most rule = (ms : List Memory) (s : State) → Holds None ms s → Spends most (rule all_here ms s)

  visit_spends : (place : ℕ) (ms : List Memory) (s : State) → Holds None ms s → Spends (share L.work cs place) ((child_at all_here place).visit ms s)
  visit_spends place ms s all =
      let Goal : Child → Type 0 = λ child. Spends (share L.work cs place) (child.visit ms s) in
      ⊎_elim
      (λ there. subst Goal (sym there.is_child) (let spent : Spends (L.work there.who) ((F.meaning there.who).visit view there.at (memory_at ms place) s) = L.visit place there.who there.seat.is view there.at (memory_at ms place) s (there.seat.sound ms s all) in omega (arith, spent, share_of L.work cs place there.who there.seat.is)))
      (λ none. subst Goal (sym none.1) (omega arith))
      (seated F view cs uid place)

  pub keep_makes : (most : ℕ) (a : Answer) (memo : Memo) → Makes most (keep a memo)
  unfolding keep
  keep_makes most a memo = λ ms s all. omega arith

  pub visit_makes : (rest most place : ℕ) (go : Answer → Rule) → share L.work cs place + rest ≤ most → ((a : Answer) → Makes rest (go a)) → Makes most (visit place go)
  unfolding visit
  visit_makes rest most place go sum goes = λ ms s all.
      let d : Done Answer (List Memory) = (child_at all_here place).visit ms s in
      follow_spends (share L.work cs place) rest most uid (size_all F cs) s d (λ ms1. ms1) (λ a ms1 s1. go a all_here ms1 s1) sum
      (visit_at F view cs uid place ms s all) (visit_spends place ms s all) (λ a sound. goes a d.memory d.state sound)

  pub pass_makes : (most place : ℕ) (passed : Rule) (go : Answer → Rule) → Makes most passed → Makes most (visit place go) → Makes most (visit_or_pass place passed go)
  unfolding visit_or_pass
  pass_makes most place passed go passes goes = λ ms s all.
      cond_both (is_completed ((child_at all_here place).status ms)) (passed all_here ms s) (visit place go all_here ms s) (λ d. Spends most d) (λ _. passes ms s all) (λ _. goes ms s all)

  pub reset_makes : (most : ℕ) (span : Span) (rule : Rule) → Makes most rule → Makes most (reset span rule)
  unfolding reset
  reset_makes most span rule makes = λ ms s all.
      let d : Done (Unit {0}) (List Memory) = resets span all_here 0 ms s in
      follow_spends 0 most most uid (size_all F cs) s d (λ ms1. ms1) (λ _ ms1 s1. rule all_here ms1 s1) (omega arith)
      (span_leaves F view cs uid span ms s all) (span_spends F L.reset view cs uid span ms s) (λ _ sound. makes d.memory d.state sound)

  pub over_makes : (most : ℕ) (a : Answer) → Makes most (over a)
  over_makes most a = reset_makes most span.All (keep a Nothing) (keep_makes most a Nothing)

  pub pass_on_makes : (most : ℕ) (memo : Memo) (a : Answer) → Makes most (pass_on memo a)
  pass_on_makes most memo answer.Running = keep_makes most answer.Running memo
  pass_on_makes most memo answer.Success = over_makes most answer.Success
  pass_on_makes most memo answer.Failure = over_makes most answer.Failure
  pass_on_makes most memo answer.Skipped = over_makes most answer.Skipped
