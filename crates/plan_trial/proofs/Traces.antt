-- A modelled run is its ticks, one after another, and then the finish, unless a tick faults.
use Rattle.std.proofs.Common.{◌≡◌, ◌≢◌, ℕ, zero, suc, ◌+◌, ◌-◌, ◌<◌, ◌≤◌, Bool, true, false, List, [], ◌∷◌, ◌++◌, Option, Some, None, refl, ap, sym, ◌∙◌, subst, arith, append_assoc, append-nil, ◌⊎◌, inl, inr}
use Rattle.std.specs.List.{list_any}
use Rattle.std.proofs.lemmas.Bool.{cases_eq, cases_lt}
use Rattle.spec_run.specs.declared.fault.RunFault.{RunFault}
use Rattle.spec_tree.specs.declared.term.Tree.{Tree}
use Rattle.spec_world.specs.declared.world.Event.{Event}
use Rattle.spec_world.specs.declared.world.World.{World}
use Rattle.spec_run.specs.Run.{RunState, RunnerCall, Stepped, Trace, before_rest, finish, finishes, opening, run_from, then_rest}
use Rattle.spec_plan.specs.declared.pace.Pace.{Pace}
use Rattle.spec_plan.specs.declared.verdict.Verdict.{Verdict}
use Rattle.spec_plan.specs.declared.verdict.Verdict.TheVariants.{Reaches, Fails, GoesOn}
use Rattle.spec_plan.specs.Modelled.{IsLast, ReachedAt, decided, goals_hold, is_failed_root, modelled, modelled_run, next_tick, state_after, tick_after, ticks, verdict_after, verdict_by}
use Rattle.plan_trial.specs.Ticking.{calls_after}

-- ---- A step before the rest

calls_on : (d : Stepped) (rest : RunState → Trace) → d.fault ≡ None → (then_rest d rest).calls ≡ d.calls ++ (rest d.state).calls
calls_on d rest none = ap (λ (f : Option RunFault). (before_rest f d rest).calls) none

fault_on : (d : Stepped) (rest : RunState → Trace) → d.fault ≡ None → (then_rest d rest).fault ≡ (rest d.state).fault
fault_on d rest none = ap (λ (f : Option RunFault). (before_rest f d rest).fault) none

calls_off : (d : Stepped) (rest : RunState → Trace) (f : RunFault) → d.fault ≡ Some f → (then_rest d rest).calls ≡ d.calls
calls_off d rest f some = ap (λ (o : Option RunFault). (before_rest o d rest).calls) some

fault_off : (d : Stepped) (rest : RunState → Trace) (f : RunFault) → d.fault ≡ Some f → (then_rest d rest).fault ≡ Some f
fault_off d rest f some = ap (λ (o : Option RunFault). (before_rest o d rest).fault) some

module _ (tree : Tree) (world : World) (period : ℕ) where
  abbrev begin : RunState
  begin = opening tree (modelled world)

  abbrev from : List Event → RunState → Trace
  from events s = run_from tree (modelled world) events s

  record Prefix (n : ℕ) (ys : List Event) : Type 0 where
    calls : (from (ticks period n ++ ys) begin).calls ≡ calls_after tree world period n ++ (from ys (state_after tree world period n)).calls
    fault : (from (ticks period n ++ ys) begin).fault ≡ (from ys (state_after tree world period n)).fault

  -- the first ticks, where none faults
  prefix : (n : ℕ) (ys : List Event) → ((k : ℕ) → k < n → (next_tick tree world period k).fault ≡ None) → Prefix n ys
  prefix zero ys none = record { calls = refl; fault = refl }
  prefix (suc n) ys none =
      let e = tick_after period n in
      let d = next_tick tree world period n in
      let before = prefix n (e ∷ ys) (λ (k : ℕ) low. none k (omega (arith, low))) in
      let own = none n (omega arith) in
      let same : ticks period (suc n) ++ ys ≡ ticks period n ++ e ∷ ys = append_assoc (ticks period n) (e ∷ []) ys in
      record {
        calls = ap (λ (es : List Event). (from es begin).calls) same ∙ before.calls
            ∙ ap (λ (cs : List RunnerCall). calls_after tree world period n ++ cs) (calls_on d (from ys) own)
            ∙ sym (append_assoc (calls_after tree world period n) d.calls (from ys d.state).calls);
        fault = ap (λ (es : List Event). (from es begin).fault) same ∙ before.fault ∙ fault_on d (from ys) own;
      }

  abbrev last_finish : ℕ → Stepped
  last_finish n = finish tree (modelled world) 1 (state_after tree world period n)

  none_after : RunState → Trace
  none_after s = finishes tree (modelled world) 2 0 s

  finish_calls : (d : Stepped) → (then_rest d (finishes tree (modelled world) 2 0)).calls ≡ d.calls
  finish_calls d = elim d.fault as (λ (o : Option RunFault). (before_rest o d (finishes tree (modelled world) 2 0)).calls ≡ d.calls) [ None ↦ append-nil d.calls | Some f ↦ refl ]

  finish_fault : (d : Stepped) → (then_rest d (finishes tree (modelled world) 2 0)).fault ≡ d.fault
  finish_fault d = elim d.fault as (λ (o : Option RunFault). (before_rest o d (finishes tree (modelled world) 2 0)).fault ≡ o) [ None ↦ refl | Some f ↦ refl ]

  -- what a run of so many ticks is
  pub record Whole (n : ℕ) (calls : List RunnerCall) (fault : Option RunFault) : Type 0 where
    pub calls_are : (modelled_run tree world period n).calls ≡ calls
    pub fault_is : (modelled_run tree world period n).fault ≡ fault

  -- where no tick faults, the finish is the last
  pub ran : (n : ℕ) → ((k : ℕ) → k < n → (next_tick tree world period k).fault ≡ None) → Whole n (calls_after tree world period n ++ (last_finish n).calls) (last_finish n).fault
  ran n none =
      let p = prefix n [] none in
      let same : ticks period n ++ [] ≡ ticks period n = append-nil (ticks period n) in
      record {
        calls_are = ap (λ (es : List Event). (from es begin).calls) (sym same) ∙ p.calls ∙ ap (λ (cs : List RunnerCall). calls_after tree world period n ++ cs) (finish_calls (last_finish n));
        fault_is = ap (λ (es : List Event). (from es begin).fault) (sym same) ∙ p.fault ∙ finish_fault (last_finish n);
      }

  -- a tick that faults is the last
  pub broke : (n : ℕ) (f : RunFault) → ((k : ℕ) → k < n → (next_tick tree world period k).fault ≡ None) → (next_tick tree world period n).fault ≡ Some f → Whole (n + 1) (calls_after tree world period (n + 1)) (Some f)
  broke n f none some =
      let d = next_tick tree world period n in
      let p = prefix n (tick_after period n ∷ []) none in
      let more : suc n ≡ n + 1 = omega arith in
      subst (λ (m : ℕ). Whole m (calls_after tree world period m) (Some f)) more (record {
        calls_are = p.calls ∙ ap (λ (cs : List RunnerCall). calls_after tree world period n ++ cs) (calls_off d (from []) f some);
        fault_is = p.fault ∙ fault_off d (from []) f some;
      })

  -- the calls of the first ticks are the first calls of more
  pub more_calls : (n m : ℕ) → n ≤ m → (more : List RunnerCall) × (calls_after tree world period m ≡ calls_after tree world period n ++ more)
  more_calls n zero low = let e : zero ≡ n = omega (arith, low) in ([], ap (calls_after tree world period) e ∙ sym (append-nil (calls_after tree world period n)))
  more_calls n (suc m) low = elim (cases_eq n (suc m)) [
    | inl same ↦ ([], ap (calls_after tree world period) (sym same) ∙ sym (append-nil (calls_after tree world period n)))
    | inr other ↦
        let before = more_calls n m (omega (arith, low, other)) in
        let own = (next_tick tree world period m).calls in
        (before.0 ++ own, ap (λ (cs : List RunnerCall). cs ++ own) before.1 ∙ append_assoc (calls_after tree world period n) before.0 own)
  ]

-- ---- Verdicts

module _ (tree : Tree) (world : World) (period : ℕ) where
  pub decided_none : (n : ℕ) (v : Verdict) → verdict_after tree world period n ≡ Some v → (next_tick tree world period n).fault ≡ None
  decided_none n v is =
      let d = next_tick tree world period n in
      let w = decided (goals_hold world d.state.facts) (list_any is_failed_root d.block.notes) in
      elim d.fault as (λ (o : Option RunFault). verdict_by o w ≡ Some v → o ≡ None) [ None ↦ λ e. refl | Some f ↦ λ e. absurd (cc e) ] is

  decided_is : (n : ℕ) (v : Verdict) → verdict_after tree world period n ≡ Some v →
      decided (goals_hold world (next_tick tree world period n).state.facts) (list_any is_failed_root (next_tick tree world period n).block.notes) ≡ v
  decided_is n v is =
      let d = next_tick tree world period n in
      let w = decided (goals_hold world d.state.facts) (list_any is_failed_root d.block.notes) in
      elim d.fault as (λ (o : Option RunFault). verdict_by o w ≡ Some v → w ≡ v) [ None ↦ λ e. cc e | Some f ↦ λ e. absurd (cc e) ] is

  reaches_goals : (goals failed : Bool) → decided goals failed ≡ Reaches → goals ≡ true
  reaches_goals true failed is = refl
  reaches_goals false true is = cc is
  reaches_goals false false is = cc is

  goes_on_goals : (goals failed : Bool) → decided goals failed ≡ GoesOn → goals ≡ false
  goes_on_goals true failed is = cc is
  goes_on_goals false failed is = refl

  -- a run that has come to the goals
  pub reached_at : (pace : Pace) (n : ℕ) → pace.period ≡ period → IsLast tree world pace n → verdict_after tree world period n ≡ Some Reaches → ReachedAt tree world period (n + 1)
  reached_at pace n same last is =
      let own : (k : ℕ) → k < n → verdict_after tree world period k ≡ Some GoesOn = λ k low. subst (λ (p : ℕ). verdict_after tree world p k ≡ Some GoesOn) same (last.before k low) in
      let more : suc n ≡ n + 1 = omega arith in
      subst (ReachedAt tree world period) more (record {
        first = omega arith;
        unbroken = λ k low. elim (cases_eq k n) [
          | inl e ↦ subst (λ (j : ℕ). (next_tick tree world period j).fault ≡ None) (sym e) (decided_none n Reaches is)
          | inr e ↦ decided_none k GoesOn (own k (omega (arith, low, e)))
        ];
        reached = reaches_goals _ _ (decided_is n Reaches is);
        not_before = λ k some low. earlier k some (λ j e. own j (omega (arith, low, e)));
      }) where
        earlier : (k : ℕ) → 1 ≤ k → ((j : ℕ) → suc j ≡ k → verdict_after tree world period j ≡ Some GoesOn) → goals_hold world (state_after tree world period k).facts ≡ false
        earlier zero some own = absurd (omega (arith, some))
        earlier (suc j) some own = goes_on_goals _ _ (decided_is j GoesOn (own j refl))

-- ---- The last tick

is_on : (o : Option Verdict) → (o ≡ Some GoesOn) ⊎ (o ≢ Some GoesOn)
is_on None = inr (λ e. cc e)
is_on (Some GoesOn) = inl refl
is_on (Some Reaches) = inr (λ e. cc e)
is_on (Some Fails) = inr (λ e. cc e)

-- a run that goes on has a last tick
pub some_last : (tree : Tree) (world : World) (pace : Pace) (n : ℕ) → n < pace.ticks → ((k : ℕ) → k < n → verdict_after tree world pace.period k ≡ Some GoesOn) →
    (m : ℕ) × (n ≤ m) × IsLast tree world pace m
some_last tree world pace n low before = search (pace.ticks - n) n (omega (arith, low)) low before where
  search : (left n : ℕ) → n + left ≡ pace.ticks → n < pace.ticks → ((k : ℕ) → k < n → verdict_after tree world pace.period k ≡ Some GoesOn) → (m : ℕ) × (n ≤ m) × IsLast tree world pace m
  search zero n all low before = absurd (omega (arith, all, low))
  search (suc left) n all low before = elim (is_on (verdict_after tree world pace.period n)) [
    | inr other ↦ (n, omega arith, record { allowed = low; before = before; last = λ e. absurd (other e) })
    | inl on ↦ elim (cases_lt (n + 1) pace.ticks) [
      | inl more ↦
          let found = search left (n + 1) (omega (arith, all)) more (λ k below. elim (cases_eq k n) [
            | inl e ↦ subst (λ (j : ℕ). verdict_after tree world pace.period j ≡ Some GoesOn) (sym e) on
            | inr e ↦ before k (omega (arith, below, e))
          ]) in
          let high = found.1 in
          (found.0, omega (arith, high), found.2)
      | inr done ↦ (n, omega arith, record { allowed = low; before = before; last = λ e. omega (arith, low, done) })
    ]
  ]

-- the last tick of a run is the only one
pub last_once : (tree : Tree) (world : World) (pace : Pace) (n m : ℕ) → IsLast tree world pace n → IsLast tree world pace m → n ≡ m
last_once tree world pace n m last again = elim (cases_lt n m) [
  | inl less ↦ let all = last.last (again.before n less) in let allowed = again.allowed in absurd (omega (arith, less, all, allowed))
  | inr least ↦ elim (cases_lt m n) [
    | inl less ↦ let all = again.last (last.before m less) in let allowed = last.allowed in absurd (omega (arith, less, all, allowed))
    | inr most ↦ omega (arith, least, most)
  ]
]
