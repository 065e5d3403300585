-- A modelled run as a whole: its ticks, and then its finish.
use Rattle.std.proofs.Common.{◌≡◌, inl, inr, ℕ, ◌+◌, ◌<◌, List, [], ◌++◌, Some, None, Result, Ok, Err, refl, sym, ap, subst, ◌∙◌, append-nil, arith}
use Rattle.std.specs.Result.{IsErrAnd}
use Rattle.std.proofs.lemmas.Bool.{cases_eq}
use Rattle.base_texts.specs.declared.stop.Stop.{Stop}
use Rattle.base_texts.specs.declared.stop.Stop.TheVariants as stop
use Rattle.spec_run.specs.declared.fault.RunFault.{RunFault}
use Rattle.spec_run.specs.Drivers.{DriverState}
use Rattle.spec_run.specs.Run.{RunnerCall, RunState, Stepped, Trace, finish, opening, then_rest}
use Rattle.run_arena.specs.declared.block.Block.{Block}
use Rattle.run_arena.specs.declared.nodes.Node.{Node}
use Rattle.run_loop.specs.declared.runs.Runs.{Runs}
use Rattle.run_loop.specs.Runs.{AreRuns, arenas_of, roster_over, state_of_runs}
use Rattle.spec_run.specs.Served.{Setup}
use Rattle.run_loop.specs.Steps.{EventEnds}
use Rattle.text_trace.specs.Halted.{IsCut}
use Rattle.spec_output.specs.Rounds.{nothing_more}
use Rattle.text_trace.proofs.Cuts.{cut_after, cut_has_begun_within, event_cut, over_both}
use Rattle.spec_plan.specs.declared.pace.Pace.{Pace}
use Rattle.plan_trial.specs.declared.ticking.Ticked.{Ticked}
use Rattle.run_arena.specs.Blocks.{seen}
use Rattle.plan_trial.specs.declared.trying.Tried.{Tried}
use Rattle.spec_plan.specs.declared.verdict.Verdict.TheVariants.{GoesOn}
use Rattle.spec_plan.specs.Modelled.{IsLast, modelled, modelled_run, next_tick, state_after, verdict_after}
use Rattle.plan_trial.specs.Ticked.{HasTicked, IsAfter, TicksEnd}
use Rattle.plan_trial.specs.Ticking.{alone, calls_after}
use Rattle.plan_trial.specs.Tried.{IsRun, RunEnds}
use Rattle.plan_trial.proofs.Ticks.{cut_as, nothing_follows}
use Rattle.plan_trial.proofs.Traces.{Whole, broke, decided_none, ran}

-- before the first tick
pub opened_is : (of : Setup) (period : ℕ) (drivers : List DriverState) (runs : Runs) → AreRuns of.tree (modelled of.world) drivers runs → state_of_runs of.tree.term drivers runs ≡ opening of.tree (modelled of.world) → IsAfter of period 0 drivers runs
opened_is of period drivers runs are opened = record { are = are; state = opened; last = (let at : runs.last ≡ 0 = ap (λ (s : RunState). s.last) opened in omega (arith, at)) }

-- no tick before the last one faults
unbroken : (of : Setup) (pace : Pace) (n : ℕ) → IsLast of.tree of.world pace n → (k : ℕ) → k < n → (next_tick of.tree of.world pace.period k).fault ≡ None
unbroken of pace n last k low = decided_none of.tree of.world pace.period k GoesOn (last.before k low)

module _ (of : Setup) (pace : Pace) (opened : Runs) (before : List DriverState) where
  abbrev called : List RunnerCall → List DriverState
  called calls = roster_over (arenas_of opened) calls before

  -- memory was wanting before the first tick
  pub ends_early : (result : Result Tried (Stop RunFault)) → IsErrAnd result (λ x. x ≡ stop.NoMemory) → RunEnds result of pace called before before
  ends_early (Ok t) is = absurd is
  ends_early (Err x) is = subst (λ (e : Stop RunFault). RunEnds (Err e) of pace called before before) (sym is) (inl (λ place. refl))

  module _ (runs : Runs) (now : List DriverState) (block : Block) (same : arenas_of runs ≡ arenas_of opened) where
    over_opened : (calls : List RunnerCall) → roster_over (arenas_of runs) calls before ≡ called calls
    over_opened calls = ap (λ (x : List (List Node)). roster_over x calls before) same

    ticks_stop : (e : Stop RunFault) → TicksEnd (Err e) of pace before now runs block → RunEnds (Err e) of pace called before now
    ticks_stop (stop.Fault fault) (n, last, f) =
        let whole = broke of.tree of.world pace.period n fault (unbroken of pace n last) f.faulted in
        (n, record { last = last; ends = whole.fault_is; drivers = f.drivers ∙ over_opened (calls_after of.tree of.world pace.period (n + 1)) ∙ ap called (sym whole.calls_are) })
    ticks_stop stop.NoMemory (n, last, cut) =
        let trace = modelled_run of.tree of.world pace.period (n + 1) in
        inr (n, last, cut_has_begun_within (arenas_of opened) before now trace (subst (λ (x : List (List Node)). IsCut x before now trace) same cut))

    -- the ticks were stopped, with the error handed on
    pub ticks_stopped : (ticks : Result Ticked (Stop RunFault)) (result : Result Tried (Stop RunFault)) (e : Stop RunFault) → ticks ≡ Err e → IsErrAnd result (λ f. f ≡ e) → TicksEnd ticks of pace before now runs block → RunEnds result of pace called before now
    ticks_stopped (Ok t) result e was handed ends = cc was
    ticks_stopped (Err x) (Ok t) e was handed ends = absurd handed
    ticks_stopped (Err x) (Err f) e was handed ends =
        let is : x ≡ e = cc was in
        subst (λ (y : Stop RunFault). RunEnds (Err y) of pace called before now) (is ∙ sym handed) (ticks_stop x ends)

    module _ (t : Ticked) (last : IsLast of.tree of.world pace t.before) (ticked : HasTicked of pace.period t.before t.verdict (calls_after of.tree of.world pace.period (t.before + 1)) before now runs block)
        (new : Runs) (after : List DriverState) (told : Block) (kept : arenas_of new ≡ arenas_of runs) where
      abbrev calls : List RunnerCall
      calls = calls_after of.tree of.world pace.period (t.before + 1)

      abbrev trace : Trace
      trace = modelled_run of.tree of.world pace.period (t.before + 1)

      abbrev own : Stepped
      own = finish of.tree (modelled of.world) 1 (state_after of.tree of.world pace.period (t.before + 1))

      -- what an event leaves that is the finish of these runs
      abbrev Made : Result (Unit {0}) (Stop RunFault) → Type 0
      Made made = EventEnds made of.tree.term now after new told (finish of.tree (modelled of.world) 1 (state_of_runs of.tree.term now runs))

      here : (made : Result (Unit {0}) (Stop RunFault)) → Made made → EventEnds made of.tree.term now after new told own
      here made ends = subst (λ (s : RunState). EventEnds made of.tree.term now after new told (finish of.tree (modelled of.world) 1 s)) ticked.run.state ends

      whole : Whole of.tree of.world pace.period (t.before + 1) (calls ++ own.calls) own.fault
      whole = ran of.tree of.world pace.period (t.before + 1) (λ k low. elim (cases_eq k t.before) [
        | inl e ↦ ap (λ (j : ℕ). (next_tick of.tree of.world pace.period j).fault) e ∙ decided_none of.tree of.world pace.period t.before t.verdict ticked.decided
        | inr e ↦ unbroken of pace t.before last k (omega (arith, low, e))
      ])

      drivers_all : after ≡ roster_over (arenas_of new) own.calls now → after ≡ called trace.calls
      drivers_all drivers =
          drivers ∙ ap (λ (x : List (List Node)). roster_over x own.calls now) (kept ∙ same) ∙ ap (roster_over (arenas_of opened) own.calls) (ticked.drivers ∙ over_opened calls)
          ∙ sym (over_both (arenas_of opened) calls own.calls before) ∙ ap called (sym whole.calls_are)

      -- the finish was made
      pub finished : Made (Ok tt) → IsRun of pace t.before None called after × (verdict_after of.tree of.world pace.period t.before ≡ Some t.verdict) × (seen block ≡ (next_tick of.tree of.world pace.period t.before).block)
      finished made =
          let ends = here (Ok tt) made in
          (record { last = last; ends = whole.fault_is ∙ ends.0; drivers = drivers_all ends.1.drivers }, ticked.decided, ticked.shown)

      finish_stop : (e : Stop RunFault) → Made (Err e) → RunEnds (Err e) of pace called before after
      finish_stop (stop.Fault fault) made =
          let ends = here (Err (stop.Fault fault)) made in
          (t.before, record { last = last; ends = whole.fault_is ∙ ends.0; drivers = drivers_all ends.1.drivers })
      finish_stop stop.NoMemory made =
          let cut : IsCut (arenas_of new) now after (then_rest own nothing_more) = event_cut (Err stop.NoMemory) of.tree.term (arenas_of new) now after new refl told own (here (Err stop.NoMemory) made) nothing_more in
          let only : IsCut (arenas_of new) now after (alone own) = cut_as (arenas_of new) now after (then_rest own nothing_more) (alone own) [] (append-nil (then_rest own nothing_more).calls ∙ nothing_follows own) cut in
          let all : IsCut (arenas_of opened) before after trace =
          cut_after (arenas_of opened) (arenas_of new) before now after trace (alone own) (kept ∙ same) calls (sym whole.calls_are) (ticked.drivers ∙ over_opened calls) only in
          inr (t.before, last, cut_has_begun_within (arenas_of opened) before after trace all)

      -- the finish was stopped, with the error handed on
      pub finish_stopped : (made : Result (Unit {0}) (Stop RunFault)) (result : Result Tried (Stop RunFault)) (e : Stop RunFault) → made ≡ Err e → IsErrAnd result (λ f. f ≡ e) → Made made → RunEnds result of pace called before after
      finish_stopped (Ok done) result e was handed ends = cc was
      finish_stopped (Err x) (Ok t) e was handed ends = absurd handed
      finish_stopped (Err x) (Err f) e was handed ends =
          let is : x ≡ e = cc was in
          subst (λ (y : Stop RunFault). RunEnds (Err y) of pace called before after) (is ∙ sym handed) (finish_stop x ends)
