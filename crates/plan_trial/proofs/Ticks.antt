-- One tick of a modelled run, as runs go, and all its ticks in order.
use Rattle.std.proofs.Common.{◌≡◌, inl, inr, ℕ, suc, ℤ, Bool, false, ◌+◌, ◌*◌, ◌≤◌, ◌<◌, List, [], ◌++◌, Option, Some, None, Result, Ok, Err, length, map, refl, sym, ap, subst, ◌∙◌, append_assoc, append-nil, arith}
use Rattle.std.proofs.lemmas.Nat.{mul-le}
use Rattle.std.specs.List.{list_all, list_any}
use Rattle.std.specs.Option.{option_map_or}
use Rattle.std.specs.Result.{IsErrAnd}
use Rattle.std.proofs.lemmas.Bool.{cases_eq}
use Rattle.std.proofs.lemmas.List.Folds.{list_all-map}
use Rattle.base_texts.specs.declared.stop.Stop.{Stop}
use Rattle.base_texts.specs.declared.stop.Stop.TheVariants as stop
use Rattle.spec_run.specs.declared.block.Block.{Block as Shown}
use Rattle.spec_run.specs.declared.fault.RunFault.{RunFault}
use Rattle.spec_world.specs.declared.world.Row.{Row}
use Rattle.spec_world.specs.declared.world.What.TheVariants.{Tick}
use Rattle.spec_run.specs.Drivers.{DriverState}
use Rattle.spec_run.specs.Run.{RunnerCall, RunState, Stepped, Trace, before_rest, runner_at, step, then_rest}
use Rattle.run_arena.specs.declared.block.Block.{Block}
use Rattle.run_arena.specs.declared.nodes.Node.{Node}
use Rattle.run_loop.specs.declared.runs.Runs.{Runs}
use Rattle.run_loop.specs.Runs.{AreRuns, arenas_of, roster_over, state_of_runs}
use Rattle.spec_run.specs.Served.{Setup}
use Rattle.run_loop.specs.Steps.{EventEnds}
use Rattle.spec_run.specs.Rosters.{IsSameRoster}
use Rattle.run_loop.proofs.Rising.{roster_both, same_roster}
use Rattle.text_trace.specs.Halted.{IsCut}
use Rattle.spec_output.specs.Rounds.{nothing_more}
use Rattle.text_trace.proofs.Cuts.{cut_after, event_cut, over_both}
use Rattle.text_trace.proofs.Steps.{last_is}
use Rattle.spec_plan.specs.declared.domain.Test.{Test}
use Rattle.spec_plan.specs.Achievers.{test_of}
use Rattle.spec_plan.specs.declared.pace.Pace.{Pace}
use Rattle.plan_trial.specs.declared.task.Task.{Task}
use Rattle.plan_trial.specs.declared.ticking.Ticked.{Ticked}
use Rattle.spec_plan.specs.declared.verdict.Verdict.{Verdict}
use Rattle.spec_plan.specs.declared.verdict.Verdict.TheVariants.{GoesOn}
use Rattle.spec_plan.specs.Modelled.{IsLast, decided, goals_hold, holds, is_failed_root, modelled, modelled_run, next_tick, row_holds, state_after, tick_after, verdict_after, verdict_by}
use Rattle.plan_trial.specs.Roots.{TellRootOnce}
use Rattle.plan_trial.specs.Tasks.{HaveFacts, IsInRange, IsTaskOf}
use Rattle.plan_trial.specs.Ticked.{HasFaulted, HasTicked, IsAfter, TickEnds, TicksEnd}
use Rattle.plan_trial.specs.Ticking.{alone, calls_after}
use Rattle.plan_trial.proofs.Rootless.{tick_tells_once}
use Rattle.plan_trial.proofs.Traces.{broke, decided_none, more_calls, ran, some_last}

-- ---- Moments

-- the moment of a tick is a number of 64 bits
pub moment_fits : (pace : Pace) (n : ℕ) → IsInRange pace → n < pace.ticks → n * pace.period ≤ 10000 * 1000000
moment_fits pace n range low = mul-le n pace.period 10000 1000000 (let most = range.ticks in omega (arith, most, low)) range.period

-- ---- Goals

-- the tests of the goals hold where the goals do
tests_hold : (rows : List Row) (facts : List ℤ) (tests : List Test) (goals : List ℕ) → map (λ (t : Test). Some t) tests ≡ map (test_of rows) goals → list_all (holds facts) tests ≡ list_all (row_holds rows facts) goals
tests_hold rows facts tests goals are =
    let test : Option Test → Bool = λ o. option_map_or (holds facts) o false in
    sym (list_all-map test (λ (t : Test). Some t) tests) ∙ ap (list_all test) are ∙ list_all-map test (test_of rows) goals

-- ---- One tick

pub nothing_follows : (d : Stepped) → (then_rest d nothing_more).calls ≡ d.calls
nothing_follows d = elim d.fault as (λ (o : Option RunFault). (before_rest o d nothing_more).calls ≡ d.calls) [ None ↦ append-nil d.calls | Some f ↦ refl ]

-- a trace that was cut off, as one that begins with its calls
pub cut_as : (arenas : List (List Node)) (before after : List DriverState) (part whole : Trace) (more : List RunnerCall) → part.calls ++ more ≡ whole.calls → IsCut arenas before after part → IsCut arenas before after whole
cut_as arenas before after part whole more is cut = record {
  made = cut.made;
  unmade = cut.unmade ++ more;
  halts = cut.halts;
  all = sym (append_assoc cut.made cut.unmade more) ∙ ap (λ (cs : List RunnerCall). cs ++ more) cut.all ∙ is;
  are = cut.are;
  drivers = cut.drivers;
}

module _ (of : Setup) (task : Task) (is : IsTaskOf of.world task) (n : ℕ) (before after : List DriverState) (old new : Runs) (block : Block) (run : IsAfter of task.pace.period n before old) where
  abbrev tick : Stepped
  tick = next_tick of.tree of.world task.pace.period n

  -- what an event leaves that is this tick
  abbrev Made : Result (Unit {0}) (Stop RunFault) → Type 0
  Made made = EventEnds made of.tree.term before after new block (step of.tree (modelled of.world) (tick_after task.pace.period n) (state_of_runs of.tree.term before old))

  here : (made : Result (Unit {0}) (Stop RunFault)) → Made made → EventEnds made of.tree.term before after new block tick
  here made ends = subst (λ (s : RunState). EventEnds made of.tree.term before after new block (step of.tree (modelled of.world) (tick_after task.pace.period n) s)) run.state ends

  pub have_facts : AreRuns of.tree (modelled of.world) after new → HaveFacts (length new.facts) task.goals.items
  have_facts are = subst (λ (k : ℕ). HaveFacts k task.goals.items) (sym are.fit.many_facts) is.goals.facts

  pub tells_once : Made (Ok tt) → TellRootOnce block.notes.list
  tells_once made =
      let ends = here (Ok tt) made in
      let before : RunState = state_after of.tree of.world task.pace.period n in
      subst TellRootOnce (sym (ap (λ (b : Shown). b.notes) ends.1.shown)) (tick_tells_once of.tree 1 (runner_at before 1) (modelled of.world) (n * task.pace.period) before ends.0)

  -- a tick without a fault
  pub has_ticked : Made (Ok tt) → AreRuns of.tree (modelled of.world) after new → (verdict : Verdict) → verdict ≡ decided (list_all (holds new.facts) task.goals.items) (list_any is_failed_root block.notes.list) →
      HasTicked of task.pace.period n verdict tick.calls before after new block
  has_ticked made are verdict decides =
      let ends = here (Ok tt) made in
      let more : suc n ≡ n + 1 = omega arith in
      let notes : block.notes.list ≡ tick.block.notes = ap (λ (b : Shown). b.notes) ends.1.shown in
      let facts : new.facts ≡ tick.state.facts = ap (λ (s : RunState). s.facts) ends.1.state in
      let goals : list_all (holds new.facts) task.goals.items ≡ goals_hold of.world tick.state.facts =
      tests_hold of.world.rows new.facts task.goals.items of.world.goals is.goals.are ∙ ap (goals_hold of.world) facts in
      let later : n * task.pace.period ≤ (n + 1) * task.pace.period = mul-le n task.pace.period (n + 1) task.pace.period (omega arith) (omega arith) in
      let at : new.last ≡ n * task.pace.period = last_is (Ok tt) of.tree (modelled of.world) before after new block (Tick 1) (n * task.pace.period) (state_of_runs of.tree.term before old) refl made in
      record {
        run = record {
          are = are;
          state = ends.1.state ∙ ap (state_after of.tree of.world task.pace.period) more;
          last = omega (arith, later, at);
        };
        decided = ap (λ (f : Option RunFault). verdict_by f (decided (goals_hold of.world tick.state.facts) (list_any is_failed_root tick.block.notes))) ends.0
            ∙ ap (λ (v : Verdict). Some v) (sym (decides ∙ (λ i. decided (goals i) (list_any is_failed_root (notes i)))));
        shown = ends.1.shown;
        drivers = ends.1.drivers;
      }

  stops_by : (e : Stop RunFault) → Made (Err e) → TickEnds (Err e) of task.pace.period n before after new block
  stops_by (stop.Fault fault) made = let ends = here (Err (stop.Fault fault)) made in record { faulted = ends.0; drivers = ends.1.drivers }
  stops_by stop.NoMemory made =
      let cut : IsCut (arenas_of new) before after (then_rest tick nothing_more) = event_cut (Err stop.NoMemory) of.tree.term (arenas_of new) before after new refl block tick (here (Err stop.NoMemory) made) nothing_more in
      cut_as (arenas_of new) before after (then_rest tick nothing_more) (alone tick) [] (append-nil (then_rest tick nothing_more).calls ∙ nothing_follows tick) cut

  -- a tick that was stopped, with its error handed on
  pub tick_stops : (made : Result (Unit {0}) (Stop RunFault)) (ends : Result Verdict (Stop RunFault)) (e : Stop RunFault) → made ≡ Err e → IsErrAnd ends (λ f. f ≡ e) → Made made → TickEnds ends of task.pace.period n before after new block
  tick_stops (Ok done) ends e was handed m = cc was
  tick_stops (Err x) (Ok v) e was handed m = absurd handed
  tick_stops (Err x) (Err f) e was handed m =
      let same : x ≡ e = cc was in
      subst (λ (y : Stop RunFault). TickEnds (Err y) of task.pace.period n before after new block) (same ∙ sym handed) (stops_by x m)

-- ---- Ticks in order

-- so many ticks were made, and the run goes on
pub record SoFar (of : Setup) (pace : Pace) (n : ℕ) (opened runs : Runs) (before now : List DriverState) : Type 0 where
  pub allowed : n < pace.ticks
  pub run : IsAfter of pace.period n now runs
  pub on : (k : ℕ) → k < n → verdict_after of.tree of.world pace.period k ≡ Some GoesOn
  pub arenas : arenas_of runs ≡ arenas_of opened
  pub drivers : now ≡ roster_over (arenas_of opened) (calls_after of.tree of.world pace.period n) before
  pub roster : IsSameRoster before now

module _ (of : Setup) (pace : Pace) (m : ℕ) (last : IsLast of.tree of.world pace m) where
  abbrev all_calls : List RunnerCall
  all_calls = calls_after of.tree of.world pace.period (m + 1)

  not_before : (k : ℕ) → k < m → (next_tick of.tree of.world pace.period k).fault ≡ None
  not_before k low = decided_none of.tree of.world pace.period k GoesOn (last.before k low)

  calls_by : (o : Option RunFault) → (next_tick of.tree of.world pace.period m).fault ≡ o → (more : List RunnerCall) × ((modelled_run of.tree of.world pace.period (m + 1)).calls ≡ all_calls ++ more)
  calls_by (Some fault) is = ([], (broke of.tree of.world pace.period m fault not_before is).calls_are ∙ sym (append-nil all_calls))
  calls_by None is = (
    _,
    (ran of.tree of.world pace.period (m + 1) (λ k low. elim (cases_eq k m) [
      | inl e ↦ ap (λ (j : ℕ). (next_tick of.tree of.world pace.period j).fault) e ∙ is
      | inr e ↦ not_before k (omega (arith, low, e))
    ])).calls_are,
  )

  -- the calls of a whole run are those of its ticks, and then others
  last_calls : (more : List RunnerCall) × ((modelled_run of.tree of.world pace.period (m + 1)).calls ≡ all_calls ++ more)
  last_calls = calls_by (next_tick of.tree of.world pace.period m).fault refl

module _ (of : Setup) (pace : Pace) (opened : Runs) (before : List DriverState) where
  pub none_yet : IsInRange pace → IsAfter of pace.period 0 before opened → SoFar of pace 0 opened opened before before
  none_yet range run = record { allowed = range.some_tick; run = run; on = λ k low. absurd (omega (arith, low)); arenas = refl; drivers = refl; roster = same_roster before }

  module _ (n : ℕ) (runs new : Runs) (now after : List DriverState) (p : SoFar of pace n opened runs before now) (same : arenas_of new ≡ arenas_of runs) where
    abbrev next : Stepped
    next = next_tick of.tree of.world pace.period n

    abbrev calls : ℕ → List RunnerCall
    calls k = calls_after of.tree of.world pace.period k

    more : suc n ≡ n + 1
    more = omega arith

    -- the drivers after the calls of one more tick
    pub drivers_then : after ≡ roster_over (arenas_of new) next.calls now → after ≡ roster_over (arenas_of opened) (calls (n + 1)) before
    drivers_then drivers =
        drivers ∙ ap (λ (x : List (List Node)). roster_over x next.calls now) (same ∙ p.arenas) ∙ ap (roster_over (arenas_of opened) next.calls) p.drivers
        ∙ sym (over_both (arenas_of opened) (calls n) next.calls before) ∙ ap (λ (k : ℕ). roster_over (arenas_of opened) (calls k) before) more

    drivers_now : after ≡ roster_over (arenas_of new) next.calls now → after ≡ roster_over (arenas_of new) (calls (n + 1)) before
    drivers_now drivers = drivers_then drivers ∙ ap (λ (x : List (List Node)). roster_over x (calls (n + 1)) before) (sym (same ∙ p.arenas))

    -- the run goes on after this tick
    pub goes_on : (verdict : Verdict) (block : Block) → HasTicked of pace.period n verdict next.calls now after new block → verdict ≡ GoesOn → n + 1 < pace.ticks → IsSameRoster now after → SoFar of pace (n + 1) opened new before after
    goes_on verdict block ticked on low roster = record {
      allowed = low;
      run = ticked.run;
      on = λ k below. elim (cases_eq k n) [
        | inl e ↦ ap (verdict_after of.tree of.world pace.period) e ∙ ticked.decided ∙ ap (λ (v : Verdict). Some v) on
        | inr e ↦ p.on k (omega (arith, below, e))
      ];
      arenas = same ∙ p.arenas;
      drivers = drivers_then ticked.drivers;
      roster = roster_both before now after p.roster roster;
    }

    -- .. or this tick was the last one
    pub ended : (verdict : Verdict) (block : Block) → HasTicked of pace.period n verdict next.calls now after new block → (verdict ≡ GoesOn → n + 1 ≡ pace.ticks) →
        IsLast of.tree of.world pace n × HasTicked of pace.period n verdict (calls (n + 1)) before after new block
    ended verdict block ticked last = (
      record { allowed = p.allowed; before = p.on; last = λ on. last (let both : Some verdict ≡ Some GoesOn = sym ticked.decided ∙ on in cc both) },
      record { run = ticked.run; decided = ticked.decided; shown = ticked.shown; drivers = drivers_now ticked.drivers },
    )

    faulted : (fault : RunFault) → HasFaulted of pace.period n fault next.calls now after new →
        IsLast of.tree of.world pace n × HasFaulted of pace.period n fault (calls (n + 1)) before after new
    faulted fault f = (
      record {
        allowed = p.allowed;
        before = p.on;
        last = λ on. absurd (let none = decided_none of.tree of.world pace.period n GoesOn on in let both : None ≡ Some fault = sym none ∙ f.faulted in cc both);
      },
      record { faulted = f.faulted; drivers = drivers_now f.drivers },
    )

    cut_off : IsCut (arenas_of new) now after (alone next) → (m : ℕ) × IsLast of.tree of.world pace m × IsCut (arenas_of new) before after (modelled_run of.tree of.world pace.period (m + 1))
    cut_off cut =
        let found = some_last of.tree of.world pace n p.allowed p.on in
        let m = found.0 in
        let high : n ≤ m = found.1 in
        let part : Trace = record { blocks = []; calls = calls n ++ next.calls; state = next.state; fault = None } in
        let longer = more_calls of.tree of.world pace.period (suc n) (m + 1) (omega (arith, high)) in
        let whole = last_calls of pace m found.2 in
        let drivers : now ≡ roster_over (arenas_of new) (calls n) before = p.drivers ∙ ap (λ (x : List (List Node)). roster_over x (calls n) before) (sym (same ∙ p.arenas)) in (
          m,
          found.2,
          cut_as (arenas_of new) before after part (modelled_run of.tree of.world pace.period (m + 1)) (longer.0 ++ whole.0)
              (sym (append_assoc (calls n ++ next.calls) longer.0 whole.0) ∙ ap (λ (cs : List RunnerCall). cs ++ whole.0) (sym longer.1) ∙ sym whole.1)
              (cut_after (arenas_of new) (arenas_of new) before now after part (alone next) refl (calls n) refl drivers cut),
        )

    stops_as : (e : Stop RunFault) (block : Block) → TickEnds (Err e) of pace.period n now after new block → TicksEnd (Err e) of pace before after new block
    stops_as (stop.Fault fault) block f = let both = faulted fault f in (n, both.0, both.1)
    stops_as stop.NoMemory block cut = cut_off cut

    -- the ticks were stopped in this one, with its error handed on
    pub stopped : (ends : Result Verdict (Stop RunFault)) (then : Result Ticked (Stop RunFault)) (e : Stop RunFault) (block : Block) → ends ≡ Err e → IsErrAnd then (λ f. f ≡ e) → TickEnds ends of pace.period n now after new block →
        TicksEnd then of pace before after new block
    stopped (Ok v) then e block was handed m = cc was
    stopped (Err x) (Ok t) e block was handed m = absurd handed
    stopped (Err x) (Err f) e block was handed m =
        let is : x ≡ e = cc was in
        subst (λ (y : Stop RunFault). TicksEnd (Err y) of pace before after new block) (is ∙ sym handed) (stops_as x block m)
