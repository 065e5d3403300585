-- The parts of a run follow one another: each is a part of the whole, with what is still to come.
use Rattle.std.proofs.Common.{◌≡◌, inl, inr, ◌≤◌, ◌<◌, ◌-◌, ◌^◌, ℕ, List, [], ◌++◌, None, Result, Ok, Err, length, true, false, refl, sym, ap, subst, ◌∙◌, append_assoc, append-nil, arith}
use Rattle.std.specs.List.{flat_map}
use Rattle.std.specs.Result.{IsErr, IsErrAnd}
use Rattle.std.proofs.lemmas.Bool.{cases_lt}
use Rattle.spec_run.specs.declared.block.Block.{Block}
use Rattle.spec_world.specs.declared.world.Event.{Event}
use Rattle.spec_run.specs.Drivers.{DriverState}
use Rattle.spec_run.specs.Run.{RunnerCall, RunState, Trace}
use Rattle.spec_outside.specs.Appending.{AppendedPrefix}
use Rattle.spec_outside.specs.Counts.{Rose}
use Rattle.base_outside.proofs.Appends.{AppendedPrefix-nothing}
use Rattle.text_lines.specs.declared.stop.TextStop.{TextStop}
use Rattle.run_arena.specs.declared.nodes.Node.{Node}
use Rattle.run_loop.specs.declared.runs.Runs.{Runs}
use Rattle.run_loop.specs.Runs.{AreRuns, arenas_of, leaves_of as leaf_count, roster_over}
use Rattle.spec_run.specs.Served.{Setup}
use Rattle.run_loop.specs.Steps.{HaveRoom}
use Rattle.run_loop.proofs.Rising.{roster_both, same_roster}
use Rattle.text_trace.specs.declared.ended.Ended.{Ended}
use Rattle.text_trace.specs.declared.ended.Ended.TheVariants.{Done, Faulted}
use Rattle.text_trace.specs.declared.underway.Underway.{Underway}
use Rattle.text_trace.specs.Halted.{HaveHalted}
use Rattle.text_trace.specs.Going.{CanGoOn, Goes, Going, Makes, MakesPart, Stage, Stand, WasStopped, arenas_at, side_of, state_at}
use Rattle.spec_output.specs.Rounds.{nothing_more}
use Rattle.text_trace.specs.Traces.{CanAllCome, CanRun, IsRun, Leaves, Side, ended, side}
use Rattle.text_trace.specs.Watches.{StaysWatcher, WasShown, Watched}
use Rattle.text_trace.proofs.Cuts.{cut_after, cut_before, cut_here, cut_none, over_both}
use Rattle.text_trace.proofs.Rests.{same_many}
use Rattle.text_trace.proofs.Watching.{front_after, front_all, front_of, shown_both, shown_none}

-- ---- Traces

module _ (arenas : List (List Node)) (a b c : Side) (whole part rest : Trace) (p : Going arenas a b whole part) where
  -- a part of a run, and then another
  pub going_both : Going arenas b c part rest → Going arenas a c whole rest
  going_both q = record {
    told = p.told ++ q.told;
    made = p.made ++ q.made;
    blocks = append_assoc p.told q.told rest.blocks ∙ ap (λ (z : List Block). p.told ++ z) q.blocks ∙ p.blocks;
    calls = append_assoc p.made q.made rest.calls ∙ ap (λ (z : List RunnerCall). p.made ++ z) q.calls ∙ p.calls;
    fault = q.fault ∙ p.fault;
    shown = shown_both a.watch b.watch c.watch p.told q.told p.shown q.shown;
    drivers = q.drivers ∙ ap (roster_over arenas q.made) p.drivers ∙ sym (over_both arenas p.made q.made a.drivers);
  }

  -- .. or the end of the run
  pub going_run : (ending : Ended) → IsRun arenas b c ending part → IsRun arenas a c ending whole
  going_run ending q = record {
    ends = q.ends ∙ ap ended p.fault;
    shown = subst (WasShown a.watch c.watch) p.blocks (shown_both a.watch b.watch c.watch p.told part.blocks p.shown q.shown);
    drivers = q.drivers ∙ ap (roster_over arenas part.calls) p.drivers ∙ sym (over_both arenas p.made part.calls a.drivers) ∙ ap (λ (z : List RunnerCall). roster_over arenas z a.drivers) p.calls;
  }

  -- .. or a stop in it
  pub going_stop : WasStopped arenas b c part → WasStopped arenas a c whole
  going_stop q = record {
    front = subst (λ (bs : List Block). AppendedPrefix a.watch.written c.watch.written (flat_map a.watch.text bs)) p.blocks (front_after a.watch b.watch c.watch p.told part.blocks p.shown q.front);
    cut = cut_after arenas arenas a.drivers b.drivers c.drivers whole part refl p.made p.calls p.drivers q.cut;
  }

  -- nothing is to come
  pub going_end : part.blocks ≡ [] → part.calls ≡ [] → part.fault ≡ None → IsRun arenas a b Done whole
  going_end blocks calls fault = record {
    ends = ap ended (sym fault ∙ p.fault);
    shown = subst (WasShown a.watch b.watch) (sym (append-nil p.told) ∙ ap (λ (x : List Block). p.told ++ x) (sym blocks) ∙ p.blocks) p.shown;
    drivers = p.drivers ∙ ap (λ (z : List RunnerCall). roster_over arenas z a.drivers) (sym (append-nil p.made) ∙ ap (λ (x : List RunnerCall). p.made ++ x) (sym calls) ∙ p.calls);
  }

  -- the run was stopped here
  pub going_here : WasStopped arenas a b whole
  going_here = record {
    front = subst (λ (bs : List Block). AppendedPrefix a.watch.written b.watch.written (flat_map a.watch.text bs)) p.blocks (front_of a.watch b.watch p.told part.blocks p.shown);
    cut = cut_here arenas a.drivers b.drivers whole part p.made p.calls p.drivers;
  }

-- nothing was made so far
pub going_none : (arenas : List (List Node)) (a : Side) (whole rest : Trace) → whole ≡ rest → Going arenas a a whole rest
going_none arenas a whole rest same = record {
  told = [];
  made = [];
  blocks = ap (λ (t : Trace). t.blocks) (sym same);
  calls = ap (λ (t : Trace). t.calls) (sym same);
  fault = ap (λ (t : Trace). t.fault) (sym same);
  shown = shown_none a.watch;
  drivers = refl;
}

goes_next : (result : Result Ended TextStop) (arenas arenas1 : List (List Node)) (a b c : Side) (whole part first rest : Trace) → arenas1 ≡ arenas → Going arenas a b whole part → part ≡ first → Goes result arenas1 b c first rest → Goes result arenas a c whole rest
goes_next (Ok Done) arenas arenas1 a b c whole part first rest same p is q =
    going_both arenas a b c whole part rest p (subst (λ (t : Trace). Going arenas b c t rest) (sym is) (subst (λ (x : List (List Node)). Going x b c first rest) same q))
goes_next (Ok Faulted) arenas arenas1 a b c whole part first rest same p is q =
    going_run arenas a b c whole part rest p Faulted (subst (λ (t : Trace). IsRun arenas b c Faulted t) (sym is) (subst (λ (x : List (List Node)). IsRun x b c Faulted first) same q))
goes_next (Err stopped) arenas arenas1 a b c whole part first rest same p is q =
    going_stop arenas a b c whole part rest p (subst (λ (t : Trace). WasStopped arenas b c t) (sym is) (subst (λ (x : List (List Node)). WasStopped x b c first) same q))

goes_to : (result : Result Ended TextStop) (arenas : List (List Node)) (a b : Side) (whole rest other : Trace) → (result ≡ Ok Done → rest ≡ other) → Goes result arenas a b whole rest → Goes result arenas a b whole other
goes_to (Ok Done) arenas a b whole rest other same p = subst (Going arenas a b whole) (same refl) p
goes_to (Ok Faulted) arenas a b whole rest other same p = p
goes_to (Err stopped) arenas a b whole rest other same p = p

goes_as : (result : Result Ended TextStop) (arenas : List (List Node)) (a b : Side) (whole other rest : Trace) → whole ≡ other → Goes result arenas a b whole rest → Goes result arenas a b other rest
goes_as result arenas a b whole other rest same p = subst (λ (t : Trace). Goes result arenas a b t rest) same p

-- ---- Watchers

watcher_same : (w : Watched) → StaysWatcher {A = Ended} (Ok Done) w w
watcher_same w = record { text = refl; lent = refl; failed = λ is. cc; count = omega arith }

rose_after : (a b c : ℕ) → a ≤ b → Rose b c → Rose a c
rose_after a b c low rose = elim rose [ inl more ↦ inl (omega (arith, low, more)) | inr last ↦ rose_last a b c low last ] where
  rose_last : (a b c : ℕ) → a ≤ b → (b ≡ 2 ^ 64 - 1) × (c ≡ 2 ^ 64 - 1) → Rose a c
  rose_last a b c low last = elim (cases_lt a c) [ inl more ↦ inl more | inr none ↦ inr (omega (arith, low, last.0, last.1, none), last.1) ]

-- a watcher that is still the same one, whatever was answered
watcher_both : (result : Result Ended TextStop) (a b c : Watched) → StaysWatcher {A = Ended} (Ok Done) a b → StaysWatcher result b c → StaysWatcher result a c
watcher_both result a b c p q = record {
  text = q.text ∙ p.text;
  lent = q.lent ∙ p.lent;
  failed = λ is. rose_after a.faults b.faults c.faults p.count (q.failed is);
  count = omega (arith, p.count, q.count);
}

-- ---- Answers

-- an error that is handed on
pub handed_on : (result ends : Result Ended TextStop) (e : TextStop) → result ≡ Err e → IsErrAnd ends (λ f. f ≡ e) → result ≡ ends
handed_on result (Err f) e was p = was ∙ ap Err (sym p)
handed_on result (Ok x) e was p = absurd p

-- .. is no end
pub not_done : (result : Result Ended TextStop) {P : Type 0} → IsErr result → result ≡ Ok Done → P
not_done (Err stopped) err done = cc
not_done (Ok ending) err done = cc

-- ---- Parts

module _ (of : Setup) where
  -- runs that can go on
  pub runs_of_stand : (drivers : List DriverState) (runs : Runs) → AreRuns of.tree of.world drivers runs → Stand of drivers runs
  runs_of_stand drivers runs are = record { on = λ e. are; off = λ e. absurd (let u = are.usable in let w : true ≡ false = sym u ∙ e in cc) }

  -- nothing was made so far
  pub part_none : (s : Stage) (whole more : (RunState → Trace) → Trace) → AreRuns of.tree of.world s.drivers s.underway.runs → ((rest : RunState → Trace) → whole rest ≡ more rest) → MakesPart of (Ok Done) s s whole more
  part_none s whole more are same = record {
    goes = λ rest. going_none (arenas_at s) (side_of s) (whole rest) (more rest) (same rest);
    stand = runs_of_stand s.drivers s.underway.runs are;
    on = λ done. are.usable;
    off = λ faulted. cc;
    arenas = refl;
    room = refl;
    roster = same_roster s.drivers;
    watcher = watcher_same s.watch;
  }

  module _ (s0 s1 : Stage) (whole more : (RunState → Trace) → Trace) where
    -- the runs go on
    pub part_runs : MakesPart of (Ok Done) s0 s1 whole more → AreRuns of.tree of.world s1.drivers s1.underway.runs
    part_runs p = p.stand.on (p.on refl)

    pub part_few : (result : Result Ended TextStop) → MakesPart of result s0 s1 whole more → length s0.underway.runs.runners.items < 2 ^ 8 → length s1.underway.runs.runners.items < 2 ^ 8
    part_few result p few = omega (arith, few, same_many s0.underway.runs s1.underway.runs p.arenas)

    pub part_room : (result : Result Ended TextStop) → MakesPart of result s0 s1 whole more → HaveRoom (arenas_at s0) s0.underway.block.notes → HaveRoom (arenas_at s1) s1.underway.block.notes
    part_room result p room =
        let needed : leaf_count (arenas_at s1) ≡ leaf_count (arenas_at s0) = ap leaf_count p.arenas in
        omega (arith, room, needed, p.room)

    pub go_on : MakesPart of (Ok Done) s0 s1 whole more → CanGoOn of s0.drivers s0.underway → CanGoOn of s1.drivers s1.underway
    go_on p can = record { are = part_runs p; few = part_few (Ok Done) p can.few; room = part_room (Ok Done) p can.room }

    -- the whole and the rest under other names
    pub part_to : (result : Result Ended TextStop) (other : (RunState → Trace) → Trace) → (result ≡ Ok Done → (rest : RunState → Trace) → more rest ≡ other rest) → MakesPart of result s0 s1 whole more → MakesPart of result s0 s1 whole other
    part_to result other same p = record {
      goes = λ rest. goes_to result (arenas_at s0) (side_of s0) (side_of s1) (whole rest) (more rest) (other rest) (λ done. same done rest) (p.goes rest);
      stand = p.stand;
      on = p.on;
      off = p.off;
      arenas = p.arenas;
      room = p.room;
      roster = p.roster;
      watcher = p.watcher;
    }

    pub part_as : (result : Result Ended TextStop) (other : (RunState → Trace) → Trace) → ((rest : RunState → Trace) → whole rest ≡ other rest) → MakesPart of result s0 s1 whole more → MakesPart of result s0 s1 other more
    part_as result other same p = record {
      goes = λ rest. goes_as result (arenas_at s0) (side_of s0) (side_of s1) (whole rest) (other rest) (more rest) (same rest) (p.goes rest);
      stand = p.stand;
      on = p.on;
      off = p.off;
      arenas = p.arenas;
      room = p.room;
      roster = p.roster;
      watcher = p.watcher;
    }

    -- more is known of what follows
    pub part_before : (result : Result Ended TextStop) (then : (RunState → Trace) → RunState → Trace) → MakesPart of result s0 s1 whole more → MakesPart of result s0 s1 (λ rest. whole (then rest)) (λ rest. more (then rest))
    part_before result then p = record {
      goes = λ rest. p.goes (then rest);
      stand = p.stand;
      on = p.on;
      off = p.off;
      arenas = p.arenas;
      room = p.room;
      roster = p.roster;
      watcher = p.watcher;
    }

    -- the next part, whatever was answered in it
    pub part_next : (result : Result Ended TextStop) (s2 : Stage) (first : (RunState → Trace) → Trace) (then : (RunState → Trace) → RunState → Trace) →
        MakesPart of (Ok Done) s0 s1 whole more → ((rest : RunState → Trace) → more rest ≡ first (then rest)) → Makes of result s1 s2 first → MakesPart of result s0 s2 whole (λ rest. then rest (state_at of s2))
    part_next result s2 first then p is q = record {
      goes = λ rest.
          goes_next result (arenas_at s0) (arenas_at s1) (side_of s0) (side_of s1) (side_of s2) (whole rest) (more rest) (first (then rest)) (then rest (state_at of s2))
          p.arenas (p.goes rest) (is rest) (q.goes (then rest));
      stand = q.stand;
      on = q.on;
      off = q.off;
      arenas = q.arenas ∙ p.arenas;
      room = q.room ∙ p.room;
      roster = roster_both s0.drivers s1.drivers s2.drivers p.roster q.roster;
      watcher = watcher_both result s0.watch s1.watch s2.watch p.watcher q.watcher;
    }

    -- .. after which the runs go on
    pub part_on : (result : Result Ended TextStop) (s2 : Stage) (first : (RunState → Trace) → Trace) (then : (RunState → Trace) → RunState → Trace) → result ≡ Ok Done →
        MakesPart of (Ok Done) s0 s1 whole more → ((rest : RunState → Trace) → more rest ≡ first (then rest)) → Makes of result s1 s2 first → MakesPart of (Ok Done) s0 s2 whole (λ rest. then rest (state_at of s2))
    part_on result s2 first then done p is q = part_next (Ok Done) s2 first then p is (subst (λ (r : Result Ended TextStop). Makes of r s1 s2 first) done q)

    -- .. in which they have ended
    pub part_over : (result : Result Ended TextStop) (ends : Result Ended TextStop) (s2 : Stage) (first : (RunState → Trace) → Trace) (then : (RunState → Trace) → RunState → Trace) → result ≡ ends → (ends ≡ Ok Done → ⊥) →
        MakesPart of (Ok Done) s0 s1 whole more → ((rest : RunState → Trace) → more rest ≡ first (then rest)) → Makes of result s1 s2 first → Makes of ends s0 s2 whole
    part_over result ends s2 first then same over p is q =
        let part : MakesPart of ends s0 s2 whole (λ rest. then rest (state_at of s2)) = part_next ends s2 first then p is (subst (λ (r : Result Ended TextStop). Makes of r s1 s2 first) same q) in
        record {
          goes = λ rest. goes_to ends (arenas_at s0) (side_of s0) (side_of s2) (whole rest) (then rest (state_at of s2)) (rest (state_at of s2)) (λ done. absurd (over done)) (part.goes rest);
          stand = part.stand;
          on = part.on;
          off = part.off;
          arenas = part.arenas;
          room = part.room;
          roster = part.roster;
          watcher = part.watcher;
        }

  -- a part after which the runs go on
  pub as_done : (result : Result Ended TextStop) (s0 s1 : Stage) (whole : (RunState → Trace) → Trace) → result ≡ Ok Done → Makes of result s0 s1 whole → Makes of (Ok Done) s0 s1 whole
  as_done result s0 s1 whole done p = subst (λ (r : Result Ended TextStop). Makes of r s0 s1 whole) done p

  -- .. or in which they have ended, whatever would follow
  pub ended_so : (result ends : Result Ended TextStop) (s0 s1 : Stage) (whole : (RunState → Trace) → Trace) (then : (RunState → Trace) → RunState → Trace) → result ≡ ends → (ends ≡ Ok Done → ⊥) → Makes of result s0 s1 whole → Makes of ends s0 s1 (λ rest. whole (then rest))
  ended_so result ends s0 s1 whole then same over p =
      let q : Makes of ends s0 s1 whole = subst (λ (r : Result Ended TextStop). Makes of r s0 s1 whole) same p in
      part_to s0 s1 (λ rest. whole (then rest)) (λ rest. then rest (state_at of s1)) ends (λ rest. rest (state_at of s1)) (λ done. absurd (over done)) (part_before s0 s1 whole (λ rest. rest (state_at of s1)) ends then q)

-- ---- Ends

-- a whole run, of which nothing is to come
pub leaves_of_part : (result : Result Ended TextStop) (arenas : List (List Node)) (a b : Side) (whole : Trace) (s : RunState) → Goes result arenas a b whole (nothing_more s) → Leaves result arenas a b whole
leaves_of_part (Ok Done) arenas a b whole s p =
    let run = going_end arenas a b b whole (nothing_more s) (nothing_more s) p refl refl refl in
    record { whole = run; front = front_all a.watch b.watch whole.blocks run.shown; cut = tt }
leaves_of_part (Ok Faulted) arenas a b whole s p = record { whole = p; front = front_all a.watch b.watch whole.blocks p.shown; cut = tt }
leaves_of_part (Err stopped) arenas a b whole s p = record { whole = tt; front = p.front; cut = p.cut }

-- a run whose trace is that of its parts, of which nothing is to come
pub leaves_of : (of : Setup) (result : Result Ended TextStop) (s0 s1 : Stage) (whole : (RunState → Trace) → Trace) (trace : Trace) → whole nothing_more ≡ trace → Makes of result s0 s1 whole → Leaves result (arenas_at s0) (side_of s0) (side_of s1) trace
leaves_of of result s0 s1 whole trace is p = subst (λ (t : Trace). Leaves result (arenas_at s0) (side_of s0) (side_of s1) t) is (leaves_of_part result (arenas_at s0) (side_of s0) (side_of s1) (whole nothing_more) (state_at of s1) (p.goes nothing_more))

-- .. and whose runs were those
pub leaves_run : (of : Setup) (result : Result Ended TextStop) (s0 s1 : Stage) (runs : Runs) (whole : (RunState → Trace) → Trace) (trace_by : Runs → Trace) → s0.underway.runs ≡ runs → whole nothing_more ≡ trace_by s0.underway.runs → Makes of result s0 s1 whole →
    Leaves result (arenas_of runs) (side_of s0) (side_of s1) (trace_by runs)
leaves_run of result s0 s1 runs whole trace_by same is p = subst (λ (r : Runs). Leaves result (arenas_of r) (side_of s0) (side_of s1) (trace_by r)) same (leaves_of of result s0 s1 whole (trace_by s0.underway.runs) is p)

-- .. which was stopped, and then its runners were finished
pub leaves_halted : (stopped : TextStop) (arenas arenas1 : List (List Node)) (a b : Side) (drivers : List DriverState) (whole : Trace) → arenas1 ≡ arenas → Leaves (Err stopped) arenas a b whole → HaveHalted arenas1 b.drivers drivers → Leaves (Err stopped) arenas a (side drivers b.watch) whole
leaves_halted stopped arenas arenas1 a b drivers whole same p halts = record {
  whole = tt;
  front = p.front;
  cut = cut_before arenas arenas1 a.drivers b.drivers drivers whole same p.cut halts;
}

-- nothing was made
pub leaves_nothing : (ends : Result Ended TextStop) → IsErr ends → (arenas : List (List Node)) (a : Side) (whole : Trace) → Leaves ends arenas a a whole
leaves_nothing (Ok ending) err arenas a whole = cc
leaves_nothing (Err stopped) err arenas a whole = record { whole = tt; front = AppendedPrefix-nothing a.watch.written (flat_map a.watch.text whole.blocks); cut = cut_none arenas a.drivers whole }

-- runs before their first event can go on
pub begun : (of : Setup) (drivers : List DriverState) (runs : Runs) (u : Underway) → CanRun of drivers runs → u.runs ≡ runs → HaveRoom (arenas_of runs) u.block.notes → CanGoOn of drivers u
begun of drivers runs u can is room =
    let are : AreRuns of.tree of.world drivers u.runs = subst (λ (r : Runs). AreRuns of.tree of.world drivers r) (sym is) can.are in
    record { are = are; few = omega (arith, are.fit.many, can.is_valid_world.few_runners); room = subst (λ (r : Runs). HaveRoom (arenas_of r) u.block.notes) (sym is) room }

-- .. over the same events
pub come_as : (of : Setup) (a b : Runs) (events : List Event) → a ≡ b → CanAllCome of b.last events → CanAllCome of a.last events
come_as of a b events is can = subst (λ (r : Runs). CanAllCome of r.last events) (sym is) can
