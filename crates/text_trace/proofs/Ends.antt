-- The end of a run: its events, the finishes, and what is let go of where a block could not be shown.
use Rattle.std.proofs.Common.{◌≡◌, ◌∙◌, ℕ, List, Option, Result, Ok, Err, OnOk, OnErr, refl, sym, ap, subst}
use Rattle.spec_outside.specs.Moments.{Moments}
use Rattle.spec_run.specs.Run.{RunState, Trace}
use Rattle.spec_run.specs.Served.{Setup}
use Rattle.spec_world.specs.declared.world.Event.{Event}
use Rattle.text_lines.specs.declared.stop.TextStop.{TextStop}
use Rattle.run_arena.specs.declared.nodes.Node.{Node}
use Rattle.run_loop.specs.declared.runs.Runs.{Runs}
use Rattle.run_loop.specs.Runs.{arenas_of}
use Rattle.text_trace.specs.declared.ended.Ended.{Ended}
use Rattle.text_trace.specs.declared.ended.Ended.TheVariants.{Done, Faulted}
use Rattle.text_trace.specs.Going.{EndsRun, FinishesRun, LiveMade, Makes, RoundsMade, Stage, arenas_at, finishes_then, side_of, state_at}
use Rattle.text_trace.specs.Halted.{HaveHalted}
use Rattle.spec_output.specs.Rounds.{events_then, nothing_more}
use Rattle.text_trace.specs.Traces.{Leaves, Side, side, trace_of}
use Rattle.text_trace.specs.Watches.{StaysWatcher}
use Rattle.text_trace.proofs.Following.{run_is}
use Rattle.text_trace.proofs.Lives.{live_done, live_faulted, live_over}
use Rattle.text_trace.proofs.Parts.{ended_so, leaves_halted, leaves_run, part_before, part_next}

module _ (of : Setup) where
  abbrev pub Finished : (RunState → Trace) → RunState → Trace
  Finished rest = finishes_then of.tree of.world 1 of.world.runners rest

  -- events were made, and then the run was ended
  pub made_to_end : (ended result : Result Ended TextStop) (s0 s1 s2 : Stage) (whole : (RunState → Trace) → Trace) →
      Makes of ended s0 s1 whole → FinishesRun of ended result s1 s2 → Makes of result s0 s2 (λ rest. whole (Finished rest))
  made_to_end (Ok Done) result s0 s1 s2 whole p q =
      part_next of s0 s1 (λ rest. whole (Finished rest)) (λ rest. Finished rest (state_at of s1)) result s2 (λ rest. Finished rest (state_at of s1)) (λ rest. rest)
      (part_before of s0 s1 whole (λ rest. rest (state_at of s1)) (Ok Done) Finished p) (λ rest. refl) q
  made_to_end (Ok Faulted) result s0 s1 s2 whole p q =
      subst (λ (s : Stage). Makes of result s0 s (λ rest. whole (Finished rest))) (sym q.1)
      (ended_so of (Ok Faulted) result s0 s1 whole Finished (sym q.0) (λ done. absurd (let e = sym q.0 ∙ done in cc)) p)
  made_to_end (Err stopped) result s0 s1 s2 whole p q =
      subst (λ (s : Stage). Makes of result s0 s (λ rest. whole (Finished rest))) (sym q.1)
      (ended_so of (Err stopped) result s0 s1 whole Finished (sym q.0) (λ done. absurd (let e = sym q.0 ∙ done in cc)) p)

  -- rounds were made, and then the run was ended
  pub rounds_to_end : (ended result : Result Ended TextStop) (rounds : ℕ) (s0 s1 s2 : Stage) (clock left : Option Moments) →
      RoundsMade of ended rounds s0 s1 clock left → FinishesRun of ended result s1 s2 → LiveMade of result rounds s0 s2 clock left
  rounds_to_end (Ok Done) result rounds s0 s1 s2 clock left p q = live_done of rounds s0 s1 clock left result s2 p q
  rounds_to_end (Ok Faulted) result rounds s0 s1 s2 clock left p q =
      subst (λ (s : Stage). LiveMade of result rounds s0 s clock left) (sym q.1)
      (subst (λ (r : Result Ended TextStop). LiveMade of r rounds s0 s1 clock left) (sym q.0) (live_faulted of rounds s0 s1 clock left p))
  rounds_to_end (Err stopped) result rounds s0 s1 s2 clock left p q =
      subst (λ (s : Stage). LiveMade of result rounds s0 s clock left) (sym q.1)
      (subst (λ (r : Result Ended TextStop). LiveMade of r rounds s0 s1 clock left) (sym q.0) (live_over of rounds s0 s1 clock left (Err stopped) refl p))

  -- what the run leaves
  pub leaves_by : (result : Result Ended TextStop) (s0 s2 : Stage) (new : Side) (arenas : List (List Node)) (runs : Runs) (whole : (RunState → Trace) → Trace) (trace_by : Runs → Trace) →
      s0.underway.runs ≡ runs → whole nothing_more ≡ trace_by s0.underway.runs → Makes of result s0 s2 whole → new.watch ≡ s2.watch → OnOk result (new.drivers ≡ s2.drivers) →
      arenas ≡ arenas_of runs → OnErr result (HaveHalted arenas s2.drivers new.drivers) → Leaves result (arenas_of runs) (side_of s0) new (trace_by runs)
  leaves_by (Ok ending) s0 s2 new arenas runs whole trace_by same is made watch drivers here halts =
      subst (λ (n : Side). Leaves (Ok ending) (arenas_of runs) (side_of s0) n (trace_by runs)) (λ i. side (sym drivers i) (sym watch i))
      (leaves_run of (Ok ending) s0 s2 runs whole trace_by same is made)
  leaves_by (Err stopped) s0 s2 new arenas runs whole trace_by same is made watch drivers here halts =
      subst (λ (n : Side). Leaves (Err stopped) (arenas_of runs) (side_of s0) n (trace_by runs)) (λ i. side new.drivers (sym watch i))
      (leaves_halted stopped (arenas_of runs) arenas (side_of s0) (side_of s2) new.drivers (trace_by runs) here (leaves_run of (Err stopped) s0 s2 runs whole trace_by same is made) halts)

-- who watches stays the same one
pub watcher_by : (of : Setup) (result : Result Ended TextStop) (s0 s2 : Stage) (new : Side) (whole : (RunState → Trace) → Trace) → Makes of result s0 s2 whole → new.watch ≡ s2.watch → StaysWatcher result s0.watch new.watch
watcher_by of result s0 s2 new whole made watch = subst (StaysWatcher result s0.watch) (sym watch) made.watcher

module _ (of : Setup) (ended result : Result Ended TextStop) (s0 s1 : Stage) (new : Side) (runs : Runs) (events : List Event) (same : s0.underway.runs ≡ runs)
    (made : Makes of ended s0 s1 (λ rest. events_then of.tree of.world events rest (state_at of s0))) (ends : EndsRun of ended result s1 new) where
  all_made : Makes of result s0 ends.last (λ rest. events_then of.tree of.world events (Finished of rest) (state_at of s0))
  all_made = made_to_end of ended result s0 s1 ends.last (λ rest. events_then of.tree of.world events rest (state_at of s0)) made ends.finishes

  -- what a run of these events leaves
  pub events_leave : Leaves result (arenas_of runs) (side_of s0) new (trace_of of s0.drivers runs events)
  events_leave =
      leaves_by of result s0 ends.last new (arenas_at s1) runs _ (λ (r : Runs). trace_of of s0.drivers r events) same (run_is of.tree of.world events (state_at of s0)) all_made ends.watch ends.done
      (made.arenas ∙ ap arenas_of same) ends.halts

  pub events_watched : StaysWatcher result s0.watch new.watch
  events_watched = watcher_by of result s0 ends.last new _ all_made ends.watch

-- a fault has ended a run, and nothing is left to do
pub nothing_ends : (of : Setup) (s : Stage) → EndsRun of (Ok Faulted) (Ok Faulted) s (side_of s)
nothing_ends of s = record { last = s; finishes = (refl, refl); watch = refl; done = refl; halts = tt }

-- events that ended so, under another name
pub ends_as : (of : Setup) (ended known : Result Ended TextStop) (result : Result Ended TextStop) (old : Stage) (new : Side) → ended ≡ known → EndsRun of known result old new → EndsRun of ended result old new
ends_as of ended known result old new is ends = subst (λ (r : Result Ended TextStop). EndsRun of r result old new) (sym is) ends
