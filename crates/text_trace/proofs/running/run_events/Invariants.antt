use Rattle.std.proofs.Common.{Ok, drop}
use Rattle.spec_output.specs.Rounds.{events_then}
use Rattle.text_trace.specs.declared.ended.Ended.TheVariants.{Done}
use Rattle.text_trace.specs.Going.{MakesPart, Stage, stage, state_at}
use Rattle.text_trace.specs.Traces.{CanAllCome}
use Rattle.text_trace.proofs.running.run_events.Given as goal

abbrev pub ghost-begin : goal.ghost-begin
ghost-begin g a = g.of

abbrev pub ghost-end_run : goal.ghost-end_run
ghost-end_run g a = g.of

-- the events before this one were made, and the others can come
abbrev pub invariant-loop-next : goal.invariant-loop-next
invariant-loop-next g l =
    let old : Stage = stage (g.D.Drivers.states l.fn.drivers) (g.W.Watch.state l.fn.watch) l.initial.underway in
    let now : Stage = stage (g.D.Drivers.states l.drivers) (g.W.Watch.state l.watch) l.underway in
    let left = drop l.next-index l.events in
    record {
      made : MakesPart g.of (Ok Done) old now (λ rest. events_then g.of.tree g.of.world l.events rest (state_at g.of old)) (λ rest. events_then g.of.tree g.of.world left rest (state_at g.of now));
      come : CanAllCome g.of l.underway.runs.last left;
      shows : g.W.Watch.shows l.fn.watch (Ok tt) l.watch;
    }
