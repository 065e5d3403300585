use Rattle.std.proofs.Common.{◌≤◌, Ok}
use Rattle.spec_output.specs.Rounds.{events_then, round_of}
use Rattle.text_trace.specs.declared.ended.Ended.TheVariants.{Done}
use Rattle.text_trace.specs.Going.{MakesPart, Stage, stage, state_at}
use Rattle.text_trace.proofs.Following.{ticks_left}
use Rattle.text_trace.proofs.rounds.tick_all.Given as goal

abbrev pub ghost-run_event : goal.ghost-run_event
ghost-run_event g a = g.of

-- the runners before this one were ticked
abbrev pub invariant-loop-place : goal.invariant-loop-place
invariant-loop-place g l =
    let old : Stage = stage (g.D.Drivers.states l.fn.drivers) (g.W.Watch.state l.fn.watch) l.fn.underway in
    let now : Stage = stage (g.D.Drivers.states l.drivers) (g.W.Watch.state l.watch) l.underway in
    let of = g.of in
    record {
      made : MakesPart of (Ok Done) old now (λ rest. events_then of.tree of.world (round_of of.world.runners l.at) rest (state_at of old))
          (λ rest. events_then of.tree of.world (ticks_left of.tree of.world l.at l.place) rest (state_at of now));
      ahead : l.underway.runs.last ≤ l.at;
      shows : g.W.Watch.shows l.fn.watch (Ok tt) l.watch;
    }
