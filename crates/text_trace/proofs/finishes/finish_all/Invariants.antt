use Rattle.std.proofs.Common.{◌+◌, ◌-◌, Ok}
use Rattle.text_trace.specs.declared.ended.Ended.TheVariants.{Done}
use Rattle.text_trace.specs.Going.{AreAtRest, MakesPart, Stage, finishes_then, stage, state_at}
use Rattle.text_trace.proofs.finishes.finish_all.Given as goal

abbrev pub ghost-finish_one : goal.ghost-finish_one
ghost-finish_one g a = g.of

-- the runners before this one were finished, and rest
abbrev pub invariant-loop-place : goal.invariant-loop-place
invariant-loop-place g l =
    let old : Stage = stage (g.D.Drivers.states l.fn.drivers) (g.W.Watch.state l.fn.watch) l.fn.underway in
    let now : Stage = stage (g.D.Drivers.states l.drivers) (g.W.Watch.state l.watch) l.underway in
    let many = g.of.world.runners in
    record {
      made : MakesPart g.of (Ok Done) old now (λ rest. finishes_then g.of.tree g.of.world 1 many rest (state_at g.of old))
          (λ rest. finishes_then g.of.tree g.of.world (l.place + 1) (many - l.place) rest (state_at g.of now));
      rest : AreAtRest l.place (state_at g.of now);
      shows : g.W.Watch.shows l.fn.watch (Ok tt) l.watch;
    }
