use Rattle.std.proofs.Common.{◌≡◌, true}
use Rattle.run_loop.specs.Runs.{arenas_of}
use Rattle.spec_run.specs.Rosters.{IsSameRoster}
use Rattle.text_trace.specs.Halted.{HaveHalted}
use Rattle.text_trace.specs.Going.{AreAtRest, Stand}
use Rattle.text_trace.specs.Traces.{state_in}
use Rattle.text_trace.proofs.finishes.finish_unwritten.Given as goal

abbrev pub ghost-run_finish : goal.ghost-run_finish
ghost-run_finish g a = g.of

-- the runners before this one were finished, and rest, as long as no finish has stopped
abbrev pub invariant-loop-place : goal.invariant-loop-place
invariant-loop-place g l =
    let before = g.D.Drivers.states l.fn.drivers in
    let now = g.D.Drivers.states l.drivers in
    record {
      stand : Stand g.of now l.underway.runs;
      rest : l.underway.runs.usable ≡ true → AreAtRest l.place (state_in g.of now l.underway.runs);
      halts : HaveHalted (arenas_of l.fn.underway.runs) before now;
      arenas : arenas_of l.underway.runs ≡ arenas_of l.fn.underway.runs;
      room : l.underway.block.notes.full ≡ l.fn.underway.block.notes.full;
      roster : IsSameRoster before now;
    }
