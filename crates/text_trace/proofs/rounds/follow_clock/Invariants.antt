use Rattle.std.proofs.Common.{◌≡◌, ◌≤◌, ◌++◌, ℕ, List, Ok, length}
use Rattle.text_trace.specs.declared.ended.Ended.TheVariants.{Done}
use Rattle.text_trace.specs.Going.{HasGiven, MakesPart, Stage, rounds_then, stage, state_at}
use Rattle.text_trace.proofs.rounds.follow_clock.Given as goal

abbrev pub ghost-tick_all : goal.ghost-tick_all
ghost-tick_all g a = g.of

-- as many rounds were made as the counter says, at the moments that the clock has given
abbrev pub invariant-loop : goal.invariant-loop
invariant-loop g l =
    let old : Stage = stage (g.D.Drivers.states l.fn.drivers) (g.W.Watch.state l.fn.watch) l.fn.underway in
    let now : Stage = stage (g.D.Drivers.states l.drivers) (g.W.Watch.state l.watch) l.underway in
    let moments = g.C.Clock.moments in
    record {
      rounds : (given : List ℕ) × (length given ≡ l.counter) × HasGiven (moments l.fn.clock) (moments l.clock) given ×
          ((later : List ℕ) →
          MakesPart g.of (Ok Done) old now (λ rest. rounds_then g.of l.fn.underway.runs.last (given ++ later) rest (state_at g.of old)) (λ rest. rounds_then g.of l.last later rest (state_at g.of now)));
      passed : l.underway.runs.last ≤ l.last;
      shows : g.W.Watch.shows l.fn.watch (Ok tt) l.watch;
    }
