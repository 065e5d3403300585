-- What a run writes, by its exit.
use Rattle.std.proofs.Common.{Result, Ok, Err}
use Rattle.spec_outside.specs.Writes.{Writes, Writing}
use Rattle.spec_program.specs.Answers.{WritesAt}
use Rattle.text_lines.specs.declared.stop.TextStop.{TextStop}
use Rattle.text_lines.specs.declared.stop.TextStop.TheVariants as text_stop
use Rattle.text_trace.specs.declared.ended.Ended.{Ended}
use Rattle.text_trace.specs.declared.ended.Ended.TheVariants as ended
use Rattle.text_trace.specs.declared.expecting.run.Expecting.{Expecting}
use Rattle.text_trace.specs.declared.expecting.run.Expecting.TheVariants.{Met, Unmet, Faulted}
use Rattle.text_trace.specs.Watches.{Shown}
use Rattle.cli_answers.specs.Courses.Courses.{exit_of}
use Rattle.cli_answers.specs.Courses.Expecting.{expect_exit_of}

module _ {Sink Fault : Type 0} (gives : Writing Sink Fault) where
  -- a run on its course
  pub ran_at : (result : Result Ended TextStop) (a b : Sink) → Writes gives result a b → WritesAt gives (exit_of result) a b
  ran_at (Ok ended.Done) a b wrote = wrote
  ran_at (Ok ended.Faulted) a b wrote = wrote
  ran_at (Err text_stop.WriteFault) a b wrote = wrote
  ran_at (Err text_stop.NoMemory) a b wrote = wrote

  -- .. whose blocks were shown to whoever writes them to a sink
  pub shown_at : {W : Type 0} (out : W → Sink) (result : Result Ended TextStop) (old new : W)
      → Shown (λ (a : W) (r : Result (Unit {0}) TextStop) (b : W). Writes gives r (out a) (out b)) result old new → WritesAt gives (exit_of result) (out old) (out new)
  shown_at out (Ok ended.Done) old new wrote = wrote
  shown_at out (Ok ended.Faulted) old new wrote = wrote
  shown_at out (Err text_stop.WriteFault) old new wrote = wrote
  shown_at out (Err text_stop.NoMemory) old new wrote = wrote

  -- a run of which something is expected
  pub expected_at : (result : Result Expecting TextStop) (a b : Sink) → Writes gives result a b → WritesAt gives (expect_exit_of result) a b
  expected_at (Ok Met) a b wrote = wrote
  expected_at (Ok Unmet) a b wrote = wrote
  expected_at (Ok Faulted) a b wrote = wrote
  expected_at (Err text_stop.WriteFault) a b wrote = wrote
  expected_at (Err text_stop.NoMemory) a b wrote = wrote
