-- What a run gives of which something is expected.
use Rattle.std.specs.Prelude.{ℕ, ◌≡◌, ◌-◌, List, ◌++◌, length, nat_eq, if◌then◌else◌, Option, Some, None}
use Rattle.std.specs.List.{count_by, flat_map}
use Rattle.spec_run.specs.declared.fault.RunFault.{RunFault}
use Rattle.spec_run.specs.Drivers.{DriverState}
use Rattle.spec_run.specs.Run.{Trace}
use Rattle.spec_run.specs.Served.{Setup}
use Rattle.spec_expect.specs.declared.expectation.Expected.{Expected}
use Rattle.spec_expect.specs.Told.{line_of_note, told_of}
use Rattle.spec_expect.specs.Verdicts.{failed, sum_line, verdict_line}
use Rattle.spec_output.specs.Lines.{LineNames}
use Rattle.expect_watch.specs.declared.watching.Watched.{Watched}
use Rattle.expect_watch.specs.States.{State, is_failed, seen, verdict_of}
use Rattle.run_arena.specs.declared.nodes.Node.{Node}
use Rattle.run_loop.specs.Runs.{roster_over}
use Rattle.text_trace.specs.declared.ended.Ended.{Ended}
use Rattle.text_trace.specs.declared.ended.Ended.TheVariants as ended
use Rattle.text_trace.specs.declared.expecting.expecter.Expecter.{Expecter}
use Rattle.text_trace.specs.declared.expecting.run.Expecting.{Expecting}
use Rattle.text_trace.specs.declared.expecting.run.Expecting.TheVariants.{Met, Unmet, Faulted}
use Rattle.text_trace.specs.Following.{Following}

-- how a run comes out without a fault that does not meet so many expectations
abbrev pub met_or_not : ℕ → Expecting
met_or_not failed = if nat_eq failed 0 then Met else Unmet

-- .. by its fault
abbrev pub comes_out : Option RunFault → ℕ → Expecting
comes_out (Some fault) failed = Faulted
comes_out None failed = met_or_not failed

-- ---- By what was watched

abbrev pub following : Expecter → Following
following e = record { state = seen e.watching; fault = e.fault }

-- how many expectations are not met
abbrev pub failed_in : State → ℕ
failed_in s = count_by (λ (w : Watched). is_failed (verdict_of w s.last)) s.watched

-- the line of each in order
abbrev pub verdict_lines : State → List ℕ
verdict_lines s = flat_map (λ (w : Watched). verdict_line w.line (verdict_of w s.last)) s.watched

-- the last line of a run that ended so
abbrev pub end_line : Ended → LineNames → Following → List ℕ
end_line ended.Faulted names f = line_of_note names f.fault
end_line ended.Done names f = sum_line (length f.state.watched - failed_in f.state) (failed_in f.state)

abbrev pub lines_by : Ended → LineNames → Following → List ℕ
lines_by ended names f = verdict_lines f.state ++ end_line ended names f

-- how it came out
abbrev pub came_out : Ended → ℕ → Expecting
came_out ended.Faulted failed = Faulted
came_out ended.Done failed = met_or_not failed

-- ---- By the run

-- this text was made of the run with this trace, which came out so, and the drivers had its calls
pub record IsExpected (of : Setup) (expected : List Expected) (arenas : List (List Node)) (old new : List DriverState) (lines : List ℕ) (came : Expecting) (trace : Trace) : Type 0 where
  pub text : lines ≡ told_of of expected trace
  pub out : came ≡ comes_out trace.fault (failed of trace.blocks expected)
  pub drivers : new ≡ roster_over arenas trace.calls old
