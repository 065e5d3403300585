use Rattle.std.proofs.Common.{◌≤◌, map, take}
use Rattle.std.specs.List.{concat}
use Rattle.spec_outside.specs.Appending.{Appended}
use Rattle.spec_outside.specs.Writes.{WroteLines}
use Rattle.spec_plan.specs.PlanLines.{step_line}
use Rattle.cli_answers.proofs.planning.plan_lines.write_steps.Given as goal

abbrev pub invariant-loop-step : goal.invariant-loop-step
invariant-loop-step g l =
    let written = g.K.Sink.written in
    let faults = g.K.Sink.faults in
    record {
      text : Appended (written l.fn.out) (written l.out) (concat (map step_line (take l.step-index l.steps)));
      count : faults l.fn.out ≤ faults l.out;
      writes : WroteLines g.K.Sink.write_gives l.fn.out l.out;
    }
