use Rattle.std.proofs.Common.{◌≤◌, drop}
use Rattle.spec_serve.specs.Inputs.{input_lines}
use Rattle.cli_serve.proofs.Written.{Written}
use Rattle.cli_serve.proofs.answer.write_inputs.Given as goal

-- the lines of the ports so far were written
abbrev pub invariant-loop-place : goal.invariant-loop-place
invariant-loop-place g l =
    let written = g.K.Sink.written in
    let faults = g.K.Sink.faults in
    record {
      text : Written (input_lines l.uid l.ports l.inputs) (input_lines l.uid (drop l.place l.ports) (drop l.place l.inputs)) (written l.fn.out) (written l.out);
      count : faults l.fn.out ≤ faults l.out;
    }
