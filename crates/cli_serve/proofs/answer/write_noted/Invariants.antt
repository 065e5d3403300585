use Rattle.std.proofs.Common.{◌≤◌, drop}
use Rattle.spec_serve.specs.Inputs.{kept_inputs, runner_of, told_notes}
use Rattle.cli_serve.proofs.Written.{Written}
use Rattle.cli_serve.proofs.answer.write_noted.Given as goal

-- the lines of the notes so far were written
abbrev pub invariant-loop-place : goal.invariant-loop-place
invariant-loop-place g l =
    let written = g.K.Sink.written in
    let faults = g.K.Sink.faults in
    let lines = told_notes l.names (kept_inputs l.session.state (runner_of l.session.block.header)) in
    record {
      text : Written (lines l.notes) (lines (drop l.place l.notes)) (written l.fn.out) (written l.out);
      count : faults l.fn.out ≤ faults l.out;
    }
