use Rattle.std.proofs.Common.{◌≤◌, ◌-◌}
use Rattle.cli_serve.proofs.Answering.{Answered}
use Rattle.cli_serve.specs.Serving.{CanRead, IsHandedOn, sink}
use Rattle.cli_serve.proofs.serving.Serving.answer_all.Given as goal

abbrev pub invariant-lines : goal.invariant-lines
invariant-lines g l =
    let out = g.K.Sink in
    let lines = g.L.Lines in
    record {
      can_read : CanRead l.self;
      handed : IsHandedOn (sink (out.written l.out) (out.handed l.out) (out.faults l.out));
      early : l.number ≤ 4294967296;
      answered : Answered (lines.ahead l.fn.lines) (lines.ahead l.lines) l.number l.fn.self.reading l.self.reading l.fn.self.session l.self.session
          (sink (out.written l.fn.out) (out.handed l.fn.out) (out.faults l.fn.out)) (sink (out.written l.out) (out.handed l.out) (out.faults l.out));
      line_count : lines.faults l.fn.lines ≤ lines.faults l.lines;
      count : out.faults l.fn.out ≤ out.faults l.out;
    }

abbrev pub decreases-lines : goal.decreases-lines
decreases-lines g l = 4294967297 - l.number
