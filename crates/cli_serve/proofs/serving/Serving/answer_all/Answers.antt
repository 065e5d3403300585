use Rattle.std.proofs.Common.{◌≡◌, ◌∙◌, Ok, true, false, ap, arith}
use Rattle.cli_serve.proofs.Answering.{answered_end, answered_more, answered_none, answered_over}
use Rattle.cli_serve.specs.Serving.{sink}
use Rattle.cli_serve.proofs.serving.Serving.answer_all.Goals as goal

pub lines-init : goal.lines-init
lines-init g c =
    let out = g.K.Sink in
    record {
      can_read = c.requires.ready;
      handed = c.requires.handed;
      early = omega arith;
      answered = answered_none (g.L.Lines.ahead c.args.lines.now) c.args.self.now.reading c.args.self.now.session (sink (out.written c.args.out.now) (out.handed c.args.out.now) (out.faults c.args.out.now));
      line_count = omega arith;
      count = omega arith;
    }

pub lines-preserved : goal.lines-preserved
lines-preserved g c =
    let lines = g.L.Lines in
    let out = g.K.Sink in
    let yes : c.answer.result ≡ Ok true = c.in-Ok-true.is ∙ ap Ok c.in-Ok-true.field-0-test in
    let goes_on = c.answer.ensures.goes_on yes in
    let counted = c.answer.ensures.counted yes in
    record {
      can_read = c.in-Ok-true.ensures.left;
      handed = c.in-Ok-true.ensures.handed;
      early = omega (arith, counted);
      answered = answered_more (lines.ahead c.args.lines.now) (lines.ahead c.lines.lines) (lines.ahead c.answer.new.lines) c.lines.number
          c.args.self.now.reading c.lines.self.reading c.answer.new.self.reading c.args.self.now.session c.lines.self.session c.answer.new.self.session
          (sink (out.written c.args.out.now) (out.handed c.args.out.now) (out.faults c.args.out.now))
          (sink (out.written c.lines.out) (out.handed c.lines.out) (out.faults c.lines.out))
          (sink (out.written c.answer.new.out) (out.handed c.answer.new.out) (out.faults c.answer.new.out))
          c.lines.invariant.answered goes_on.0 goes_on.1 goes_on.2;
      line_count = omega arith;
      count = omega arith;
    }

pub returns-in-Ok-false-clause-ends : goal.returns-in-Ok-false-clause-ends
returns-in-Ok-false-clause-ends g c =
    let lines = g.L.Lines in
    let out = g.K.Sink in
    let no : c.answer.result ≡ Ok false = c.in-Ok-false.is ∙ ap Ok c.in-Ok-false.field-0-test in
    answered_end (lines.ahead c.args.lines.now) (lines.ahead c.lines.lines) c.lines.number c.args.self.now.reading c.lines.self.reading
    c.args.self.now.session c.lines.self.session c.answer.new.self.session
    (sink (out.written c.args.out.now) (out.handed c.args.out.now) (out.faults c.args.out.now))
    (sink (out.written c.lines.out) (out.handed c.lines.out) (out.faults c.lines.out))
    (sink (out.written c.answer.new.out) (out.handed c.answer.new.out) (out.faults c.answer.new.out))
    c.lines.invariant.answered (c.answer.ensures.ends no)

pub returns-in-Err-clause-over : goal.returns-in-Err-clause-over
returns-in-Err-clause-over g c =
    let lines = g.L.Lines in
    let out = g.K.Sink in
    answered_over (lines.ahead c.args.lines.now) (lines.ahead c.lines.lines) c.lines.number c.args.self.now.reading c.lines.self.reading
    c.args.self.now.session c.lines.self.session c.answer.new.self.session c.in-Err.over
    (lines.faults c.args.lines.now) (lines.faults c.lines.lines) (lines.faults c.answer.new.lines)
    (sink (out.written c.args.out.now) (out.handed c.args.out.now) (out.faults c.args.out.now))
    (sink (out.written c.lines.out) (out.handed c.lines.out) (out.faults c.lines.out))
    (sink (out.written c.answer.new.out) (out.handed c.answer.new.out) (out.faults c.answer.new.out))
    c.lines.invariant.answered c.lines.invariant.line_count c.lines.invariant.count c.in-Err.ensures.over
