use Rattle.std.proofs.Common.{arith}
use Rattle.cli_serve.proofs.Running.{run_done, run_over, unbegun}
use Rattle.cli_serve.specs.Serving.{sink}
use Rattle.spec_outside.specs.Counts.{Rose}
use Rattle.cli_serve.proofs.serving.Serving.run.Goals as goal

pub returns-in-Ok-answer_all-clause-says : goal.returns-in-Ok-answer_all-clause-says
returns-in-Ok-answer_all-clause-says g c =
    let lines = g.L.Lines in
    let out = g.K.Sink in
    let s = c.args.self.now.session in
    run_done (lines.ahead c.args.lines.now) (Rose (lines.faults c.args.lines.now) (lines.faults c.answer_all.new.lines)) s.own c.args.self.now.reading
    s c.begin.new.self.session c.answer_all.new.self.session c.end.result
    (sink (out.written c.args.out.now) (out.handed c.args.out.now) (out.faults c.args.out.now))
    (sink (out.written c.begin.new.out) (out.handed c.begin.new.out) (out.faults c.begin.new.out))
    (sink (out.written c.answer_all.new.out) (out.handed c.answer_all.new.out) (out.faults c.answer_all.new.out))
    (sink (out.written c.end.new.out) (out.handed c.end.new.out) (out.faults c.end.new.out))
    c.in-Ok.ensures.whole (omega (arith, c.begin.ensures.count, c.answer_all.ensures.count))
    (rw c.begin.ensures.reading at c.in-Ok-answer_all.ensures.ends) c.end.ensures.says

pub returns-in-Err-answer_all-clause-says : goal.returns-in-Err-answer_all-clause-says
returns-in-Err-answer_all-clause-says g c =
    let lines = g.L.Lines in
    let out = g.K.Sink in
    let s = c.args.self.now.session in
    run_over (lines.ahead c.args.lines.now) (Rose (lines.faults c.args.lines.now) (lines.faults c.answer_all.new.lines)) s.own c.args.self.now.reading
    s c.begin.new.self.session c.answer_all.new.self.session c.in-Err-answer_all.over c.in-Err-answer_all.number c.ended.result
    (sink (out.written c.args.out.now) (out.handed c.args.out.now) (out.faults c.args.out.now))
    (sink (out.written c.begin.new.out) (out.handed c.begin.new.out) (out.faults c.begin.new.out))
    (sink (out.written c.answer_all.new.out) (out.handed c.answer_all.new.out) (out.faults c.answer_all.new.out))
    (sink (out.written c.ended.new.out) (out.handed c.ended.new.out) (out.faults c.ended.new.out))
    c.in-Ok.ensures.whole c.begin.ensures.count c.answer_all.ensures.count
    (rw c.begin.ensures.reading at c.in-Err-answer_all.ensures.over) c.ended.ensures.says

pub returns-in-Err-clause-says : goal.returns-in-Err-clause-says
returns-in-Err-clause-says g c =
    let lines = g.L.Lines in
    let out = g.K.Sink in
    let s = c.args.self.now.session in
    unbegun (lines.ahead c.args.lines.now) (Rose (lines.faults c.args.lines.now) (lines.faults c.args.lines.now)) s.own c.args.self.now.reading
    s c.begin.new.self.session c.in-Err.over c.ended-in-Err.result
    (sink (out.written c.args.out.now) (out.handed c.args.out.now) (out.faults c.args.out.now))
    (sink (out.written c.begin.new.out) (out.handed c.begin.new.out) (out.faults c.begin.new.out))
    (sink (out.written c.ended-in-Err.new.out) (out.handed c.ended-in-Err.new.out) (out.faults c.ended-in-Err.new.out))
    c.in-Err.ensures.over c.begin.ensures.count c.ended-in-Err.ensures.says
