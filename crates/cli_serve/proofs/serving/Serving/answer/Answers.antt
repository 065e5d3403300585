use Rattle.std.proofs.lemmas.Result.{err_from_is_err_and}
use Rattle.cli_serve.proofs.Asked.{event_goes_on, event_unmade, finish_left, moment_goes_on, moment_over, unasked_left}
use Rattle.cli_serve.specs.Serving.{sink}
use Rattle.spec_outside.specs.Counts.{Rose}
use Rattle.cli_serve.proofs.serving.Serving.answer.Goals as goal

pub returns-in_err-next_request-clause-over : goal.returns-in_err-next_request-clause-over
returns-in_err-next_request-clause-over g c =
    let p = err_from_is_err_and c.from_residual.result c.from_residual.ensures.1 in
    let lines = g.L.Lines in
    let out = g.K.Sink in
    rw (p.1, p.2) (unasked_left (lines.ahead c.args.lines.now) (Rose (lines.faults c.args.lines.now) (lines.faults c.next_request.new.lines)) c.args.number
    c.args.self.now.reading c.in_err-next_request.field-0.0 (lines.ahead c.next_request.new.lines) c.next_request.new.self.reading
    c.args.self.now.session c.next_request.new.self.session (sink (out.written c.args.out.now) (out.handed c.args.out.now) (out.faults c.args.out.now))
    c.in_err-next_request.ensures.asks c.next_request.ensures.session)

pub returns-in_err-say_ok-in-At-clause-over : goal.returns-in_err-say_ok-in-At-clause-over
returns-in_err-say_ok-in-At-clause-over g c =
    let p = err_from_is_err_and c.from_residual-in_err-say_ok-in-At.result c.from_residual-in_err-say_ok-in-At.ensures.1 in
    let lines = g.L.Lines in
    let out = g.K.Sink in
    rw (p.1, p.2) (moment_over (lines.ahead c.args.lines.now) (Rose (lines.faults c.args.lines.now) (lines.faults c.next_request.new.lines)) c.args.number
    c.args.self.now.reading (lines.ahead c.next_request.new.lines) c.next_request.new.self.reading
    c.args.self.now.session c.next_request.new.self.session c.say_ok.new.self.session c.in_err-say_ok-in-At.field-0.0
    (sink (out.written c.args.out.now) (out.handed c.args.out.now) (out.faults c.args.out.now))
    (sink (out.written c.say_ok.new.out) (out.handed c.say_ok.new.out) (out.faults c.say_ok.new.out))
    (rw c.in-At.is at c.in_ok-next_request.ensures.asks) c.next_request.ensures.session c.say_ok.ensures.kept.0 c.in_err-say_ok-in-At.ensures.says)

pub returns-in_err-make-in-Make-clause-over : goal.returns-in_err-make-in-Make-clause-over
returns-in_err-make-in-Make-clause-over g c =
    let p = err_from_is_err_and c.from_residual-in_err-make-in-Make.result c.from_residual-in_err-make-in-Make.ensures.1 in
    let lines = g.L.Lines in
    let out = g.K.Sink in
    rw (p.1, p.2) (event_unmade (lines.ahead c.args.lines.now) (Rose (lines.faults c.args.lines.now) (lines.faults c.next_request.new.lines)) c.args.number
    c.args.self.now.reading c.in-Make.event (lines.ahead c.next_request.new.lines) c.next_request.new.self.reading
    c.args.self.now.session c.next_request.new.self.session c.make.new.self.session c.in_err-make-in-Make.field-0.0
    (sink (out.written c.args.out.now) (out.handed c.args.out.now) (out.faults c.args.out.now))
    (sink (out.written c.make.new.out) (out.handed c.make.new.out) (out.faults c.make.new.out))
    (rw c.in-Make.is at c.in_ok-next_request.ensures.asks) c.next_request.ensures.session c.in_err-make-in-Make.ensures.over)

pub returns-in-Finish-clause-ends : goal.returns-in-Finish-clause-ends
returns-in-Finish-clause-ends g c =
    let lines = g.L.Lines in
    λ is. finish_left (lines.ahead c.args.lines.now) (Rose (lines.faults c.args.lines.now) (lines.faults c.next_request.new.lines)) c.args.number
    c.args.self.now.reading (lines.ahead c.next_request.new.lines) c.next_request.new.self.reading
    c.args.self.now.session c.next_request.new.self.session (g.K.Sink.written c.args.out.now)
    (rw c.in-Finish.is at c.in_ok-next_request.ensures.asks) c.next_request.ensures.session

pub returns-in_ok-say_ok-in-At-clause-goes_on : goal.returns-in_ok-say_ok-in-At-clause-goes_on
returns-in_ok-say_ok-in-At-clause-goes_on g c =
    let lines = g.L.Lines in
    let out = g.K.Sink in
    λ is. moment_goes_on (lines.ahead c.args.lines.now) (Rose (lines.faults c.args.lines.now) (lines.faults c.next_request.new.lines)) c.args.number
    c.args.self.now.reading (lines.ahead c.next_request.new.lines) c.next_request.new.self.reading c.say_ok.new.self.reading
    c.args.self.now.session c.next_request.new.self.session c.say_ok.new.self.session
    (sink (out.written c.args.out.now) (out.handed c.args.out.now) (out.faults c.args.out.now))
    (sink (out.written c.say_ok.new.out) (out.handed c.say_ok.new.out) (out.faults c.say_ok.new.out))
    (rw c.in-At.is at c.in_ok-next_request.ensures.asks) c.next_request.ensures.session c.say_ok.ensures.kept.1 c.say_ok.ensures.kept.0
    c.in_ok-say_ok-in-At.ensures.says.1

pub returns-in_ok-make-in-Make-clause-goes_on : goal.returns-in_ok-make-in-Make-clause-goes_on
returns-in_ok-make-in-Make-clause-goes_on g c =
    let lines = g.L.Lines in
    let out = g.K.Sink in
    λ is. event_goes_on (lines.ahead c.args.lines.now) (Rose (lines.faults c.args.lines.now) (lines.faults c.next_request.new.lines)) c.args.number
    c.args.self.now.reading c.in-Make.event (lines.ahead c.next_request.new.lines) c.next_request.new.self.reading c.make.new.self.reading
    c.args.self.now.session c.next_request.new.self.session c.make.new.self.session
    (sink (out.written c.args.out.now) (out.handed c.args.out.now) (out.faults c.args.out.now))
    (sink (out.written c.make.new.out) (out.handed c.make.new.out) (out.faults c.make.new.out))
    (rw c.in-Make.is at c.in_ok-next_request.ensures.asks) c.next_request.ensures.session c.make.ensures.reading c.in_ok-make-in-Make.ensures.goes_on
