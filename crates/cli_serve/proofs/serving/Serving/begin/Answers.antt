use Rattle.std.proofs.lemmas.Result.{err_from_is_err_and}
use Rattle.cli_serve.proofs.Saying.{begin_over, begin_whole}
use Rattle.cli_serve.specs.Serving.{sink}
use Rattle.cli_serve.proofs.serving.Serving.begin.Goals as goal

pub returns-clause-whole : goal.returns-clause-whole
returns-clause-whole g c =
    let out = g.K.Sink in
    begin_whole c.args.self.now.session.own c.args.self.now.session c.make_own.new.self.session c.say_ready.new.self.session c.say_ready.result c.args.self.now.reading
    (sink (out.written c.args.out.now) (out.handed c.args.out.now) (out.faults c.args.out.now)) (sink (out.written c.make_own.new.out) (out.handed c.make_own.new.out) (out.faults c.make_own.new.out))
    (sink (out.written c.say_ready.new.out) (out.handed c.say_ready.new.out) (out.faults c.say_ready.new.out))
    c.in_ok-make_own.ensures.whole c.say_ready.ensures.says c.say_ready.ensures.kept.0

pub returns-clause-over : goal.returns-clause-over
returns-clause-over g c =
    let out = g.K.Sink in
    begin_over c.args.self.now.session.own c.args.self.now.session c.make_own.new.self.session c.say_ready.new.self.session c.say_ready.result c.args.self.now.reading
    (sink (out.written c.args.out.now) (out.handed c.args.out.now) (out.faults c.args.out.now)) (sink (out.written c.make_own.new.out) (out.handed c.make_own.new.out) (out.faults c.make_own.new.out))
    (sink (out.written c.say_ready.new.out) (out.handed c.say_ready.new.out) (out.faults c.say_ready.new.out))
    c.in_ok-make_own.ensures.whole c.make_own.ensures.count c.say_ready.ensures.says c.say_ready.ensures.kept.0

pub returns-in_err-make_own-clause-over : goal.returns-in_err-make_own-clause-over
returns-in_err-make_own-clause-over g c =
    let p = err_from_is_err_and c.from_residual.result c.from_residual.ensures.1 in
    rw (p.1, p.2) c.in_err-make_own.ensures.over

pub returns-in_err-make_own-clause-left : goal.returns-in_err-make_own-clause-left
returns-in_err-make_own-clause-left g c =
    let p = err_from_is_err_and c.from_residual.result c.from_residual.ensures.1 in
    rw (p.1, p.2) c.in_err-make_own.ensures.left
