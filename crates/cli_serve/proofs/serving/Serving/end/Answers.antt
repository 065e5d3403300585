use Rattle.cli_serve.proofs.Finishing.{ended_done, ended_over}
use Rattle.cli_serve.specs.Serving.{sink}
use Rattle.spec_serve.specs.Talks.{finish_all}
use Rattle.cli_serve.proofs.serving.Serving.end.Goals as goal

pub returns-in-Ok-clause-says : goal.returns-in-Ok-clause-says
returns-in-Ok-clause-says g c =
    let out = g.K.Sink in
    ended_done (finish_all c.args.exit c.args.self.now.session) c.args.exit (sink (out.written c.args.out.now) (out.handed c.args.out.now) (out.faults c.args.out.now)) (sink (out.written c.finish.new.out) (out.handed c.finish.new.out) (out.faults c.finish.new.out))
    c.requires.exit (c.in-Ok.ensures.whole c.args.exit)

pub returns-in-Err-clause-says : goal.returns-in-Err-clause-says
returns-in-Err-clause-says g c =
    let out = g.K.Sink in
    rw c.unfinished_exit.ensures (ended_over c.in-Err.over (finish_all c.args.exit c.args.self.now.session) c.args.exit (sink (out.written c.args.out.now) (out.handed c.args.out.now) (out.faults c.args.out.now)) (sink (out.written c.finish.new.out) (out.handed c.finish.new.out) (out.faults c.finish.new.out))
    c.requires.exit (c.in-Err.ensures.over c.args.exit))
