use Rattle.std.proofs.Common.{[], ◌∷◌, refl}
use Rattle.cli_serve.proofs.Parts.{line_stopped, line_wrote, said_after}
use Rattle.cli_serve.specs.Serving.{sink}
use Rattle.spec_program.specs.declared.exit.Exit.TheVariants as exit
use Rattle.spec_serve.specs.Refusals.{refused_line}
use Rattle.spec_serve.specs.Talks.{finish_all, refuse}
use Rattle.cli_serve.proofs.serving.Serving.refuse.Goals as goal

pub returns-in-Ok-clause-says : goal.returns-in-Ok-clause-says
returns-in-Ok-clause-says g c =
    let out = g.K.Sink in
    let s = c.args.self.now.session in
    said_after (refused_line c.args.fault c.args.number ∷ []) (finish_all exit.Request s) (refuse c.args.fault c.args.number s) c.end.result
    (sink (out.written c.args.out.now) (out.handed c.args.out.now) (out.faults c.args.out.now)) (sink (out.written c.write_refused.new.out) (out.handed c.write_refused.new.out) (out.faults c.write_refused.new.out))
    (sink (out.written c.end.new.out) (out.handed c.end.new.out) (out.faults c.end.new.out))
    (line_wrote (refused_line c.args.fault c.args.number) (sink (out.written c.args.out.now) (out.handed c.args.out.now) (out.faults c.args.out.now)) (sink (out.written c.write_refused.new.out) (out.handed c.write_refused.new.out) (out.faults c.write_refused.new.out)) c.in-Ok.ensures.whole)
    c.write_refused.ensures.count refl refl c.end.ensures.says

pub returns-in-Err-clause-says : goal.returns-in-Err-clause-says
returns-in-Err-clause-says g c =
    let out = g.K.Sink in
    rw c.stopped_exit.ensures (line_stopped c.in-Err.stop (refused_line c.args.fault c.args.number) (finish_all exit.Request c.args.self.now.session)
    (sink (out.written c.args.out.now) (out.handed c.args.out.now) (out.faults c.args.out.now)) (sink (out.written c.write_refused.new.out) (out.handed c.write_refused.new.out) (out.faults c.write_refused.new.out))
    c.in-Err.ensures.prefix c.in-Err.ensures.failed)
