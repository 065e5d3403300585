use Rattle.std.specs.Option.{option_copied}
use Rattle.spec_outside.specs.Counts.{Rose}
use Rattle.cli_serve.specs.Serving.{sink}
use Rattle.cli_serve.proofs.Answered.{refused_said, served_said}
use Rattle.cli_serve.proofs.files.serve_read.Goals as goal

pub returns-in-Ok-clause-said : goal.returns-in-Ok-clause-said
returns-in-Ok-clause-said g c =
    let says = c.run.ensures.says in
    served_said (option_copied c.args.main) c.args.files.now (g.L.Lines.ahead c.args.lines.now) (Rose (g.L.Lines.faults c.args.lines.now) (g.L.Lines.faults c.run.new.lines)) c.run.result
    (sink (g.K.Sink.written c.args.out.now) (g.K.Sink.handed c.args.out.now) (g.K.Sink.faults c.args.out.now))
    (sink (g.K.Sink.written c.run.new.out) (g.K.Sink.handed c.run.new.out) (g.K.Sink.faults c.run.new.out))
    c.in-Ok.serving says.0 says.2 c.in-Ok.ensures.opens says.1 says.3 says.4

pub returns-in-Err-clause-said : goal.returns-in-Err-clause-said
returns-in-Err-clause-said g c =
    refused_said (option_copied c.args.main) c.args.files.now (g.L.Lines.ahead c.args.lines.now) (Rose (g.L.Lines.faults c.args.lines.now) (g.L.Lines.faults c.args.lines.now)) c.write_refusal.result
    (sink (g.K.Sink.written c.args.out.now) (g.K.Sink.handed c.args.out.now) (g.K.Sink.faults c.args.out.now))
    (sink (g.K.Sink.written c.write_refusal.new.out) (g.K.Sink.handed c.write_refusal.new.out) (g.K.Sink.faults c.write_refusal.new.out))
    c.in-Err.refusal c.in-Err.ensures.opens c.write_refusal.ensures.refused
