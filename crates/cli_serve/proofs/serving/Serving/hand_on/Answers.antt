use Rattle.std.proofs.lemmas.Result.{err_from_is_err_and}
use Rattle.cli_serve.proofs.Parts.{line_first, line_unhanded}
use Rattle.cli_serve.specs.Serving.{sink}
use Rattle.cli_serve.proofs.serving.Serving.hand_on.Goals as goal

pub returns-in_err-write_line-clause-says : goal.returns-in_err-write_line-clause-says
returns-in_err-write_line-clause-says g c =
    let p = err_from_is_err_and c.from_residual.result c.from_residual.ensures.1 in
    let out = g.K.Sink in
    rw (p.1, p.2) (line_first c.in_err-write_line.field-0.0 c.args.self.now.line.items
    (sink (out.written c.args.out.now) (out.handed c.args.out.now) (out.faults c.args.out.now))
    (sink (out.written c.write_line.new.out) (out.handed c.write_line.new.out) (out.faults c.write_line.new.out))
    (rw c.as_slice.ensures.value at c.in_err-write_line.ensures.prefix) c.in_err-write_line.ensures.failed)

pub returns-in-Err-clause-says : goal.returns-in-Err-clause-says
returns-in-Err-clause-says g c =
    let out = g.K.Sink in
    line_unhanded c.in-Err.fault c.from.result c.args.self.now.line.items
    (sink (out.written c.args.out.now) (out.handed c.args.out.now) (out.faults c.args.out.now))
    (sink (out.written c.write_line.new.out) (out.handed c.write_line.new.out) (out.faults c.write_line.new.out))
    (sink (out.written c.flush.new.self) (out.handed c.flush.new.self) (out.faults c.flush.new.self))
    c.from.ensures (rw c.as_slice.ensures.value at c.in_ok-write_line.ensures.whole) c.in-Err.ensures.kept c.in_ok-write_line.ensures.count c.in-Err.ensures.failed
