use Rattle.std.proofs.Common.{[], ◌∷◌}
use Rattle.std.proofs.lemmas.Result.{err_from_is_err_and}
use Rattle.cli_serve.proofs.Parts.{first_none}
use Rattle.cli_serve.specs.Serving.{sink}
use Rattle.spec_serve.specs.Talks.{ready_line}
use Rattle.cli_serve.proofs.serving.Serving.say_ready.Goals as goal

pub returns-in_err-put_bytes-2-clause-says : goal.returns-in_err-put_bytes-2-clause-says
returns-in_err-put_bytes-2-clause-says g c =
    let p = err_from_is_err_and c.from_residual-in_err-put_bytes-2.result c.from_residual-in_err-put_bytes-2.ensures.1 in
    let out = g.K.Sink in
    rw (p.1, p.2) (first_none (sink (out.written c.args.out.now) (out.handed c.args.out.now) (out.faults c.args.out.now)) (ready_line c.args.self.now.session ∷ []))
