use Rattle.std.proofs.Common.{arith}
use Rattle.run_loop.proofs.events.finish_runner.Goals as goal

pub run_part-requires-clause-runs : goal.run_part-requires-clause-runs
run_part-requires-clause-runs g c =
    let r = c.requires.runs in
    (r.0, record { are = r.1; first = c.requires.first; last = r.2; ahead = omega arith })

pub returns : goal.returns
returns g c = λ of are last. c.run_part.ensures of (record { are = are; first = c.requires.first; last = last; ahead = omega arith })
