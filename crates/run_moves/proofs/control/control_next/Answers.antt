use Rattle.run_moves.proofs.control.control_next.Goals as goal

pub returns-in-Passed-clause-onward : goal.returns-in-Passed-clause-onward
returns-in-Passed-clause-onward c =
    let fits = rw c.in-Passed.is at c.requires.fits in
    rw (c.in-Passed.is, fits.0) (c.parallel_on.ensures.onward c.args.memo.now)
