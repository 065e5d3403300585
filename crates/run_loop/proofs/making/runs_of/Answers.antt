use Rattle.run_loop.proofs.making.runs_of.Goals as goal

pub returns-clause-cut : goal.returns-clause-cut
returns-clause-cut g c = rw (← c.replace.ensures.value) c.make_runs-made.ensures.cut

pub returns-clause-roster : goal.returns-clause-roster
returns-clause-roster g c = rw (← c.replace.ensures.value) c.make_runs-made.ensures.roster
