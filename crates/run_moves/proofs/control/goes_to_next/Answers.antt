use Rattle.run_moves.proofs.control.goes_to_next.Goals as goal

pub returns-in-Answered-clause-onward : goal.returns-in-Answered-clause-onward
returns-in-Answered-clause-onward c = rw c.in-Answered.is c.next_after.ensures.onward
