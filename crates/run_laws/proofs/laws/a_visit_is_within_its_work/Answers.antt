use Rattle.run_laws.proofs.TermWork.{resets_make_none, term_bounded, tick_bounded}
use Rattle.run_laws.proofs.laws.a_visit_is_within_its_work.Goals as goal

pub returns : goal.returns
returns c = record { visit = λ t. (term_bounded t).visit; tick = tick_bounded; reset = resets_make_none }
