use Rattle.run_moves.proofs.Said.{told_is_said}
use Rattle.run_moves.proofs.whole_visits.a_rule_hears_what_its_children_say.Goals as goal

pub returns : goal.returns
returns c = λ kind rule rest told is cs ms s said. told_is_said kind rest cs told rule is ms s said
