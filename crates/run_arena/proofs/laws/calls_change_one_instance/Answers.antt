use Rattle.run_arena.proofs.Called.{instances_called, marks_called, roster_after_both, served_after}
use Rattle.run_arena.proofs.laws.calls_change_one_instance.Goals as goal

pub returns : goal.returns
returns c = record { instances = instances_called; served = served_after; marks = marks_called; both = roster_after_both }
