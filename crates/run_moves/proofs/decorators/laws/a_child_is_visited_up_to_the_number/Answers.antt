use Rattle.run_moves.proofs.AboutDecorators.Again.{repeat_hears, retry_hears}
use Rattle.run_moves.proofs.decorators.laws.a_child_is_visited_up_to_the_number.Goals as goal

pub returns : goal.returns
returns c = record { retry = retry_hears; repeat = repeat_hears }
