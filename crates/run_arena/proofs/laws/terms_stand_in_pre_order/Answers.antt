use Rattle.run_arena.proofs.Opened.{closed, memory_out, opened}
use Rattle.run_arena.proofs.laws.terms_stand_in_pre_order.Goals as goal

pub returns : goal.returns
returns c = record { stands = λ t nodes view uid. (opened t nodes view uid, closed t nodes view uid); memory = memory_out }
