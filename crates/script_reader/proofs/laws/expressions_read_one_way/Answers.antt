use Rattle.script_reader.proofs.Exclusive.{one-expr, one-expr_fault, no-expr_fault}
use Rattle.script_reader.proofs.laws.expressions_read_one_way.Goals as goal

pub returns : goal.returns
returns c = record { once = one-expr; fault = one-expr_fault; not_both = no-expr_fault }
