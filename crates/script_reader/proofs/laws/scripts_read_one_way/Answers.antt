use Rattle.script_reader.proofs.Exclusive.{one-script, one-stmts_fault, no-stmts_fault}
use Rattle.script_reader.proofs.laws.scripts_read_one_way.Goals as goal

pub returns : goal.returns
returns c = record { once = one-script; fault = one-stmts_fault; not_both = no-stmts_fault }
