use Rattle.std.proofs.Common.{map}
use Rattle.script_code.specs.Codes.{program, program_over}
use Rattle.script_code.specs.Statements.{one_by_one, slot_in, stmt_program}
use Rattle.script_code.proofs.codes.ScriptCode.over_those_of.Goals as goal

pub returns-clause-program : goal.returns-clause-program
unfolding program program_over
returns-clause-program c = λ i. one_by_one (map (stmt_program (slot_in (c.in_ok-share-2.ensures i))) (c.in_ok-share.ensures i))
