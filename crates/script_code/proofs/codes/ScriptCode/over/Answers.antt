use Rattle.std.proofs.Common.{◌≡◌, ◌∙◌, map}
use Rattle.script_code.specs.Codes.{program, program_over}
use Rattle.script_code.specs.Statements.{one_by_one, slot_in, stmt_program}
use Rattle.script_code.proofs.codes.ScriptCode.over.Goals as goal

pub returns-clause-program : goal.returns-clause-program
unfolding program program_over
returns-clause-program c =
    let slots = c.in_ok-of.ensures ∙ c.of.ensures in
    λ i. one_by_one (map (stmt_program (slot_in (slots i))) (c.in_ok-share.ensures i))
