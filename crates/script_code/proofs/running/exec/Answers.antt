use Rattle.std.proofs.Common.{◌<◌, ◌≤◌, ◌∙◌, List, ℕ, length, refl, subst, sym}
use Rattle.std.specs.List.{All}
use Rattle.script_code.specs.declared.codes.StmtCode.{StmtCode}
use Rattle.script_code.specs.Codes.{needed}
use Rattle.script_code.specs.Statements.{stmt_code_reach}
use Rattle.script_code.proofs.Numbered.{below_all}
use Rattle.script_code.proofs.running.exec.Goals as goal

pub loop-stmt-init : goal.loop-stmt-init
unfolding needed
loop-stmt-init g c =
    let code = c.args.code.now in
    let n = length (g.B.Cells.entries c.args.cells.now) in
    let slots = c.list-slots.ensures ∙ c.get.ensures in
    record {
      run = refl;
      numbered =
          subst (λ (stmts : List StmtCode). All (λ s. stmt_code_reach s ≤ length c.list-slots.result.now) stmts) (sym (c.list-stmt-items.ensures ∙ c.get-2.ensures))
          (subst (λ (slots : List ℕ). All (λ s. stmt_code_reach s ≤ length slots) code.stmts) (sym slots) code.numbered);
      below = subst (λ (slots : List ℕ). All (λ slot. slot < n) slots) (sym slots) (below_all code.slots n c.requires);
      slots = refl;
      met = λ met. met;
    }
