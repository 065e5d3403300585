use Rattle.std.proofs.Common.{◌≡◌, ◌∙◌, ◌≤◌, ◌<◌, ◌++◌, ◌∷◌, ℕ, List, [], length, map, ap, subst, sym, arith}
use Rattle.std.specs.List.{All}
use Rattle.std.proofs.lemmas.Grind.{common_steps}
use Rattle.std.proofs.lemmas.List.Elements.{All-append, All-cons, All-nil}
use Rattle.script_code.specs.declared.codes.StmtCode.{StmtCode}
use Rattle.script_code.specs.Programs.{statement_of}
use Rattle.script_code.specs.Sources.{place_in}
use Rattle.script_code.specs.Statements.{stmt_code_reach, stmt_program}
use Rattle.script_code.proofs.Numbered.{names_at}
use Rattle.script_code.proofs.Same.{one_more_each}
use Rattle.script_code.proofs.compiling.statements.Goals as goal

pub loop-stmt-preserved : goal.loop-stmt-preserved
loop-stmt-preserved c =
    let names = c.args.names.now in
    let stmts = c.args.stmts.now in
    let index = c.loop-stmt.stmt-index in
    let code = c.in_ok-statement.field-0 in
    let Numbered = λ (s : StmtCode). stmt_code_reach s ≤ length names in
    let within : index < length stmts = grind (arith, common_steps) in
    record {
      meaning = λ slots.
          ap (map (stmt_program slots)) c.in_ok-push.ensures.items
          ∙ one_more_each (stmt_program slots) (statement_of (λ name. slots (place_in names name))) c.loop-stmt.codes.items stmts index code c.stmt-item.result within c.stmt-item.is
          (c.in_ok-statement.ensures.meaning slots) (c.loop-stmt.invariant.meaning slots);
      reach = subst (All Numbered) (sym c.in_ok-push.ensures.items)
          (All-append Numbered c.loop-stmt.codes.items (code ∷ []) c.loop-stmt.invariant.reach
          (All-cons Numbered code [] (c.in_ok-statement.ensures.reach (length names) (names_at (λ name. place_in names name < length names) stmts index c.stmt-item.result within c.stmt-item.is c.requires.named)) (All-nil Numbered)));
    }
