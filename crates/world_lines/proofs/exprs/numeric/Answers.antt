use Rattle.std.proofs.Common.{◌≡◌, ◌<◌, subst, arith}
use Rattle.spec_script.specs.declared.syntax.Expr.{Expr}
use Rattle.spec_script.specs.Scripts.{texts_of}
use Rattle.script_reader.proofs.Exclusive.{one-expr, no-expr_fault}
use Rattle.world_lines.proofs.Ascii.{IsUtf8-from_line}
use Rattle.world_lines.proofs.exprs.numeric.Goals as goal

pub parse_expr-requires : goal.parse_expr-requires
parse_expr-requires c = IsUtf8-from_line c.args.text.now c.requires

pub returns-else-is_textless : goal.returns-else-is_textless
returns-else-is_textless c = λ e reads none.
    let same : e ≡ c.in-Ok.expr = one-expr c.args.text.now e c.in-Ok.expr reads c.in-Ok.ensures in
    let some : 0 < texts_of c.in-Ok.expr = c.if-is_textless.ensures in
    let zero : texts_of c.in-Ok.expr ≡ 0 = subst (λ (x : Expr). texts_of x ≡ 0) same none in
    omega arith

pub returns-in-Err-Fault : goal.returns-in-Err-Fault
returns-in-Err-Fault c = λ e reads none. no-expr_fault c.args.text.now e c.in-Err-Fault.field-0-0 reads (rw c.in-Err-Fault.field-0-is at c.in-Err-Fault.ensures)
