use Rattle.std.proofs.Common.{Err, Ok, Result, ap}
use Rattle.std.proofs.lemmas.Result.{err_from_is_err_and}
use Rattle.base_texts.specs.Results.{◌>>=◌}
use Rattle.spec_script.specs.declared.syntax.Expr.{Expr}
use Rattle.spec_expect.specs.declared.expect_fault.ExpectFaultKind.{ExpectFaultKind}
use Rattle.spec_expect.specs.declared.expectation.Expectation.{Expectation}
use Rattle.spec_expect.specs.declared.expectation.Expectation.TheVariants.{Always}
use Rattle.spec_expect.specs.ExpectFile.{over_facts}
use Rattle.expect_reader.proofs.Saying.{err_gives, given_by}
use Rattle.expect_reader.proofs.forms.read_always.Goals as goal

pub returns-in_err-over_facts : goal.returns-in_err-over_facts
returns-in_err-over_facts c =
    let p = err_from_is_err_and c.from_residual-in_err-over_facts.result c.from_residual-in_err-over_facts.ensures.1 in
    let facts = c.args.subject.now.facts.now in
    let rest : Expr → Result Expectation ExpectFaultKind = λ e. Ok (Always e) in
    rw (p.1, p.2) (given_by c.args.text.now c.in_ok-expr.expr (λ e. over_facts facts e >>= rest) (Err c.in_err-over_facts.field-0.0) c.in_ok-expr.ensures
    (err_gives (over_facts facts c.in_ok-expr.expr) rest c.in_err-over_facts.field-0.0 c.in_err-over_facts.ensures))

pub returns : goal.returns
returns c =
    let facts = c.args.subject.now.facts.now in
    let rest : Expr → Result Expectation ExpectFaultKind = λ e. Ok (Always e) in
    given_by c.args.text.now c.in_ok-expr.expr (λ e. over_facts facts e >>= rest) (Ok (Always c.in_ok-over_facts.field-0)) c.in_ok-expr.ensures
    (ap (λ (r : Result Expr ExpectFaultKind). r >>= rest) c.in_ok-over_facts.ensures)
