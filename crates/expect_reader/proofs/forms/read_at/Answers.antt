use Rattle.std.proofs.Common.{◌≡◌, ℕ, List, Err, Ok, Result, Some, ap, rules, subst, true}
use Rattle.std.proofs.lemmas.Result.{err_from_is_err_and}
use Rattle.std.specs.Prelude.{option_map}
use Rattle.std.specs.Str.Parse.{signed_digits_value}
use Rattle.base_texts.specs.Results.{◌>>=◌}
use Rattle.spec_script.specs.declared.syntax.Expr.{Expr}
use Rattle.spec_tree.specs.Numbers.{is_canonical}
use Rattle.spec_world_file.specs.WorldFile.{ReadsNumeric, following}
use Rattle.spec_expect.specs.declared.expect_fault.ExpectFaultKind.{ExpectFaultKind}
use Rattle.spec_expect.specs.declared.expectation.Expectation.{Expectation}
use Rattle.spec_expect.specs.declared.expectation.Expectation.TheVariants.{At}
use Rattle.spec_expect.specs.ExpectFile.{AtLine, at_line, moment_of, over_facts}
use Rattle.world_lines.proofs.Ascii.{line_once}
use Rattle.expect_reader.specs.Reading.{subject_seen}
use Rattle.expect_reader.proofs.Saying.{err_gives, given_by, number_is, of_form, then_gives}
use Rattle.expect_reader.proofs.forms.read_at.Goals as goal

pub expression-requires : goal.expression-requires
expression-requires c = line_once c.args.text.now c.cut.result.1.now c.cut.ensures.rest c.requires

pub returns-in_err-ms : goal.returns-in_err-ms
returns-in_err-ms c =
    let p = err_from_is_err_and c.from_residual-in_err-ms.result c.from_residual-in_err-ms.ensures.1 in
    let facts = c.args.subject.now.facts.now in
    let z = signed_digits_value 10 c.cut.result.0.now in
    let text = c.args.text.now in
    let canonical : is_canonical c.cut.result.0.now ≡ true = search rules in
    let line : at_line text ≡ Some (AtLine z (following 1 text)) = ap (option_map (λ ms. AtLine ms (following 1 text))) (number_is c.cut.result.0.now text c.cut.ensures.prefix canonical) in
    let reads : ReadsNumeric (following 1 text) (Some c.in_ok-expr.expr) = subst (λ (t : List ℕ). ReadsNumeric t (Some c.in_ok-expr.expr)) c.cut.ensures.rest c.in_ok-expr.ensures in
    let rest : ℕ → Expr → Result Expectation ExpectFaultKind = λ ms e. over_facts facts e >>= λ f. Ok (At ms f) in
    rw (p.1, p.2) (of_form (subject_seen c.args.subject.now) (at_line text) (AtLine z (following 1 text)) (Err c.in_err-ms.field-0.0) line
    (given_by (following 1 text) c.in_ok-expr.expr (λ e. moment_of z >>= λ ms. rest ms e) (Err c.in_err-ms.field-0.0) reads
    (err_gives (moment_of z) (λ ms. rest ms c.in_ok-expr.expr) c.in_err-ms.field-0.0 c.in_err-ms.ensures)))

pub returns-in_err-expr-2 : goal.returns-in_err-expr-2
returns-in_err-expr-2 c =
    let p = err_from_is_err_and c.from_residual-in_err-expr-2.result c.from_residual-in_err-expr-2.ensures.1 in
    let facts = c.args.subject.now.facts.now in
    let z = signed_digits_value 10 c.cut.result.0.now in
    let text = c.args.text.now in
    let canonical : is_canonical c.cut.result.0.now ≡ true = search rules in
    let line : at_line text ≡ Some (AtLine z (following 1 text)) = ap (option_map (λ ms. AtLine ms (following 1 text))) (number_is c.cut.result.0.now text c.cut.ensures.prefix canonical) in
    let reads : ReadsNumeric (following 1 text) (Some c.in_ok-expr.expr) = subst (λ (t : List ℕ). ReadsNumeric t (Some c.in_ok-expr.expr)) c.cut.ensures.rest c.in_ok-expr.ensures in
    let last : ℕ → Expr → Result Expectation ExpectFaultKind = λ ms f. Ok (At ms f) in
    let rest : ℕ → Expr → Result Expectation ExpectFaultKind = λ ms e. over_facts facts e >>= last ms in
    rw (p.1, p.2) (of_form (subject_seen c.args.subject.now) (at_line text) (AtLine z (following 1 text)) (Err c.in_err-expr-2.field-0.0) line
    (given_by (following 1 text) c.in_ok-expr.expr (λ e. moment_of z >>= λ ms. rest ms e) (Err c.in_err-expr-2.field-0.0) reads
    (then_gives (moment_of z) c.in_ok-ms.ms (λ ms. rest ms c.in_ok-expr.expr) (Err c.in_err-expr-2.field-0.0) c.in_ok-ms.ensures
    (err_gives (over_facts facts c.in_ok-expr.expr) (last c.in_ok-ms.ms) c.in_err-expr-2.field-0.0 c.in_err-expr-2.ensures))))

pub returns : goal.returns
returns c =
    let facts = c.args.subject.now.facts.now in
    let z = signed_digits_value 10 c.cut.result.0.now in
    let text = c.args.text.now in
    let canonical : is_canonical c.cut.result.0.now ≡ true = search rules in
    let line : at_line text ≡ Some (AtLine z (following 1 text)) = ap (option_map (λ ms. AtLine ms (following 1 text))) (number_is c.cut.result.0.now text c.cut.ensures.prefix canonical) in
    let reads : ReadsNumeric (following 1 text) (Some c.in_ok-expr.expr) = subst (λ (t : List ℕ). ReadsNumeric t (Some c.in_ok-expr.expr)) c.cut.ensures.rest c.in_ok-expr.ensures in
    let last : ℕ → Expr → Result Expectation ExpectFaultKind = λ ms f. Ok (At ms f) in
    let rest : ℕ → Expr → Result Expectation ExpectFaultKind = λ ms e. over_facts facts e >>= last ms in
    of_form (subject_seen c.args.subject.now) (at_line text) (AtLine z (following 1 text)) (Ok (At c.in_ok-ms.ms c.in_ok-expr-2.expr)) line
    (given_by (following 1 text) c.in_ok-expr.expr (λ e. moment_of z >>= λ ms. rest ms e) (Ok (At c.in_ok-ms.ms c.in_ok-expr-2.expr)) reads
    (then_gives (moment_of z) c.in_ok-ms.ms (λ ms. rest ms c.in_ok-expr.expr) (Ok (At c.in_ok-ms.ms c.in_ok-expr-2.expr)) c.in_ok-ms.ensures
    (ap (λ (r : Result Expr ExpectFaultKind). r >>= last c.in_ok-ms.ms) c.in_ok-expr-2.ensures)))
