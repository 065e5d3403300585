use Rattle.std.proofs.Common.{◌≡◌, ℕ, Bool, List, Err, Ok, Result, Some, ap, rules, subst, true}
use Rattle.std.proofs.lemmas.Result.{err_from_is_err_and}
use Rattle.std.specs.Prelude.{bytes_eq, codes}
use Rattle.base_texts.specs.Results.{◌>>=◌}
use Rattle.spec_script.specs.declared.syntax.Expr.{Expr}
use Rattle.spec_world_file.specs.WorldFile.{ReadsNumeric, following}
use Rattle.spec_expect.specs.declared.expect_fault.ExpectFaultKind.{ExpectFaultKind}
use Rattle.spec_expect.specs.declared.expectation.Expectation.{Expectation}
use Rattle.spec_expect.specs.declared.expectation.Expectation.TheVariants.{StartsOnly}
use Rattle.spec_expect.specs.ExpectFile.{StartsOnlyLine, leaves_in, only_line, over_facts}
use Rattle.world_lines.proofs.Ascii.{line_once}
use Rattle.expect_reader.specs.Reading.{subject_seen}
use Rattle.expect_reader.proofs.Saying.{err_gives, given_by, of_form, only_is, then_gives}
use Rattle.expect_reader.proofs.forms.read_only.Goals as goal

pub expression-requires : goal.expression-requires
expression-requires c = line_once c.args.text.now c.cut.result.1.now c.cut.ensures.rest c.requires

pub returns-in_err-leaves : goal.returns-in_err-leaves
returns-in_err-leaves c =
    let p = err_from_is_err_and c.from_residual-in_err-leaves.result c.from_residual-in_err-leaves.ensures.1 in
    let facts = c.args.subject.now.facts.now in
    let places = c.args.subject.now.places.now in
    let pick = c.args.pick.now in
    let text = c.args.text.now in
    let is_only : bytes_eq c.cut.result.0.now (codes "only") ≡ true = search rules in
    let line : only_line (pick, text) ≡ Some (StartsOnlyLine pick (following 1 text)) = only_is c.cut.result.0.now pick text c.cut.ensures.prefix is_only in
    let reads : ReadsNumeric (following 1 text) (Some c.in_ok-expr.expr) = subst (λ (t : List ℕ). ReadsNumeric t (Some c.in_ok-expr.expr)) c.cut.ensures.rest c.in_ok-expr.ensures in
    let rest : List Bool → Expr → Result Expectation ExpectFaultKind = λ leaves e. over_facts facts e >>= λ f. Ok (StartsOnly leaves f) in
    rw (p.1, p.2) (of_form (subject_seen c.args.subject.now) (only_line (pick, text)) (StartsOnlyLine pick (following 1 text)) (Err c.in_err-leaves.field-0.0) line
    (given_by (following 1 text) c.in_ok-expr.expr (λ e. leaves_in places pick >>= λ leaves. rest leaves e) (Err c.in_err-leaves.field-0.0) reads
    (err_gives (leaves_in places pick) (λ leaves. rest leaves c.in_ok-expr.expr) c.in_err-leaves.field-0.0 c.in_err-leaves.ensures)))

pub returns-in_err-expr-2 : goal.returns-in_err-expr-2
returns-in_err-expr-2 c =
    let p = err_from_is_err_and c.from_residual-in_err-expr-2.result c.from_residual-in_err-expr-2.ensures.1 in
    let facts = c.args.subject.now.facts.now in
    let places = c.args.subject.now.places.now in
    let pick = c.args.pick.now in
    let text = c.args.text.now in
    let is_only : bytes_eq c.cut.result.0.now (codes "only") ≡ true = search rules in
    let line : only_line (pick, text) ≡ Some (StartsOnlyLine pick (following 1 text)) = only_is c.cut.result.0.now pick text c.cut.ensures.prefix is_only in
    let reads : ReadsNumeric (following 1 text) (Some c.in_ok-expr.expr) = subst (λ (t : List ℕ). ReadsNumeric t (Some c.in_ok-expr.expr)) c.cut.ensures.rest c.in_ok-expr.ensures in
    let last : List Bool → Expr → Result Expectation ExpectFaultKind = λ leaves f. Ok (StartsOnly leaves f) in
    let rest : List Bool → Expr → Result Expectation ExpectFaultKind = λ leaves e. over_facts facts e >>= last leaves in
    rw (p.1, p.2) (of_form (subject_seen c.args.subject.now) (only_line (pick, text)) (StartsOnlyLine pick (following 1 text)) (Err c.in_err-expr-2.field-0.0) line
    (given_by (following 1 text) c.in_ok-expr.expr (λ e. leaves_in places pick >>= λ leaves. rest leaves e) (Err c.in_err-expr-2.field-0.0) reads
    (then_gives (leaves_in places pick) c.in_ok-leaves.leaves (λ leaves. rest leaves c.in_ok-expr.expr) (Err c.in_err-expr-2.field-0.0) c.in_ok-leaves.ensures
    (err_gives (over_facts facts c.in_ok-expr.expr) (last c.in_ok-leaves.leaves) c.in_err-expr-2.field-0.0 c.in_err-expr-2.ensures))))

pub returns : goal.returns
returns c =
    let facts = c.args.subject.now.facts.now in
    let places = c.args.subject.now.places.now in
    let pick = c.args.pick.now in
    let text = c.args.text.now in
    let is_only : bytes_eq c.cut.result.0.now (codes "only") ≡ true = search rules in
    let line : only_line (pick, text) ≡ Some (StartsOnlyLine pick (following 1 text)) = only_is c.cut.result.0.now pick text c.cut.ensures.prefix is_only in
    let reads : ReadsNumeric (following 1 text) (Some c.in_ok-expr.expr) = subst (λ (t : List ℕ). ReadsNumeric t (Some c.in_ok-expr.expr)) c.cut.ensures.rest c.in_ok-expr.ensures in
    let last : List Bool → Expr → Result Expectation ExpectFaultKind = λ leaves f. Ok (StartsOnly leaves f) in
    let rest : List Bool → Expr → Result Expectation ExpectFaultKind = λ leaves e. over_facts facts e >>= last leaves in
    of_form (subject_seen c.args.subject.now) (only_line (pick, text)) (StartsOnlyLine pick (following 1 text)) (Ok (StartsOnly c.in_ok-leaves.leaves c.in_ok-expr-2.expr)) line
    (given_by (following 1 text) c.in_ok-expr.expr (λ e. leaves_in places pick >>= λ leaves. rest leaves e) (Ok (StartsOnly c.in_ok-leaves.leaves c.in_ok-expr-2.expr)) reads
    (then_gives (leaves_in places pick) c.in_ok-leaves.leaves (λ leaves. rest leaves c.in_ok-expr.expr) (Ok (StartsOnly c.in_ok-leaves.leaves c.in_ok-expr-2.expr)) c.in_ok-leaves.ensures
    (ap (λ (r : Result Expr ExpectFaultKind). r >>= last c.in_ok-leaves.leaves) c.in_ok-expr-2.ensures)))
