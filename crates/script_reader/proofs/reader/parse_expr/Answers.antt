use Rattle.std.proofs.Common.{◌≤◌, List, [], ◌∷◌, ◌++◌, length, ap, sym, subst, ◌∙◌, arith}
use Rattle.spec_script.specs.declared.token.Placed.{Placed}
use Rattle.spec_script.specs.declared.syntax.Expr.{Expr}
use Rattle.spec_script.specs.declared.stage.Opened.{Opened}
use Rattle.spec_script.specs.declared.stage.Opened.TheVariants.{Whole}
use Rattle.spec_script.specs.Grammar.{IsExpr}
use Rattle.spec_script.specs.Reading.{bare, tokens_of}
use Rattle.spec_script.proofs.Readings.{expr-start, expr-refused, expr-clean}
use Rattle.script_reader.proofs.reader.parse_expr.Goals as goal

pub returns-in-Some : goal.returns-in-Some
returns-in-Some c =
    let text = c.args.text.now in
    let short : length text ≤ 4096 = omega arith in
    let one = c.in_ok-push.ensures.items ∙ ap (λ (os : List Opened). os ++ Whole ∷ []) c.new-opened.ensures.items in
    let l = expr-start c.push.new.self.items c.as_slice.result.now (tokens_of text) c.in_ok-verdict.verdict one (c.as_slice.ensures.value ∙ c.in_ok-lexed.ensures.tokens) c.in_ok-verdict.ensures in
    expr-refused text c.in_ok-verdict.verdict c.in_ok-lexed.lexed.fault (length text) c.in-Some.fault short l c.in_ok-lexed.ensures.fault (λ i. length text) c.in-Some.ensures

pub alone-requires-clause-small : goal.alone-requires-clause-small
alone-requires-clause-small c =
    omega (arith, ap (λ (x : List Placed). length x) c.as_slice-in-None.ensures.value, c.in_ok-lexed.ensures.few)

pub alone-requires-clause-whole : goal.alone-requires-clause-whole
alone-requires-clause-whole c =
    let text = c.args.text.now in
    let one = c.in_ok-push.ensures.items ∙ ap (λ (os : List Opened). os ++ Whole ∷ []) c.new-opened.ensures.items in
    let l = expr-start c.push.new.self.items c.as_slice.result.now (tokens_of text) c.in_ok-verdict.verdict one (c.as_slice.ensures.value ∙ c.in_ok-lexed.ensures.tokens) c.in_ok-verdict.ensures in
    let w = (expr-clean text c.in_ok-verdict.verdict c.in_ok-lexed.lexed.fault (length text) l c.in_ok-lexed.ensures.fault c.in-None.ensures).1 in
    let P : List Placed → Type 0 = λ ts. (e : Expr) × IsExpr (bare ts) e in
    subst P (sym (c.as_slice-in-None.ensures.value ∙ c.in_ok-lexed.ensures.tokens)) w
