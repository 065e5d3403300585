use Rattle.std.proofs.Common.{◌≤◌, List, length, Option, ap, sym, subst, ◌∙◌, arith}
use Rattle.spec_script.specs.declared.token.Placed.{Placed}
use Rattle.spec_script.specs.declared.syntax.Stmt.{Stmt}
use Rattle.spec_script.specs.Grammar.{IsStmts}
use Rattle.spec_script.specs.Reading.{bare, tokens_of}
use Rattle.spec_script.proofs.Readings.{script-start, script-refused, script-clean}
use Rattle.script_reader.proofs.reader.parse_script.Goals as goal

pub returns-in-Some : goal.returns-in-Some
returns-in-Some c =
    let text = c.args.text.now in
    let short : length text ≤ 4096 = omega arith in
    let l = script-start c.new.result.items c.as_slice.result.now (tokens_of text) c.in_ok-verdict.verdict c.new.ensures.items (c.as_slice.ensures.value ∙ c.in_ok-lexed.ensures.tokens) c.in_ok-verdict.ensures in
    script-refused text c.in_ok-verdict.verdict c.in_ok-lexed.lexed.fault (length text) c.in-Some.fault short l c.in_ok-lexed.ensures.fault (λ i. length text) c.in-Some.ensures

pub statements-requires-clause-small : goal.statements-requires-clause-small
statements-requires-clause-small c =
    omega (arith, ap (λ (x : List Placed). length x) c.as_slice-in-None.ensures.value, c.in_ok-lexed.ensures.few)

pub statements-requires-clause-whole : goal.statements-requires-clause-whole
statements-requires-clause-whole c =
    let text = c.args.text.now in
    let l = script-start c.new.result.items c.as_slice.result.now (tokens_of text) c.in_ok-verdict.verdict c.new.ensures.items (c.as_slice.ensures.value ∙ c.in_ok-lexed.ensures.tokens) c.in_ok-verdict.ensures in
    let w = (script-clean text c.in_ok-verdict.verdict c.in_ok-lexed.lexed.fault (length text) l c.in_ok-lexed.ensures.fault c.in-None.ensures).1 in
    let P : List Placed → Type 0 = λ ts. (slots : List (Option Stmt)) × IsStmts (bare ts) slots in
    subst P (sym (c.as_slice-in-None.ensures.value ∙ c.in_ok-lexed.ensures.tokens)) w
