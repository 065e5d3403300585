use Rattle.std.proofs.Common.{ap, sym, subst, ◌∙◌, ◌<◌, ◌-◌, length, List, arith}
use Rattle.spec_script.specs.declared.syntax.Stmt.{Stmt}
use Rattle.script_reader.specs.Climb.{seen_stmt, ends_within}
use Rattle.script_reader.proofs.Statements.{Progress, progress-start, progress-semicolon, progress-stmt, progress-high, progress-end}
use Rattle.script_reader.proofs.build.statements.Goals as goal

pub loop-at-init : goal.loop-at-init
loop-at-init c = subst (λ (done : List Stmt). Progress c.args.tokens.now done 0) (sym c.new-stmts.ensures.items) (progress-start c.args.tokens.now c.requires.whole.0 c.requires.whole.1)

pub loop-at-preserved-then-is_semicolon : goal.loop-at-preserved-then-is_semicolon
loop-at-preserved-then-is_semicolon c =
    progress-semicolon c.args.tokens.now c.loop-at.stmts.items c.loop-at.at c.index-tokens-at.result c.loop-at.invariant c.loop-at-test.true c.index-tokens-at.is c.if-is_semicolon.ensures

pub loop-at-smaller : goal.loop-at-smaller
loop-at-smaller c =
    let end = subst (ends_within c.args.tokens.now) c.in-Some.is c.in_ok-stmt.ensures.within in
    let less = (progress-stmt c.args.tokens.now c.loop-at.stmts.items c.push.new.self.items c.loop-at.at c.in-Some.next c.index-tokens-at.result c.in-Some.stmt c.loop-at.invariant c.loop-at-test.true c.index-tokens-at.is c.if-is_semicolon.ensures
    (ap (seen_stmt c.args.tokens.now) (sym c.in-Some.is) ∙ c.in_ok-stmt.ensures.value) end c.in_ok-push-in-Some.ensures.items).0 in
    let smaller : length c.args.tokens.now - c.in-Some.next < length c.args.tokens.now - c.loop-at.at = omega arith in
    smaller

pub loop-at-preserved : goal.loop-at-preserved
loop-at-preserved c =
    (progress-stmt c.args.tokens.now c.loop-at.stmts.items c.push.new.self.items c.loop-at.at c.in-Some.next c.index-tokens-at.result c.in-Some.stmt c.loop-at.invariant c.loop-at-test.true c.index-tokens-at.is c.if-is_semicolon.ensures
    (ap (seen_stmt c.args.tokens.now) (sym c.in-Some.is) ∙ c.in_ok-stmt.ensures.value)
    (subst (ends_within c.args.tokens.now) c.in-Some.is c.in_ok-stmt.ensures.within) c.in_ok-push-in-Some.ensures.items).1

pub returns-in-None : goal.returns-in-None
returns-in-None c =
    progress-high c.args.tokens.now c.loop-at.stmts.items c.loop-at.at c.index-tokens-at.result c.loop-at.invariant c.loop-at-test.true c.index-tokens-at.is c.if-is_semicolon.ensures
    (ap (seen_stmt c.args.tokens.now) (sym c.in-None.is) ∙ c.in_ok-stmt.ensures.value)

pub returns : goal.returns
returns c = progress-end c.args.tokens.now c.loop-at.stmts.items c.loop-at.at c.loop-at.invariant c.loop-at-test.false
