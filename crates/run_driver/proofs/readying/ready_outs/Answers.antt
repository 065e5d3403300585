use Rattle.std.proofs.Common.{◌+◌, ◌≤◌, List, [], ◌∷◌, length, map, ap, sym, subst, ◌∙◌}
use Rattle.std.specs.List.{All}
use Rattle.std.proofs.lemmas.List.Elements.{All-nil, All-cons, All-append}
use Rattle.spec_run.specs.Leaf.{place_of}
use Rattle.run_driver.specs.declared.expression.ReadyExpr.{ReadyExpr}
use Rattle.run_driver.specs.Ready.{expr_reach, ready_number}
use Rattle.run_driver.proofs.Tests.{numbers_more}
use Rattle.run_driver.proofs.readying.ready_outs.Goals as goal

pub loop-out-preserved : goal.loop-out-preserved
loop-out-preserved c =
    let names = c.args.names.now in
    let Within = λ (e : ReadyExpr). expr_reach e ≤ 8 + length names.facts.now in
    record {
      numbers =
          ap (map ready_number) c.in_ok-push.ensures.items
          ∙ numbers_more (place_of names.ports.now names.facts.now) c.loop-out.exprs.items c.in_ok-ready_expr.field-0 c.args.outs.now c.loop-out.out-index c.out-item.result
          c.loop-out-test.true c.out-item.is c.in_ok-ready_expr.ensures.number c.loop-out.invariant.numbers;
      reach =
          subst (All Within) (sym {A = List ReadyExpr} c.in_ok-push.ensures.items)
          (All-append Within c.loop-out.exprs.items (c.in_ok-ready_expr.field-0 ∷ []) c.loop-out.invariant.reach
          (All-cons Within c.in_ok-ready_expr.field-0 [] c.in_ok-ready_expr.ensures.reach (All-nil Within)));
    }
