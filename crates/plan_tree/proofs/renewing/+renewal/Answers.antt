use Rattle.std.proofs.Common.{◌≡◌, ◌+◌, ◌<◌, ◌≤◌, ◌++◌, [], ◌∷◌, List, length, take, ap, sym, ◌∙◌, arith}
use Rattle.std.proofs.lemmas.List.{length-append, length-set, length-take, take_all, take_more_set}
use Rattle.spec_tree.specs.declared.term.Term.{Term}
use Rattle.spec_plan.specs.Planned.{terms_of}
use Rattle.plan_tree.proofs.Split.{no_levels, stands_none}
use Rattle.plan_tree.proofs.Walked.{next_renewed, no_node}
use Rattle.plan_tree.proofs.renewing.+renewal.Goals as goal
use Rattle.plan_tree.proofs.renewing.+renewal.Goals.{renew_terms-then-place-len+in_ok-renew, renew_terms-else-place-len+in_ok-add_term}

pub renew_terms-returns-then-levels-eq0 : goal.renew_terms-returns-then-levels-eq0
renew_terms-returns-then-levels-eq0 t c = λ parent f stands low.
    let none = no_levels f (omega (arith, low, c.if-levels-eq0.true)) in
    c.clear.ensures.items ∙ ap (terms_of c.args.rows.now) (sym none)

pub renew_terms-loop-place-init : goal.renew_terms-loop-place-init
renew_terms-loop-place-init t c = record {
  passed = λ parent f stands low. (ap (terms_of c.args.rows.now) (sym (stands_none c.args.nodes.now parent f stands)), omega arith);
  few = omega (arith, ap (λ (l : List Term). length l) c.truncate.ensures.items, length-take (length c.args.keys.now) c.args.terms.now.items);
}

pub renew_terms-loop-place-preserved-in_default : goal.renew_terms-loop-place-preserved-in_default
renew_terms-loop-place-preserved-in_default t c = record {
  passed = λ parent f stands low. absurd (no_node c.args.nodes.now c.args.keys.now c.loop-place.place c.loop-place-test.true (sym c.in_default.ensures) parent f stands);
  few = c.loop-place.invariant.few;
}

pub renew_terms-loop-place-preserved : goal.renew_terms-loop-place-preserved
renew_terms-loop-place-preserved t c =
    let i = c.loop-place.place in
    let old = c.loop-place.terms.items in
    let new = c.if-place-len.terms.items in
    let some : 1 ≤ c.args.levels = omega (arith, c.if-levels-eq0.false) in
    elim c.if-place-len.branch [
      | renew_terms-then-place-len+in_ok-renew w ↦
          let within : i < length old = omega (arith, w.if-place-len.true, c.len.ensures, c.loop-place.terms.ok.0) in
          let long : length new ≡ length old = ap (λ v. length v.items) w.terms-is ∙ length-set old i w.renew.new.term in record {
            passed = next_renewed c.args.nodes.now c.args.rows.now c.args.keys.now i c.loop-place-test.true c.args.levels some old new w.renew.new.term c.in-Some.node.now c.loop-place.invariant.passed
                (sym c.in-Some.ensures) w.in_ok-renew.ensures (λ more. ap (λ v. take (i + 1) v.items) w.terms-is ∙ take_more_set old i w.renew.new.term within) (λ more. omega (arith, within, long));
            few = omega (arith, long, c.loop-place.invariant.few);
          }
      | renew_terms-else-place-len+in_ok-add_term w ↦
          let term = w.in_ok-add_term.ensures.0 in
          let past : length old < i + 1 = omega (arith, w.if-place-len.false, c.len.ensures, c.loop-place.terms.ok.0) in
          let pushed : new ≡ old ++ term ∷ [] = ap (λ v. v.items) w.terms-is ∙ w.in_ok-add_term.ensures.1 in
          let long : length new ≡ length old + 1 = ap (λ (l : List Term). length l) pushed ∙ length-append old (term ∷ []) in record {
            passed = next_renewed c.args.nodes.now c.args.rows.now c.args.keys.now i c.loop-place-test.true c.args.levels some old new term c.in-Some.node.now c.loop-place.invariant.passed
                (sym c.in-Some.ensures) w.in_ok-add_term.ensures.2
                (λ more. take_all (i + 1) new (omega (arith, long, past)) ∙ pushed ∙ ap (λ (l : List Term). l ++ term ∷ []) (sym (take_all i old (omega (arith, past))))) (λ more. omega (arith, more, long));
            few = omega (arith, long, past, c.loop-place-test.true);
          }
    ]
