use Rattle.std.proofs.Common.{ℕ, List, ap, sym, ◌∙◌, subst, arith}
use Rattle.std.proofs.lemmas.List.{take_all}
use Rattle.spec_plan.specs.Planned.{terms_of}
use Rattle.plan_tree.specs.Stands.{Stands}
use Rattle.plan_tree.proofs.Split.{no_levels, stands_none}
use Rattle.plan_tree.proofs.Walked.{next_terms, no_node}
use Rattle.plan_tree.proofs.planned.+walk.Goals as goal

pub terms_of-returns-then-levels-eq0 : goal.terms_of-returns-then-levels-eq0
terms_of-returns-then-levels-eq0 t c = λ parent f stands low.
    let none = no_levels f (omega (arith, low, c.if-levels-eq0.true)) in
    c.of.ensures ∙ c.in_ok-terms.ensures.items ∙ ap (terms_of c.args.rows.now) (sym none)

pub terms_of-loop-key-init : goal.terms_of-loop-key-init
terms_of-loop-key-init t c = λ parent f stands low.
    c.in_ok-terms.ensures.items ∙ ap (terms_of c.args.rows.now) (sym (stands_none c.args.nodes.now parent f stands))

pub terms_of-loop-key-preserved-in_default : goal.terms_of-loop-key-preserved-in_default
terms_of-loop-key-preserved-in_default t c = λ parent f stands low.
    absurd (no_node c.args.nodes.now c.args.keys.now c.loop-key.key-index c.loop-key-test.true (sym c.in_default.ensures) parent f stands)

pub terms_of-loop-key-preserved : goal.terms_of-loop-key-preserved
terms_of-loop-key-preserved t c =
    next_terms c.args.nodes.now c.args.rows.now c.args.keys.now c.loop-key.key-index c.loop-key-test.true c.args.levels (omega (arith, c.if-levels-eq0.false)) c.loop-key.terms.items c.push.new.self.items
    c.in_ok-term_of.field-0 c.in-Some.node.now c.loop-key.invariant (sym c.in-Some.ensures) c.in_ok-term_of.ensures c.in_ok-push.ensures.items

pub terms_of-returns : goal.terms_of-returns
terms_of-returns t c = λ parent f stands low.
    c.of-2.ensures ∙ c.loop-key.invariant parent f
    (subst (λ (l : List ℕ). Stands c.args.nodes.now parent l f) (sym (take_all c.loop-key.key-index c.args.keys.now c.loop-key-test.false)) stands) low
