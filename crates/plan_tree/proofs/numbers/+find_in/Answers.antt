use Rattle.std.proofs.Common.{◌≡◌, ℕ, List, ap, sym, subst, arith}
use Rattle.std.proofs.lemmas.List.{take_all}
use Rattle.plan_tree.specs.Sizes.{size}
use Rattle.plan_tree.specs.Stands.{Stands}
use Rattle.plan_tree.proofs.Split.{no_levels, stands_none}
use Rattle.plan_tree.proofs.Walked.{past_next, found_below, found_here, no_node}
use Rattle.plan_tree.proofs.numbers.+find_in.Goals as goal

pub returns-then-levels-eq0 : goal.returns-then-levels-eq0
returns-then-levels-eq0 t c = λ parent f stands low.
    let none : size f ≡ 0 = ap size (no_levels f (omega (arith, low, c.if-levels-eq0.true))) in
    omega (arith, none)

pub loop-key-init : goal.loop-key-init
loop-key-init t c = λ parent f stands low.
    let none : size f ≡ 0 = ap size (stands_none c.args.nodes.now parent f stands) in
    omega (arith, none)

pub returns-then-left-eq0 : goal.returns-then-left-eq0
returns-then-left-eq0 t c = λ parent f stands low.
    found_here c.args.nodes.now c.args.keys.now c.loop-key.key-index c.loop-key-test.true c.args.levels c.args.number c.loop-key.left (omega (arith, c.if-levels-eq0.false)) c.loop-key.invariant
    parent f stands low c.if-left-eq0.true

pub loop-key-preserved-in_default : goal.loop-key-preserved-in_default
loop-key-preserved-in_default t c = λ parent f stands low.
    absurd (no_node c.args.nodes.now c.args.keys.now c.loop-key.key-index c.loop-key-test.true (sym c.in_default.ensures) parent f stands)

pub returns-in-Ok : goal.returns-in-Ok
returns-in-Ok t c = λ parent f stands low.
    found_below c.args.nodes.now c.args.keys.now c.loop-key.key-index c.loop-key-test.true c.args.levels c.args.number c.loop-key.left (omega (arith, c.if-levels-eq0.false)) c.loop-key.invariant
    parent f stands low c.in-Some.node.now (sym c.in-Some.ensures) c.in-Ok.found (λ e. absurd (omega (arith, c.if-left-eq0.false, e)))
    (λ above g under lower. c.in-Ok.ensures above g (subst (λ (l : List ℕ). Stands c.args.nodes.now above l g) (sym c.deref.ensures) under) lower)

pub loop-key-preserved : goal.loop-key-preserved
loop-key-preserved t c =
    past_next c.args.nodes.now c.args.keys.now c.loop-key.key-index c.loop-key-test.true c.args.levels c.args.number c.loop-key.left (omega (arith, c.if-levels-eq0.false)) c.loop-key.invariant
    c.in-Some.node.now (sym c.in-Some.ensures) c.in-Err.rest (λ e. absurd (omega (arith, c.if-left-eq0.false, e)))
    (λ above g under lower. c.in-Err.ensures above g (subst (λ (l : List ℕ). Stands c.args.nodes.now above l g) (sym c.deref.ensures) under) lower)

pub returns : goal.returns
returns t c = λ parent f stands low.
    c.loop-key.invariant parent f (subst (λ (l : List ℕ). Stands c.args.nodes.now parent l f) (sym (take_all c.loop-key.key-index c.args.keys.now c.loop-key-test.false)) stands) low
