use Rattle.std.proofs.Common.{◌≡◌, ◌+◌, ◌++◌, ℕ, List, [], length, ap, sym, ◌∙◌, subst, arith, append-nil}
use Rattle.std.proofs.lemmas.Bool.{eqb-true}
use Rattle.std.proofs.lemmas.List.{nil_from_length}
use Rattle.plan_tree.specs.Stands.{Stands}
use Rattle.plan_tree.proofs.Split.{no_levels, stands_none}
use Rattle.plan_tree.proofs.Walked.{no_node}
use Rattle.spec_plan.specs.Forests.{Forest}
use Rattle.spec_plan.specs.Failing.{spots_from}
use Rattle.plan_search.proofs.Spots.{next_spots}
use Rattle.plan_search.proofs.failing.+list_spots.Goals as goal

pub returns-then-levels-eq0 : goal.returns-then-levels-eq0
returns-then-levels-eq0 t c = λ parent f stands low.
    sym (append-nil c.args.spots.now.items) ∙ ap (λ (g : Forest). c.args.spots.now.items ++ spots_from c.args.level g) (sym (no_levels f (omega (arith, low, c.if-levels-eq0.true))))

pub loop-key-init : goal.loop-key-init
loop-key-init t c = λ parent f stands low.
    sym (append-nil c.args.spots.now.items) ∙ ap (λ (g : Forest). c.args.spots.now.items ++ spots_from c.args.level g) (sym (stands_none c.args.nodes.now parent f stands))

pub loop-key-preserved-in_default : goal.loop-key-preserved-in_default
loop-key-preserved-in_default t c = λ parent f stands low.
    absurd (no_node c.args.nodes.now c.args.keys.now c.loop-key.key-index c.loop-key-test.true (sym c.in_default.ensures) parent f stands)

pub loop-key-preserved : goal.loop-key-preserved
loop-key-preserved t c =
    next_spots c.args.nodes.now c.args.keys.now c.loop-key.key-index c.loop-key-test.true c.args.levels (omega (arith, c.if-levels-eq0.false)) c.args.level c.args.spots.now.items c.loop-key.spots.items
    c.push.new.self.items c.list_spots.new.spots.items c.loop-key.invariant c.in-Some.node.now (sym c.in-Some.ensures) c.in_ok-push.ensures.items
    (λ above g under lower. c.in_ok-list_spots.ensures above g (subst (λ (l : List ℕ). Stands c.args.nodes.now above l g) (sym c.deref.ensures) under) lower)

-- a node without children has no nodes below it
pub loop-key-preserved-then-is_empty : goal.loop-key-preserved-then-is_empty
loop-key-preserved-then-is_empty t c =
    let pushed = c.push.new.self.items in
    let none : length c.in-Some.node.now.children.items ≡ 0 = omega (arith, eqb-true _ 0 (sym c.is_empty.ensures ∙ c.if-is_empty.true)) in
    let empty : c.in-Some.node.now.children.items ≡ [] = nil_from_length _ none in
    next_spots c.args.nodes.now c.args.keys.now c.loop-key.key-index c.loop-key-test.true c.args.levels (omega (arith, c.if-levels-eq0.false)) c.args.level c.args.spots.now.items c.loop-key.spots.items
    pushed pushed c.loop-key.invariant c.in-Some.node.now (sym c.in-Some.ensures) c.in_ok-push.ensures.items
    (λ above g under lower. sym (append-nil pushed) ∙ ap (λ (h : Forest). pushed ++ spots_from (c.args.level + 1) h) (sym (stands_none c.args.nodes.now above g (subst (λ (l : List ℕ). Stands c.args.nodes.now above l g) empty under))))
