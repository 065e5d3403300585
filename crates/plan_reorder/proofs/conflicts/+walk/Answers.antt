use Rattle.std.proofs.Common.{◌≡◌, ℕ, List, Some, ap, sym, ◌∙◌, subst, arith}
use Rattle.std.specs.Prelude.{slice_get}
use Rattle.std.proofs.lemmas.List.{take_all}
use Rattle.plan_tree.specs.declared.node.Node.{Node}
use Rattle.spec_plan.specs.declared.part.Part.{Part}
use Rattle.spec_plan.specs.Forests.{Forest}
use Rattle.plan_tree.specs.Stands.{Stands}
use Rattle.plan_tree.proofs.Split.{no_levels, stands_none}
use Rattle.spec_plan.specs.declared.head.Head.{Head}
use Rattle.spec_plan.specs.Conflicts.{actions, conflicts_of, own_actions}
use Rattle.plan_reorder.specs.Reads.{IsPlaced}
use Rattle.plan_reorder.proofs.Untouched.{has_more, has_none}
use Rattle.plan_reorder.proofs.Threats.{own_other}
use Rattle.plan_reorder.proofs.Walked.{conflict_found, conflict_passed, no_keys}
use Rattle.plan_reorder.proofs.conflicts.+walk.Goals as goal

pub conflict_in-loop-key-init : goal.conflict_in-loop-key-init
conflict_in-loop-key-init t c = (
  (λ world tree key place below f at all stands inside low.
      ap (λ (g : Forest). conflicts_of world.rows tree (actions g)) (stands_none c.args.t.now.nodes (Some key) f stands)),
  has_none c.args.t.now c.args.node.now.part c.args.read.now,
)

pub conflict_in-returns-in-Some : goal.conflict_in-returns-in-Some
conflict_in-returns-in-Some t c = λ world tree key place below at low all.
    conflict_found c.args.t.now c.args.node.now c.as_slice-keys.result.now c.as_slice-keys.ensures c.loop-key.key-index c.loop-key-test.true c.args.levels (omega (arith, c.if-levels-eq0.false))
    c.args.read.now c.loop-key.within c.loop-key.invariant.0 c.loop-key.invariant.1 c.conflict_at.result c.conflict_at.ensures
    world tree key place below at all below at.inside low
    (subst (λ (l : List ℕ). Stands c.args.t.now.nodes (Some key) l below) (sym c.as_slice-keys.ensures) at.below_stands) c.in-Some.pair c.in-Some.is

pub conflict_in-loop-key-preserved : goal.conflict_in-loop-key-preserved
conflict_in-loop-key-preserved t c = (
  (λ world tree key place below f at all stands inside low.
      conflict_passed c.args.t.now c.args.node.now c.as_slice-keys.result.now c.as_slice-keys.ensures c.loop-key.key-index c.loop-key-test.true c.args.levels (omega (arith, c.if-levels-eq0.false))
      c.args.read.now c.loop-key.within c.loop-key.invariant.0 c.loop-key.invariant.1 c.conflict_at.result c.conflict_at.ensures
      world tree key place below at all f inside low stands c.in_default.is),
  has_more c.args.t.now c.args.node.now.part c.args.read.now c.loop-key.within _ c.add_head.ensures.kept
      c.as_slice-keys.result.now c.loop-key.key-index c.loop-key-test.true c.add_head.ensures.added c.loop-key.invariant.1,
)

pub conflict_in-returns-then-levels-eq0 : goal.conflict_in-returns-then-levels-eq0
conflict_in-returns-then-levels-eq0 t c = λ world tree key place below at low all.
    ap (λ (g : Forest). slice_get (conflicts_of world.rows tree (actions g)) 0) (sym (no_levels below (omega (arith, low, c.if-levels-eq0.true))))

pub conflict_in-returns-then-is_empty : goal.conflict_in-returns-then-is_empty
conflict_in-returns-then-is_empty t c = λ world tree key place below at low all.
    let none = no_keys c.as_slice-keys.result.now (sym c.is_empty.ensures ∙ c.if-is_empty.true) in
    let stands = subst (λ (l : List ℕ). Stands c.args.t.now.nodes (Some key) l below) (sym c.as_slice-keys.ensures ∙ none) at.below_stands in
    ap (λ (g : Forest). slice_get (conflicts_of world.rows tree (actions g)) 0) (sym (stands_none c.args.t.now.nodes (Some key) below stands))

pub conflict_in-returns : goal.conflict_in-returns
conflict_in-returns t c = λ world tree key place below at low all.
    let none = c.loop-key.invariant.0 world tree key place below below at all
    (subst (λ (l : List ℕ). Stands c.args.t.now.nodes (Some key) l below)
    (sym c.as_slice-keys.ensures ∙ sym (take_all c.loop-key.key-index c.as_slice-keys.result.now c.loop-key-test.false)) at.below_stands)
    at.inside low in
    ap (λ l. slice_get l 0) (sym none)

pub conflict_at-returns-in-Action : goal.conflict_at-returns-in-Action
conflict_at-returns-in-Action t c = λ world tree place node below at low outer all.
    let same : node ≡ c.in-Some.node.now = cc (at.there, c.in-Some.ensures) in
    c.action_conflict.ensures world tree place at.stands at.place_is outer
    ∙ ap (λ (x : Part). slice_get (conflicts_of world.rows tree (own_actions c.args.key x (actions below))) 0) (sym (ap (λ (n : Node). n.part) same ∙ c.in-Action.is))

pub conflict_at-returns-in_default-part : goal.conflict_at-returns-in_default-part
conflict_at-returns-in_default-part t c = λ world tree place node below at low outer all.
    let same : node ≡ c.in-Some.node.now = cc (at.there, c.in-Some.ensures) in
    c.conflict_in.ensures world tree c.args.key place below (subst (λ (n : Node). IsPlaced c.args.t.now world tree c.args.key place n below) same at) low all
    ∙ ap (λ (l : List Head). slice_get (conflicts_of world.rows tree l) 0)
    (sym (own_other c.args.key node.part (actions below) (λ row e. c.in_default-part.not-Action row (ap (λ (n : Node). n.part) (sym same) ∙ e))))
