use Rattle.std.proofs.Common.{◌≡◌, ℕ, ◌+◌, List, ◌++◌, length, sym, subst, ◌∙◌, arith}
use Rattle.spec_session.specs.Labels.{labels_from}
use Rattle.host_session.proofs.Labelled.{first_labels, next_labels}
use Rattle.host_session.proofs.labels.+add_labels.Goals as goal

pub loop-child-init : goal.loop-child-init
loop-child-init t c =
    let uid : c.in-Ok.uid ≡ length c.args.labels.now.items + 1 = omega (arith, c.in-Ok.ensures, c.len.ensures) in
    first_labels c.args.labels.now.items c.push.new.self.items c.in_ok-label_of.field-0 c.args.term.now c.list-child-items.result.now c.in-Ok.uid c.args.scope
    c.scope_below-inner.result c.args.above.now _ c.in_ok-push.ensures.items c.in_ok-label_of.ensures c.list-child-items.ensures uid
    c.scope_below-inner.ensures (c.below.view_is ∙ c.in_ok-below.ensures)

pub loop-child-preserved : goal.loop-child-preserved
loop-child-preserved t c =
    let before = c.loop-child.labels.items in
    let child = c.child-item.result in
    let inner = c.scope_below-inner.result in
    let more = subst (λ (below : List ℕ). c.add_labels.new.labels.items ≡ before ++ labels_from child (length before + 1) inner below) (sym c.below.view_is) c.in_ok-add_labels.ensures in
    next_labels before c.add_labels.new.labels.items c.list-child-items.result.now c.loop-child.child-index child inner _ c.loop-child-test.true c.child-item.is more
    ∙ c.loop-child.invariant
