use Rattle.std.proofs.Common.{◌≡◌, ◌<◌, List, ℕ, Some, length, ap, sym, subst, ◌∙◌}
use Rattle.std.proofs.lemmas.List.{get_or_default}
use Rattle.run_arena.specs.declared.nodes.Node.{Node}
use Rattle.run_arena.specs.Nodes.{leaf_at, nobody}
use Rattle.run_arena.proofs.copying.counts_in.Goals as goal

pub count_leaf-requires : goal.count_leaf-requires
count_leaf-requires c leaf is =
    let i = c.loop-node.node-index in
    let node = c.node-item.result in
    let size = ap (λ (counts : List ℕ). length counts) c.deref_mut.ensures.value ∙ c.loop-node.invariant.places in
    let there = get_or_default c.args.nodes.now i nobody node c.loop-node-test.true ∙ sym c.node-item.is in
    let at : leaf_at c.args.nodes.now i ≡ Some leaf = ap (λ (n : Node). n.leaf) there ∙ is in
    subst (λ n. leaf.driver < n) (sym size) (c.requires i leaf at)
