use Rattle.std.proofs.Common.{◌∙◌, ap, sym, refl, arith}
use Rattle.std.proofs.lemmas.List.{get_or_default}
use Rattle.run_arena.specs.Nodes.{nobody}
use Rattle.run_arena.specs.Rosters.{is_served_at}
use Rattle.run_loop.proofs.Counting.{count_next}
use Rattle.run_loop.proofs.counts.counts_of.Goals as goal

pub count_leaf-requires-clause-driver : goal.count_leaf-requires-clause-driver
count_leaf-requires-clause-driver g c = λ leaf is.
    let l = c.loop-node in
    let node = c.node-item.result in
    let there = ap (λ n. n.leaf) (get_or_default c.args.nodes.now l.node-index nobody node c.loop-node-test.true ∙ sym c.node-item.is) ∙ is in
    omega (arith, c.requires.served l.node-index leaf there, l.invariant.many)

pub loop-node-preserved : goal.loop-node-preserved
loop-node-preserved g c =
    let l = c.loop-node in
    let node = c.node-item.result in record {
      many = c.count_leaf.ensures.many ∙ l.invariant.many;
      counts = λ place low. count_next c.args.nodes.now l.node-index c.args.runners place node c.loop-node-test.true c.node-item.is _ _
          (l.invariant.counts place (omega (arith, low, c.count_leaf.ensures.many))) (is_served_at place node.leaf) refl (c.count_leaf.ensures.own place) (c.count_leaf.ensures.other place);
    }
