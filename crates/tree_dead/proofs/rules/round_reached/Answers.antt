use Rattle.spec_dead.specs.Reached.{all_before}
use Rattle.tree_dead.specs.Steps.{lets_on}
use Rattle.tree_dead.proofs.Passing.{passes_next, reached_next}
use Rattle.tree_dead.proofs.rules.round_reached.Goals as goal

pub loop-child-preserved : goal.loop-child-preserved
loop-child-preserved c =
    let known = c.loop-child.invariant in
    record {
      passes = passes_next (lets_on c.args.kind) c.args.children.now c.loop-child.child-index _ c.loop-child.passes c.still_passes-passes.result c.loop-child-test.true known.passes c.still_passes-passes.ensures;
      reached = reached_next (all_before (lets_on c.args.kind) c.args.children.now) c.args.children.now c.loop-child.child-index _ c.loop-child.passes c.loop-child.reached c.only_if.result c.or-reached.result _
          c.loop-child-test.true known.passes c.only_if.ensures c.or-reached.ensures known.reached;
    }
