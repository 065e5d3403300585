use Rattle.std.specs.List.{flat_map}
use Rattle.spec_serve.specs.Rows.{starts_of}
use Rattle.cli_serve.specs.Leaves.{after_start, after_starts, own_start}
use Rattle.cli_serve.proofs.Leaves.{all_inner, inner_more}
use Rattle.cli_serve.proofs.rows.+mark_actions.Goals as goal

pub loop-child-preserved : goal.loop-child-preserved
loop-child-preserved t c =
    inner_more c.list-child-items.result.now c.loop-child.child-index c.child-item.result c.loop-child.leaves.entries c.mark_actions.new.leaves.entries
    (after_starts (flat_map starts_of c.list-child-items.result.now) (after_start (own_start c.args.element.now) c.args.leaves.now.entries))
    c.loop-child-test.true c.child-item.is c.mark_actions.ensures c.loop-child.invariant

pub returns : goal.returns
returns t c =
    all_inner c.list-child-items.result.now c.loop-child.child-index c.args.element.now c.loop-child.leaves.entries c.args.leaves.now.entries
    c.loop-child-test.false c.list-child-items.ensures c.loop-child.invariant
