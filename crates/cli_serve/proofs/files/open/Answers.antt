use Rattle.std.specs.Option.{option_copied}
use Rattle.std.proofs.lemmas.Result.{err_from_is_err_and}
use Rattle.cli_serve.proofs.Opening.{begun, tree_stops, world_stops}
use Rattle.cli_serve.proofs.files.open.Goals as goal

pub world_for-requires-clause-tree : goal.world_for-requires-clause-tree
world_for-requires-clause-tree c = (option_copied c.args.main, rw c.as_slice.ensures.value at c.in_ok-tree.ensures.reads)

pub returns-in_err-tree-clause-opens : goal.returns-in_err-tree-clause-opens
returns-in_err-tree-clause-opens c =
    let p = err_from_is_err_and c.from_residual.result c.from_residual.ensures.1 in
    rw (p.1, p.2) (tree_stops (option_copied c.args.main) c.args.files.now c.in_err-tree.field-0.0 (rw c.as_slice.ensures.value at c.in_err-tree.ensures.reads))

pub returns-in-Ok-clause-opens : goal.returns-in-Ok-clause-opens
returns-in-Ok-clause-opens c =
    begun (option_copied c.args.main) c.args.files.now c.in_ok-tree.tree (rw c.as_slice.ensures.value at c.in_ok-tree.ensures.reads)
    c.in-Ok.world c.in-Ok.reading c.in-Ok.ensures.world c.begin.result c.begin.ensures.begins

pub returns-in-Err-clause-opens : goal.returns-in-Err-clause-opens
returns-in-Err-clause-opens c =
    world_stops (option_copied c.args.main) c.args.files.now c.in_ok-tree.tree (rw c.as_slice.ensures.value at c.in_ok-tree.ensures.reads) c.in-Err.refusal c.in-Err.ensures.world
