use Rattle.std.proofs.lemmas.Result.{err_from_is_err_and}
use Rattle.std.specs.Option.{option_copied}
use Rattle.cli_commands.proofs.Files.{both_parsed, tree_stopped, world_stopped}
use Rattle.std.proofs.Common.{refl}
use Rattle.cli_refusals.proofs.Writings.{end_refused}
use Rattle.cli_commands.proofs.command.run_files.Goals as goal

pub returns-in_err-tree-clause-ends : goal.returns-in_err-tree-clause-ends
returns-in_err-tree-clause-ends g c =
    let p = err_from_is_err_and c.from_residual.result c.from_residual.ensures.1 in
    rw (p.1, p.2) (tree_stopped c.args.course (option_copied c.args.main) c.args.tree.now c.args.world.now c.requires.tree c.requires.world c.in_err-tree.field-0.0 _ c.in_err-tree.ensures.reads)

pub returns-in-Ok-clause-ends : goal.returns-in-Ok-clause-ends
returns-in-Ok-clause-ends g c =
    both_parsed c.args.course (option_copied c.args.main) c.args.tree.now c.args.world.now c.requires.tree c.requires.world _ _ _ _ _ c.in_ok-tree.ensures.reads c.in-Ok.ensures.reads c.join_and_run-ended.ensures.ends

pub returns-in-Err-clause-ends : goal.returns-in-Err-clause-ends
returns-in-Err-clause-ends g c =
    rw c.from.ensures (world_stopped c.args.course (option_copied c.args.main) c.args.tree.now c.args.world.now c.requires.tree c.requires.world _ c.in-Err.stopped _ c.in_ok-tree.ensures.reads c.in-Err.ensures.reads)

pub returns-in_err-tree-clause-writes : goal.returns-in_err-tree-clause-writes
returns-in_err-tree-clause-writes g c = end_refused g.K.Sink.write_gives c.from_residual.result _ _ c.from_residual.ensures.0 refl
