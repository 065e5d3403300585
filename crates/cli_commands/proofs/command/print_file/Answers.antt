use Rattle.std.proofs.lemmas.Result.{err_from_is_err_and}
use Rattle.std.specs.Option.{option_copied}
use Rattle.cli_commands.proofs.Files.{print_stopped, tree_printed}
use Rattle.std.proofs.Common.{refl}
use Rattle.cli_refusals.proofs.Writings.{end_refused}
use Rattle.cli_commands.proofs.command.print_file.Goals as goal

pub returns-in_err-tree-clause-ends : goal.returns-in_err-tree-clause-ends
returns-in_err-tree-clause-ends g c =
    let p = err_from_is_err_and c.from_residual.result c.from_residual.ensures.1 in
    rw (p.1, p.2) (print_stopped c.args.print (option_copied c.args.main) c.args.tree.now c.requires.tree c.in_err-tree.field-0.0 _ c.in_err-tree.ensures.reads)

pub returns-clause-ends : goal.returns-clause-ends
returns-clause-ends g c =
    tree_printed c.args.print (option_copied c.args.main) c.args.tree.now c.requires.tree _ _ _ _ _ c.in_ok-tree.ensures.reads c.print_tree-exit.ensures.printed

pub returns-in_err-tree-clause-writes : goal.returns-in_err-tree-clause-writes
returns-in_err-tree-clause-writes g c = end_refused g.K.Sink.write_gives c.from_residual.result _ _ c.from_residual.ensures.0 refl
