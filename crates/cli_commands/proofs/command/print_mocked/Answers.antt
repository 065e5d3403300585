use Rattle.std.proofs.lemmas.Result.{err_from_is_err_and}
use Rattle.std.specs.Option.{option_copied}
use Rattle.cli_commands.proofs.Files.{made_printed, made_rules_stopped, made_tree_stopped}
use Rattle.std.proofs.Common.{refl}
use Rattle.cli_refusals.proofs.Writings.{end_refused}
use Rattle.cli_commands.proofs.command.print_mocked.Goals as goal

pub returns-in_err-tree-clause-ends : goal.returns-in_err-tree-clause-ends
returns-in_err-tree-clause-ends g c =
    let p = err_from_is_err_and c.from_residual.result c.from_residual.ensures.1 in
    rw (p.1, p.2) (made_tree_stopped (option_copied c.args.main) c.args.tree.now c.args.rules.now c.requires.tree c.requires.rules c.in_err-tree.field-0.0 _ c.in_err-tree.ensures.reads)

pub returns-in-Ok-clause-ends : goal.returns-in-Ok-clause-ends
returns-in-Ok-clause-ends g c =
    made_printed (option_copied c.args.main) c.args.tree.now c.args.rules.now c.requires.tree c.requires.rules _ _ _ _ _ _ c.in_ok-tree.ensures.reads c.in-Ok.ensures.mocked c.print_made-exit.ensures.printed

pub returns-in-Err-clause-ends : goal.returns-in-Err-clause-ends
returns-in-Err-clause-ends g c =
    rw c.from.ensures (made_rules_stopped (option_copied c.args.main) c.args.tree.now c.args.rules.now c.requires.tree c.requires.rules _ c.in-Err.stopped _ c.in_ok-tree.ensures.reads c.in-Err.ensures.mocked)

pub returns-in_err-tree-clause-writes : goal.returns-in_err-tree-clause-writes
returns-in_err-tree-clause-writes g c = end_refused g.K.Sink.write_gives c.from_residual.result _ _ c.from_residual.ensures.0 refl
