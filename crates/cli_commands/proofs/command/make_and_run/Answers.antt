use Rattle.std.proofs.lemmas.Result.{err_from_is_err_and}
use Rattle.cli_commands.proofs.Files.{load_stopped}
use Rattle.std.proofs.Common.{refl}
use Rattle.cli_refusals.proofs.Writings.{end_refused}
use Rattle.cli_commands.proofs.command.make_and_run.Goals as goal

pub returns-in_err-tree-clause-ends : goal.returns-in_err-tree-clause-ends
returns-in_err-tree-clause-ends g c =
    let p = err_from_is_err_and c.from_residual.result c.from_residual.ensures.1 in
    rw (p.1, p.2) (load_stopped c.args.leaves _)

pub returns-in_err-world-clause-ends : goal.returns-in_err-world-clause-ends
returns-in_err-world-clause-ends g c =
    let p = err_from_is_err_and c.from_residual-in_err-world.result c.from_residual-in_err-world.ensures.1 in
    rw (p.1, p.2) (load_stopped c.args.leaves _)

pub returns-clause-ends : goal.returns-clause-ends
returns-clause-ends g c = rw (c.as_slice.ensures.value, c.as_slice-2.ensures.value, c.in_ok-tree.ensures.text, c.in_ok-world.ensures.text) at c.run_files.ensures.ends

pub returns-in_err-tree-clause-writes : goal.returns-in_err-tree-clause-writes
returns-in_err-tree-clause-writes g c = end_refused g.K.Sink.write_gives c.from_residual.result _ _ c.from_residual.ensures.0 refl

pub returns-in_err-world-clause-writes : goal.returns-in_err-world-clause-writes
returns-in_err-world-clause-writes g c = end_refused g.K.Sink.write_gives c.from_residual-in_err-world.result _ _ c.from_residual-in_err-world.ensures.0 refl
