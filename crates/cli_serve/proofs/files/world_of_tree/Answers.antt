use Rattle.std.proofs.lemmas.Result.{err_from_is_err_and}
use Rattle.cli_serve.proofs.Opening.{told_made, told_refused}
use Rattle.cli_serve.proofs.files.world_of_tree.Goals as goal

pub returns-in_err-world-clause-world : goal.returns-in_err-world-clause-world
returns-in_err-world-clause-world c =
    let p = err_from_is_err_and c.from_residual.result c.from_residual.ensures.1 in
    rw (p.1, p.2) (told_refused c.in_err-world.field-0.0 c.args.bytes.now c.args.tree.now c.in_err-world.ensures.told)

pub returns-clause-world : goal.returns-clause-world
returns-clause-world c = told_made c.in_ok-world.world c.in_ok-reading.reading c.args.bytes.now c.args.tree.now c.in_ok-world.ensures.told c.in_ok-reading.ensures
