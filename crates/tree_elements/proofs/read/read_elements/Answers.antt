use Rattle.std.proofs.lemmas.Result.{err_from_is_err_and}
use Rattle.tree_elements.proofs.Verdicts.{read_spells, refused_so}
use Rattle.tree_elements.proofs.read.read_elements.Goals as goal

pub returns-in_err-root-in-None-clause-fault : goal.returns-in_err-root-in-None-clause-fault
returns-in_err-root-in-None-clause-fault c =
    let p = err_from_is_err_and c.from_residual.result c.from_residual.ensures.1 in
    rw (p.1, p.2) (refused_so c.in_err-root-in-None.field-0.0 c.args.bytes.now c.in-None.ensures c.in_err-root-in-None.ensures)

pub returns-in_ok-root-in-None-clause-read : goal.returns-in_ok-root-in-None-clause-read
returns-in_ok-root-in-None-clause-read c = read_spells c.args.bytes.now c.in_ok-root-in-None.root c.in-None.ensures c.in_ok-root-in-None.ensures

pub returns-in_ok-root-in-None-clause-valid : goal.returns-in_ok-root-in-None-clause-valid
returns-in_ok-root-in-None-clause-valid c =
    (c.args.bytes.now, c.requires, read_spells c.args.bytes.now c.in_ok-root-in-None.root c.in-None.ensures c.in_ok-root-in-None.ensures)
