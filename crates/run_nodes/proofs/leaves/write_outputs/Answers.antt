use Rattle.std.proofs.Common.{◌≡◌, ℕ, List, ap, subst, ◌∙◌, arith}
use Rattle.run_driver.specs.declared.row.ReadyRow.{ReadyRow}
use Rattle.run_driver.specs.Ready.{ready_told}
use Rattle.run_nodes.specs.Calls.{leaf_written}
use Rattle.run_nodes.proofs.ToldValues.{untold_leaf}
use Rattle.run_nodes.proofs.leaves.write_outputs.Goals as goal

pub returns-in_default-take_told-clause-written : goal.returns-in_default-take_told-clause-written
returns-in_default-take_told-clause-written g c =
    let leaf = c.args.leaf.now in
    let named : c.names_told.result.now ≡ ready_told leaf.row.sort = c.names_told.ensures ∙ ap (λ (row : ReadyRow). ready_told row.sort) c.get.ensures in
    subst (λ (names : List (List ℕ)). c.args.board.now ≡ leaf_written names leaf.outputs c.args.outs.now c.args.board.now) named
    (untold_leaf c.names_told.result.now leaf.outputs c.args.outs.now c.args.board.now (omega (arith, c.in_default.len_at_least)) c.in_default-take_told.ensures.told)
