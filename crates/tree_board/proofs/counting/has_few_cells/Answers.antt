use Rattle.spec_tree.specs.Boards.{namings}
use Rattle.tree_board.specs.Countings.{cells_named}
use Rattle.tree_board.proofs.Counted.{few_found, many_found}
use Rattle.tree_board.proofs.counting.has_few_cells.Goals as goal

pub returns-in-Ok : goal.returns-in-Ok
returns-in-Ok c =
    few_found c.count_tree-counted.new.cells c.new-cells.result.keys (cells_named (namings c.args.tree.now)) c.args.most c.len.result c.len.ensures.ordered c.len.ensures.len c.new-cells.ensures.empty c.in-Ok.ensures

pub returns-in-Fault : goal.returns-in-Fault
returns-in-Fault c =
    many_found c.count_tree-counted.result c.in-Err.stop c.in-Fault.field-0 c.count_tree-counted.new.cells c.new-cells.result.keys (cells_named (namings c.args.tree.now)) c.args.most
    c.len.ensures.ordered c.in-Err.is c.in-Fault.is c.new-cells.ensures.empty c.count_tree-counted.ensures
