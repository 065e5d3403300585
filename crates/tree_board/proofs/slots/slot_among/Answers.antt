use Rattle.std.proofs.Common.{rules, sym}
use Rattle.std.proofs.lemmas.Fn.{always_returns_same}
use Rattle.spec_tree.specs.Boards.{owner}
use Rattle.spec_tree.specs.declared.cell.Cell.{Cell}
use Rattle.tree_board.proofs.CellOrder.{cells_exact}
use Rattle.tree_board.proofs.Searched.{apart, lies, slot_found, slot_absent}
use Rattle.tree_board.proofs.slots.slot_among.Goals as goal

pub returns-in-Ok : goal.returns-in-Ok
returns-in-Ok c =
    let cell = owner c.args.scope c.args.key.now in
    let found = c.in-Ok.ensures.position (lies (λ (x : Cell). x) cell) (always_returns_same _ _ _ (λ a r g called. search rules)) in
    sym (slot_found cell c.args.cells.now c.in-Ok.slot cell c.requires.ascend c.in-Ok.ensures.bound (cells_exact _ _ (found cell)))

pub returns-in-Err : goal.returns-in-Err
returns-in-Err c =
    let cell = owner c.args.scope c.args.key.now in
    let found = c.in-Err.ensures.position (lies (λ (x : Cell). x) cell) (always_returns_same _ _ _ (λ a r g called. search rules)) in
    sym (slot_absent cell c.args.cells.now (apart (λ (x : Cell). x) cell c.args.cells.now c.in-Err.field-0 c.requires.ascend found))
