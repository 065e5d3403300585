use Rattle.std.proofs.Common.{Some, ap, sym, ◌∙◌}
use Rattle.tree_board.proofs.Counted.{key_added}
use Rattle.tree_board.proofs.Scoping.{left_mapped, left_out}
use Rattle.tree_board.proofs.counting.leave_with.Goals as goal

pub returns-in_ok-name-in-Some-Some : goal.returns-in_ok-name-in-Some-Some
returns-in_ok-name-in-Some-Some c outer =
    key_added outer c.args.keys.now _ c.in-Some-Some.mapped c.args.cells.now.keys _ c.in_ok-name-in-Some-Some.ensures
    (left_mapped _ _ c.args.inner.now.uid c.args.inner.now.autoremap outer c.args.key.now (ap Some (sym c.in-Some-Some.field-0-is) ∙ c.in-Some-Some.ensures.value))

pub returns-in_ok-name-in-None : goal.returns-in_ok-name-in-None
returns-in_ok-name-in-None c outer =
    key_added outer c.args.keys.now _ c.args.key.now c.args.cells.now.keys _ c.in_ok-name-in-None.ensures
    (left_out _ c.args.inner.now.uid _ outer c.args.key.now c.in-None.ensures.value c.if-inner.true (sym c.begins_private.ensures ∙ c.if-not-begins_private.true))
