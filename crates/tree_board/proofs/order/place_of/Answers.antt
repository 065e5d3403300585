use Rattle.std.proofs.Common.{sym}
use Rattle.tree_board.proofs.Firsts.{all_apart, first_absent, first_found}
use Rattle.tree_board.proofs.order.place_of.Goals as goal

pub returns-in-Ok : goal.returns-in-Ok
returns-in-Ok g c =
    let item = c.args.item.now in
    sym (first_found g.T.Ord.cmp g.met.T.Ord.total c.args.items.now c.in-Ok.place item item c.requires.ascend c.in-Ok.ensures.bound (c.in-Ok.ensures.position item))

pub returns-in-Err : goal.returns-in-Err
returns-in-Err g c =
    let item = c.args.item.now in
    let items = c.args.items.now in
    sym (first_absent g.T.Ord.cmp g.met.T.Ord.total item items (all_apart g.T.Ord.cmp g.met.T.Ord.total (λ x. x) item items c.in-Err.field-0 c.requires.ascend c.in-Err.ensures.position))
