use Rattle.std.proofs.Common.{length, sym, ◌∙◌}
use Rattle.spec_tree.specs.Boards.{slots}
use Rattle.tree_board.specs.Namings.{name_count}
use Rattle.tree_board.proofs.NameCounts.{few_slots, is_within}
use Rattle.tree_board.proofs.limit.is_within_slots.Goals as goal

pub returns-then-is_some : goal.returns-then-is_some
returns-then-is_some c =
    let tree = c.args.tree.now in
    is_within c.left_by_term.result (name_count tree.term) c.args.most (length (slots tree)) (sym c.is_some.ensures ∙ c.if-is_some.true) c.left_by_term.ensures (few_slots tree)
