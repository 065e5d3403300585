use Rattle.std.proofs.Common.{◌≡◌, ◌∙◌, length, sym, arith}
use Rattle.std.proofs.lemmas.Bool.{eqb-true}
use Rattle.std.proofs.lemmas.List.{same_lists}
use Rattle.std.specs.List.{flat_map}
use Rattle.spec_tree.specs.Boards.{literals_at, standing_from}
use Rattle.tree_board.proofs.Openings.{length_with_literals}
use Rattle.tree_board.proofs.board.open_tree.Goals as goal

-- no entry is put in where there is none
pub returns-then-is_empty : goal.returns-then-is_empty
returns-then-is_empty c = λ number scope.
    let entries = c.args.entries.now.items in
    let none : length entries ≡ 0 = omega (arith, eqb-true _ 0 (sym c.is_empty.ensures ∙ c.if-is_empty.true), c.args.entries.now.ok.0) in
    same_lists entries _
    (sym (length_with_literals c.args.slots.now.cells (flat_map literals_at (standing_from c.args.tree.now.term 1 number scope)) entries))
    (λ k d low. absurd (omega (arith, low, none)))
