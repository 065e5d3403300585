use Rattle.std.proofs.Common.{List, Option, length, ap, ◌∙◌, None}
use Rattle.std.proofs.lemmas.List.{length-replicate}
use Rattle.std.specs.List.{flat_map}
use Rattle.spec_script.specs.declared.value.Value.{Value}
use Rattle.spec_tree.specs.Boards.{literals_at, main_scope, standing_from}
use Rattle.tree_board.proofs.Openings.{length_with_literals}
use Rattle.tree_board.proofs.Records.{empty_record}
use Rattle.tree_board.proofs.board.board_of.Goals as goal

-- nothing is kept of its entries, of which there are as many as slots
pub invariant_of-result : goal.invariant_of-result
invariant_of-result c =
    empty_record c.open_tree.new.entries.items c.in_ok-empty_places.field-0.items c.slot_count-count.result c.in_ok-empty_places.ensures
    (ap (λ (es : List (Option Value)). length es) (c.in_ok-open_tree.ensures 0 main_scope)
    ∙ length_with_literals c.args.slots.now.cells (flat_map literals_at (standing_from c.args.tree.now.term 1 0 main_scope)) c.in_ok-entries.entries.items
    ∙ ap (λ (es : List (Option Value)). length es) c.in_ok-entries.ensures
    ∙ length-replicate c.slot_count-count.result None)

-- a board has as many entries as there are slots
pub returns-clause-size : goal.returns-clause-size
returns-clause-size c =
    ap (λ (es : List (Option Value)). length es) (c.in_ok-open_tree.ensures 0 main_scope)
    ∙ length_with_literals c.args.slots.now.cells (flat_map literals_at (standing_from c.args.tree.now.term 1 0 main_scope)) c.in_ok-entries.entries.items
    ∙ ap (λ (es : List (Option Value)). length es) c.in_ok-entries.ensures
    ∙ length-replicate c.slot_count-count.result None
    ∙ c.slot_count-count.ensures
