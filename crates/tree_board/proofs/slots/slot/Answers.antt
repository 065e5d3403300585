use Rattle.std.proofs.Common.{rules, ◌≡◌, ◌<◌, ℕ, List, false, Some, Err, length, get_or, sym, ap, subst, ◌∙◌}
use Rattle.std.proofs.lemmas.Fn.{always_returns_same}
use Rattle.std.specs.List.{All}
use Rattle.std.specs.List.Sorted.{IsBinarySearchResult}
use Rattle.std.specs.Ordering.{is_eq}
use Rattle.std.specs.declared.cmp.Ordering.TheVariants.{Equal}
use Rattle.std.specs.Option.{option_map}
use Rattle.spec_tree.specs.Boards.{owner, same_cell, cell_order}
use Rattle.base_tables.specs.SlotTables.{SlotTable}
use Rattle.tree_board.specs.declared.slots.Entry.{Entry}
use Rattle.tree_board.specs.Rows.{cell_by, first_by, place_order}
use Rattle.tree_board.specs.Slots.{IsOf}
use Rattle.tree_board.proofs.Firsts.{all_apart}
use Rattle.tree_board.proofs.Ranked.{bytes_order, cells_ascend, cells_tell, places_total, unmapped}
use Rattle.tree_board.proofs.Resolved.{all_at, slot_by, slot_by_entries, none_found, slot_of_row}
use Rattle.tree_board.proofs.Searched.{find_found, same_decides}
use Rattle.tree_board.proofs.slots.slot.Goals as goal

-- the number of the key that is sought is its place among the keys
sought : (keys others : List (List ℕ)) (key : List ℕ) (place : ℕ) → others ≡ keys → place ≡ first_by bytes_order others key → place ≡ first_by bytes_order keys key
sought keys others key place is found = found ∙ ap (λ ks. first_by bytes_order ks key) is

pub returns-in-Ok : goal.returns-in-Ok
returns-in-Ok c tree is =
    let keys = c.slots.inside.keys.items in
    let entries = c.slots.inside.entries.items in
    let ascend = c.slots.invariant.keys in
    let scope = c.args.scope in
    let key = c.args.key.now in
    let named : ℕ × ℕ = (scope, c.place_of.result) in
    let cell = owner scope key in
    let e = c.index.result.now in
    let place = sought keys c.deref.result.now key c.place_of.result c.deref.ensures.value c.place_of.ensures in
    let found = c.in-Ok.ensures.position (λ (x : Entry). place_order x.named named) (always_returns_same _ _ _ (λ a r g called. search rules)) in
    let here = subst (λ (es : List Entry). place_order (get_or es c.in-Ok.at e).named named ≡ Equal) c.deref-2.ensures.value (found e) in
    let within = subst (λ (es : List Entry). c.in-Ok.at < length es) c.deref-2.ensures.value c.in-Ok.ensures.bound in
    let at = get_or entries c.in-Ok.at e in
    let low = all_at (IsOf (length keys)) entries c.slots.invariant.within c.in-Ok.at e within in
    let tells = cells_tell keys ascend at.named scope key low ∙ ap (λ n. is_eq (place_order at.named (scope, n))) (sym place) ∙ ap is_eq here in
    let sorted = unmapped cell_order (λ (x : Entry). cell_by keys x.named) entries (cells_ascend keys ascend (λ (x : Entry). x.named) entries c.slots.invariant.within c.slots.invariant.entries) in
    ap (λ (x : Entry). Some x.slot) c.index.ensures
    ∙ sym (ap (option_map (λ (x : Entry). x.slot)) (find_found (λ (x : Entry). cell_by keys x.named) cell entries c.in-Ok.at e sorted within (same_decides (cell_by keys at.named) cell tells)))
    ∙ sym (slot_by_entries keys cell entries)
    ∙ ap (λ (t : SlotTable). slot_by t.named cell) (c.slots.view_is ∙ is)
    ∙ slot_of_row tree scope key

pub returns-in-Err : goal.returns-in-Err
returns-in-Err c tree is =
    let keys = c.slots.inside.keys.items in
    let entries = c.slots.inside.entries.items in
    let scope = c.args.scope in
    let key = c.args.key.now in
    let named : ℕ × ℕ = (scope, c.place_of.result) in
    let cell = owner scope key in
    let place = sought keys c.deref.result.now key c.place_of.result c.deref.ensures.value c.place_of.ensures in
    let found = c.in-Err.ensures.position (λ (x : Entry). place_order x.named named) (always_returns_same _ _ _ (λ a r g called. search rules)) in
    let here = subst (λ (es : List Entry). IsBinarySearchResult (λ (x : Entry). place_order x.named named) es (Err c.in-Err.field-0)) c.deref-2.ensures.value found in
    let apart = all_apart place_order places_total (λ (x : Entry). x.named) named entries c.in-Err.field-0 c.slots.invariant.entries here in
    let none : All (λ (x : Entry). same_cell (cell_by keys x.named) cell ≡ false) entries = λ k d within.
    cells_tell keys c.slots.invariant.keys (get_or entries k d).named scope key (all_at (IsOf (length keys)) entries c.slots.invariant.within k d within)
    ∙ ap (λ n. is_eq (place_order (get_or entries k d).named (scope, n))) (sym place) ∙ apart k d within in
    sym (ap (option_map (λ (x : Entry). x.slot)) (none_found (λ (x : Entry). same_cell (cell_by keys x.named) cell) entries none))
    ∙ sym (slot_by_entries keys cell entries)
    ∙ ap (λ (t : SlotTable). slot_by t.named cell) (c.slots.view_is ∙ is)
    ∙ slot_of_row tree scope key
