use Rattle.std.proofs.Common.{◌≡◌, ℕ, List, map, length, ap, sym, subst, ◌∙◌, arith}
use Rattle.std.proofs.lemmas.List.{length-map}
use Rattle.std.specs.List.{list_any}
use Rattle.std.specs.List.Sorted.{IsStrictlySortedBy}
use Rattle.spec_tree.specs.Boards.{cell_order, namings}
use Rattle.spec_tree.specs.declared.cell.Cell.{Cell}
use Rattle.tree_board.specs.declared.rows.Row.{Row}
use Rattle.tree_board.specs.declared.slots.Entry.{Entry}
use Rattle.tree_board.specs.Namings.{HaveSame}
use Rattle.tree_board.specs.Rows.{cell_by, first_by, naming_by, place_order}
use Rattle.tree_board.specs.Slots.{entry_by, ranked}
use Rattle.tree_board.proofs.Ranked.{bytes_order}
use Rattle.tree_board.proofs.Resolved.{cells_by_rank, entries_by_rank, table_by_rank}
use Rattle.tree_board.proofs.slots.slots_of.Goals as goal

-- what is made of lists that are lent is made of the lists
ranks_made : (ranks : List ℕ) (ordered keys lent_ordered lent_keys : List (List ℕ)) → ranks ≡ map (first_by bytes_order lent_ordered) lent_keys → lent_ordered ≡ ordered → lent_keys ≡ keys
    → ranks ≡ map (first_by bytes_order ordered) keys
ranks_made ranks ordered keys lent_ordered lent_keys made a b =
    made ∙ ap (λ (ks : List (List ℕ)). map (first_by bytes_order ks) lent_keys) a ∙ ap (map (first_by bytes_order ordered)) b

pairs_made : (pairs : List (ℕ × ℕ)) (ranks lent_ranks : List ℕ) (rows lent_rows : List Row) → pairs ≡ map (λ (row : Row). ranked lent_ranks row.cell) lent_rows → lent_ranks ≡ ranks → lent_rows ≡ rows
    → pairs ≡ map (λ (row : Row). ranked ranks row.cell) rows
pairs_made pairs ranks lent_ranks rows lent_rows made a b =
    made ∙ ap (λ (rs : List ℕ). map (λ (row : Row). ranked rs row.cell) lent_rows) a ∙ ap (map (λ (row : Row). ranked ranks row.cell)) b

cells_made : (cells : List Cell) (keys lent_keys : List (List ℕ)) (places lent_places : List (ℕ × ℕ)) → cells ≡ map (cell_by lent_keys) lent_places → lent_keys ≡ keys → lent_places ≡ places
    → cells ≡ map (cell_by keys) places
cells_made cells keys lent_keys places lent_places made a b = made ∙ ap (λ (ks : List (List ℕ)). map (cell_by ks) lent_places) a ∙ ap (map (cell_by keys)) b

all_made : (all : List Entry) (ranks lent_ranks : List ℕ) (places lent_places : List (ℕ × ℕ)) (rows lent_rows : List Row) → all ≡ map (entry_by lent_ranks lent_places) lent_rows
    → lent_ranks ≡ ranks → lent_places ≡ places → lent_rows ≡ rows → all ≡ map (entry_by ranks places) rows
all_made all ranks lent_ranks places lent_places rows lent_rows made a b d =
    made ∙ ap (λ (rs : List ℕ). map (entry_by rs lent_places) lent_rows) a ∙ ap (λ (ps : List (ℕ × ℕ)). map (entry_by ranks ps) lent_rows) b ∙ ap (map (entry_by ranks places)) d

pub ranks_of-requires-clause-ascend : goal.ranks_of-requires-clause-ascend
ranks_of-requires-clause-ascend c = subst (IsStrictlySortedBy bytes_order) (sym c.deref.ensures.value) c.in_ok-keys.ensures.strict

pub ranks_of-requires-clause-few : goal.ranks_of-requires-clause-few
ranks_of-requires-clause-few c = omega (arith, c.if-len.false, c.len.ensures, ap (λ (ks : List (List ℕ)). length ks) c.deref.ensures.value)

pub entries_of-requires-clause-ascend : goal.entries_of-requires-clause-ascend
entries_of-requires-clause-ascend c = subst (IsStrictlySortedBy place_order) (sym c.deref-8.ensures.value) c.in_ok-places.ensures.strict

pub entries_of-requires-clause-few : goal.entries_of-requires-clause-few
entries_of-requires-clause-few c = omega (arith, c.if-len-2.false, c.len-2.ensures, ap (λ (ps : List (ℕ × ℕ)). length ps) c.deref-8.ensures.value)

pub invariant_of-result : goal.invariant_of-result
invariant_of-result c =
    let tree = c.args.tree.now in
    let keys = c.named.inside.keys in
    let ordered = c.in_ok-keys.keys.items in
    let ascend = c.in_ok-keys.ensures.strict in
    let same = c.in_ok-keys.ensures.same in
    let rows = c.named.inside.rows.items in
    let within = c.named.invariant in
    let named : HaveSame (map (naming_by keys) rows) (namings tree) = λ p. ap (list_any p) c.named.view_is ∙ c.in_ok-named.ensures p in
    let pairs = c.in_ok-places_of.field-0.items in
    let places = c.in_ok-places.places.items in
    let places_in = c.in_ok-places.ensures in
    let ranks = ranks_made c.in_ok-ranks.ranks.items ordered keys c.deref.result.now c.list.result.now c.in_ok-ranks.ensures c.deref.ensures.value c.list.ensures in
    let is_pairs = pairs_made pairs _ c.deref-3.result.now rows c.deref-2.result.now c.in_ok-places_of.ensures (c.deref-3.ensures.value ∙ ranks) c.deref-2.ensures.value in
    let is_cells = cells_made c.in_ok-cells.cells.items ordered c.deref-4.result.now places c.deref-5.result.now c.in_ok-cells.ensures c.deref-4.ensures.value c.deref-5.ensures.value in
    let all = c.in_ok-all.all.items in
    let entries = c.in_ok-entries.entries.items in
    let entries_in = c.in_ok-entries.ensures in
    let is_all = all_made all _ c.deref-7.result.now places c.deref-8.result.now rows c.deref-6.result.now c.in_ok-all.ensures (c.deref-7.ensures.value ∙ ranks) c.deref-8.ensures.value c.deref-6.ensures.value in
    record {
      few_keys = omega (arith, c.if-len.false, c.len.ensures);
      few = omega (arith, c.if-len-2.false, c.len-2.ensures, ap (λ (cs : List Cell). length cs) is_cells, length-map places (cell_by ordered));
      keys = ascend;
      cells = subst (IsStrictlySortedBy cell_order) (sym is_cells) (cells_by_rank tree keys ordered ascend same rows within named pairs places is_pairs places_in.strict places_in.same places_in.from);
      entries = entries_in.strict;
      within = entries_by_rank tree keys ordered ascend same rows within named pairs places is_pairs places_in.strict places_in.same places_in.from all entries is_all entries_in.strict entries_in.same entries_in.from;
    }

pub returns : goal.returns
returns c =
    let tree = c.args.tree.now in
    let keys = c.named.inside.keys in
    let ordered = c.in_ok-keys.keys.items in
    let ascend = c.in_ok-keys.ensures.strict in
    let same = c.in_ok-keys.ensures.same in
    let rows = c.named.inside.rows.items in
    let within = c.named.invariant in
    let named : HaveSame (map (naming_by keys) rows) (namings tree) = λ p. ap (list_any p) c.named.view_is ∙ c.in_ok-named.ensures p in
    let pairs = c.in_ok-places_of.field-0.items in
    let places = c.in_ok-places.places.items in
    let places_in = c.in_ok-places.ensures in
    let ranks = ranks_made c.in_ok-ranks.ranks.items ordered keys c.deref.result.now c.list.result.now c.in_ok-ranks.ensures c.deref.ensures.value c.list.ensures in
    let is_pairs = pairs_made pairs _ c.deref-3.result.now rows c.deref-2.result.now c.in_ok-places_of.ensures (c.deref-3.ensures.value ∙ ranks) c.deref-2.ensures.value in
    let is_cells = cells_made c.in_ok-cells.cells.items ordered c.deref-4.result.now places c.deref-5.result.now c.in_ok-cells.ensures c.deref-4.ensures.value c.deref-5.ensures.value in
    let all = c.in_ok-all.all.items in
    let entries = c.in_ok-entries.entries.items in
    let entries_in = c.in_ok-entries.ensures in
    let is_all = all_made all _ c.deref-7.result.now places c.deref-8.result.now rows c.deref-6.result.now c.in_ok-all.ensures (c.deref-7.ensures.value ∙ ranks) c.deref-8.ensures.value c.deref-6.ensures.value in
    table_by_rank tree keys ordered ascend same rows within named pairs places is_pairs places_in.strict places_in.same places_in.from all entries is_all entries_in.strict entries_in.same entries_in.from
    c.in_ok-cells.cells.items is_cells
