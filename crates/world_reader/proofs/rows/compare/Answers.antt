use Rattle.std.proofs.Common.{◌≡◌, List, ℕ, false, sym, subst, ◌∙◌}
use Rattle.std.specs.Prelude.{bytes_eq}
use Rattle.std.specs.List.{list_any}
use Rattle.std.proofs.lemmas.Bool.{or_parts}
use Rattle.spec_tree.specs.Names.{is_reserved}
use Rattle.spec_world.specs.Worlds.{ids_of_rows}
use Rattle.world_reader.proofs.rows.compare.Goals as goal

pub add_condition-requires-clause-free : goal.add_condition-requires-clause-free
add_condition-requires-clause-free c =
    let id = c.args.id.now in
    let ids = ids_of_rows c.args.reading.now.rows in
    subst (λ (x : List ℕ). list_any (bytes_eq x) ids ≡ false) (sym c.in_ok-id.ensures)
    (or_parts (is_reserved id) (list_any (bytes_eq id) ids) (sym c.has_taken.ensures ∙ c.if-has_taken.false)).1
