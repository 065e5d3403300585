use Rattle.std.proofs.Common.{ℕ, List, [], ◌∷◌, subst, Bor}
use Rattle.base_texts.specs.Stops.{Gives}
use Rattle.spec_tree_file.specs.Reads.{no_numbers, read_node}
use Rattle.tree_build.specs.Seen.{file_seen, ids_seen}
use Rattle.tree_build.proofs.building.read_root.Goals as goal

pub returns : goal.returns
returns c =
    let file = file_seen c.args.file.now in
    let root = c.args.root.now in
    subst (λ (levels : ℕ). Gives c.read_node.result (read_node file levels root (c.args.id.now ∷ []) no_numbers)) c.most_levels.ensures
    (subst (λ (ids : List (Bor (List ℕ))). Gives c.read_node.result (read_node file c.most_levels.result root (ids_seen ids) no_numbers)) c.as_slice.ensures c.read_node.ensures)
