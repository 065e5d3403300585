-- The printed bytes of a tree read as that tree.
use Rattle.std.proofs.Common.{◌≡◌, ℕ, List, [], Option, None, Ok}
use Rattle.std.specs.List.{concat}
use Rattle.spec_tree_file.specs.declared.element.Element.{Element}
use Rattle.tree_elements.specs.Valid.{IsValid as IsValidElement}
use Rattle.spec_tree_file.specs.Elements.{Spells}
use Rattle.spec_tree.specs.declared.term.Tree.{Tree}
use Rattle.spec_tree.specs.PrintedTree.{tree_lines}
use Rattle.spec_tree.specs.Terms.{scope_count}
use Rattle.spec_tree.specs.Trees.{IsValid}
use Rattle.spec_tree_file.specs.Models.{Models, manifest_in}
use Rattle.spec_tree_file.specs.Reads.{reads}
use Rattle.tree_build.proofs.Fits.{reads_valid}
use Rattle.tree_round_trip.specs.Openings.{OpensAlike}
use Rattle.tree_round_trip.proofs.Lone.{lone_alike}
use Rattle.tree_round_trip.proofs.Openings.{reads_alike}
use Rattle.tree_round_trip.proofs.ReadTrees.{element_models, element_reads}
use Rattle.tree_round_trip.proofs.Writable.{tree_spelled}

-- a valid tree in which the trees are opened alike
pub alike_read_back : (tree : Tree) → IsValid tree → OpensAlike tree → (f : Element) × Spells (concat (tree_lines tree)) f × (manifest_in f ≡ Ok []) × (reads [] None f ≡ Ok tree)
alike_read_back tree valid opens =
    let s = tree_spelled tree valid in (s.0, s.1, element_models tree s.0 s.2, element_reads tree s.0 valid opens s.2)

-- a valid tree without SubTree nodes
pub lone_read_back : (tree : Tree) → IsValid tree → scope_count tree.term ≡ 0 → (f : Element) × Spells (concat (tree_lines tree)) f × (manifest_in f ≡ Ok []) × (reads [] None f ≡ Ok tree)
lone_read_back tree valid few = alike_read_back tree valid (lone_alike tree few)

-- a tree that was read
pub read_back : (root : Element) (models : Models) (asked : Option (List ℕ)) (tree : Tree) → IsValidElement root → manifest_in root ≡ Ok models → reads models asked root ≡ Ok tree →
    (f : Element) × Spells (concat (tree_lines tree)) f × (manifest_in f ≡ Ok []) × (reads [] None f ≡ Ok tree)
read_back root models asked tree spelled manifest h =
    alike_read_back tree (reads_valid models asked root tree spelled manifest h) (reads_alike models asked root tree h)
