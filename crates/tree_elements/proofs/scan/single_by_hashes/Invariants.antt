use Rattle.std.proofs.Common.{◌≡◌, ℕ, List, true, take}
use Rattle.std.specs.List.{list_any}
use Rattle.std.specs.Str.{bytes_eq}
use Rattle.spec_tree_file.specs.Marks.{no_name_twice}
use Rattle.tree_elements.proofs.Names.{has_name}
use Rattle.tree_elements.proofs.scan.single_by_hashes.Given as goal

abbrev pub invariant-loop-name : goal.invariant-loop-name
invariant-loop-name l = record {
  single : no_name_twice (take l.name-index l.attributes) ≡ true;
  held : (q : List ℕ) → list_any (λ k. bytes_eq q k.now) l.names.keys ≡ has_name q (take l.name-index l.attributes);
}
