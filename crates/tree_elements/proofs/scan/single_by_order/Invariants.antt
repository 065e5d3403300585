use Rattle.std.proofs.Common.{◌≡◌, ℕ, List, true, take}
use Rattle.std.specs.List.{list_any}
use Rattle.std.specs.Cmp.Lexicographic.{slice_cmp}
use Rattle.std.specs.Ordering.{is_eq, nat_cmp}
use Rattle.spec_tree_file.specs.Marks.{no_name_twice}
use Rattle.tree_elements.proofs.Names.{has_name}
use Rattle.tree_elements.proofs.scan.single_by_order.Given as goal

abbrev pub invariant-loop-name : goal.invariant-loop-name
invariant-loop-name l = record {
  single : no_name_twice (take l.name-index l.attributes) ≡ true;
  held : (q : List ℕ) → list_any (λ k. is_eq (slice_cmp nat_cmp q k.now)) l.ordered.keys ≡ has_name q (take l.name-index l.attributes);
}
