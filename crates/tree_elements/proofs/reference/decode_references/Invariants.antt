use Rattle.std.proofs.Common.{◌≡◌, ◌++◌, length}
use Rattle.std.specs.Str.{IsUtf8}
use Rattle.spec_tree_file.specs.References.{decoded}
use Rattle.tree_elements.proofs.reference.decode_references.Given as goal

abbrev pub invariant-parts : goal.invariant-parts
invariant-parts l = record {
  value : l.said.items ++ decoded l.rest ≡ decoded l.value;
  said : IsUtf8 l.said.items;
  rest : IsUtf8 l.rest;
}

abbrev pub decreases-parts : goal.decreases-parts
decreases-parts l = length l.rest
