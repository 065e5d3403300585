use Rattle.std.proofs.Common.{◌≡◌, drop}
use Rattle.spec_tree.specs.Names.{is_among}
use Rattle.tree_build.specs.Seen.{ids_seen}
use Rattle.tree_build.proofs.tree.is_opened.Given as goal

abbrev pub invariant-loop-other : goal.invariant-loop-other
invariant-loop-other l = is_among l.id (ids_seen (drop l.other-index l.opened)) ≡ is_among l.id (ids_seen l.opened)
