use Rattle.std.proofs.Common.{◌≡◌, length}
use Rattle.spec_tree_file.specs.Patterns.{matches, some_end}
use Rattle.tree_mock.proofs.patterns.matching.matches_end.Given as goal

abbrev pub invariant-pieces : goal.invariant-pieces
invariant-pieces l = some_end (matches l.left) l.rest ≡ some_end (matches l.pattern) l.text

abbrev pub decreases-pieces : goal.decreases-pieces
decreases-pieces l = length l.left
