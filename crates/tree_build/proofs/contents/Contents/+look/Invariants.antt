use Rattle.std.proofs.Common.{◌≡◌, ◌+◌, ◌*◌}
use Rattle.tree_build.proofs.contents.Contents.+look.Given as goal

abbrev pub invariant-keep_all-loop-element : goal.invariant-keep_all-loop-element
invariant-keep_all-loop-element l = l.self ≡ l.fn.self

abbrev pub decreases-keep_all : goal.decreases-keep_all
decreases-keep_all l = 2 * l.levels + 1

abbrev pub decreases-keep_with : goal.decreases-keep_with
decreases-keep_with l = 2 * l.levels
