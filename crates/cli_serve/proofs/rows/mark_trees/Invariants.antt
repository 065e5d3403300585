use Rattle.std.proofs.Common.{◌≡◌, drop}
use Rattle.spec_serve.specs.Rows.{starts_in}
use Rattle.cli_serve.specs.Leaves.{after_starts}
use Rattle.cli_serve.proofs.rows.mark_trees.Given as goal

-- after the starts in the elements that are left, it is said of all
abbrev pub invariant-loop-element : goal.invariant-loop-element
invariant-loop-element l =
    after_starts (starts_in (drop l.element-index l.element-items)) l.leaves.entries ≡ after_starts (starts_in l.element-items) l.fn.leaves.entries
