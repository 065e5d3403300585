use Rattle.std.proofs.Common.{◌≡◌, drop}
use Rattle.std.specs.List.{flat_map}
use Rattle.spec_serve.specs.Rows.{starts_of}
use Rattle.cli_serve.specs.Leaves.{after_start, after_starts, own_start}
use Rattle.cli_serve.proofs.rows.+mark_actions.Given as goal

-- after the starts in the children that are left, it is said of all
abbrev pub invariant-loop-child : goal.invariant-loop-child
invariant-loop-child l =
    after_starts (flat_map starts_of (drop l.child-index l.child-items)) l.leaves.entries
    ≡ after_starts (flat_map starts_of l.child-items) (after_start (own_start l.element) l.fn.leaves.entries)
