use Rattle.std.proofs.Common.{◌≡◌, ◌++◌, map, drop}
use Rattle.std.specs.List.{flat_map}
use Rattle.tree_build.specs.Seen.{ids_seen}
use Rattle.spec_program.specs.Printed.{node_ids}
use Rattle.cli_answers.proofs.printing.nodes.+add_ids.Given as goal

-- the IDs so far, followed by those of the children still to come, are all
abbrev pub invariant-loop-child : goal.invariant-loop-child
invariant-loop-child l =
    ids_seen l.ids.items ++ flat_map (λ ids. ids) (map node_ids (drop l.child-index l.child-items))
    ≡ ids_seen l.fn.ids.items ++ node_ids l.term
