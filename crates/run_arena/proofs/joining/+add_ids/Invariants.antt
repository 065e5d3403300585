use Rattle.std.proofs.Common.{◌≡◌, ◌++◌, map, drop}
use Rattle.std.specs.List.{flat_map}
use Rattle.spec_tree.specs.Terms.{leaf_ids}
use Rattle.run_arena.specs.Joining.{ids_lent}
use Rattle.run_arena.proofs.joining.+add_ids.Given as goal

-- the IDs so far, followed by those of the children still to come, are all
abbrev pub invariant-loop-child : goal.invariant-loop-child
invariant-loop-child l = ids_lent l.ids.items ++ flat_map (λ ids. ids) (map leaf_ids (drop l.child-index l.child-items)) ≡ ids_lent l.fn.ids.items ++ leaf_ids l.term
