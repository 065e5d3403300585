-- The marks of an arena that say which instances are held.
use Rattle.std.proofs.Common.{◌≡◌, ℕ, List, map, length, get_or, Bool, false, sym, ap, ◌∙◌}
use Rattle.std.proofs.lemmas.List.{length-map}
use Rattle.std.proofs.Math.ListN.{get_or-map}
use Rattle.spec_run.specs.Drivers.{DriverState, is_held}
use Rattle.spec_run.specs.Leaf.{fresh}
use Rattle.run_arena.specs.declared.nodes.Kept.{Kept}
use Rattle.run_arena.specs.declared.nodes.Node.{Node}
use Rattle.run_arena.specs.Nodes.{at_rest, kept_at, leaf_at}
use Rattle.run_arena.specs.Rosters.{instances_of, leaf_instance}
use Rattle.run_arena.specs.Scenes.{marks_of}
use Rattle.run_arena.proofs.Called.{instance_at_uid}

-- a mark says whether the instance is held
pub mark_is : (nodes : List Node) (kept : List Kept) (drivers : List DriverState) (uid : ℕ) → marks_of kept ≡ map is_held (instances_of nodes drivers) → (kept_at kept uid).held ≡ is_held (leaf_instance drivers (leaf_at nodes uid))
mark_is nodes kept drivers uid marks =
    sym (get_or-map (λ (k : Kept). k.held) kept uid at_rest)
    ∙ ap (λ (bs : List Bool). get_or bs uid false) marks
    ∙ get_or-map is_held (instances_of nodes drivers) uid fresh
    ∙ ap is_held (instance_at_uid nodes drivers uid)

-- there are as many marks as nodes
pub as_many_marks : (nodes : List Node) (kept : List Kept) (drivers : List DriverState) → marks_of kept ≡ map is_held (instances_of nodes drivers) → length kept ≡ length nodes
as_many_marks nodes kept drivers marks =
    sym (length-map kept (λ (k : Kept). k.held)) ∙ ap length marks ∙ length-map (instances_of nodes drivers) is_held ∙ length-map nodes (λ (node : Node). leaf_instance drivers node.leaf)
