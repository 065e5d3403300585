-- What an expansion leaves.
use Rattle.std.specs.Prelude.{◌≡◌, ℕ, ◌+◌, ◌&&◌, Bool, true, false, not, List, length, Some, slice_get}
use Rattle.std.specs.List.{list_any}
use Rattle.slab.specs.Slab.{Slab, get}
use Rattle.spec_world.specs.declared.world.World.{World}
use Rattle.spec_plan.specs.declared.domain.Template.{Template}
use Rattle.plan_tree.specs.declared.expanding.Choice.{Choice}
use Rattle.plan_tree.specs.declared.node.Node.{Node}
use Rattle.spec_plan.specs.declared.part.Part.{Part}
use Rattle.spec_plan.specs.declared.part.Part.TheVariants.{Sequence}
use Rattle.plan_tree.specs.declared.tree.PlanTree.{PlanTree}
use Rattle.spec_plan.specs.Expansion.{NewKeys, expanded, untried}
use Rattle.spec_plan.specs.Forests.{Forest, part_at}
use Rattle.plan_tree.specs.Sizes.{subtrees}
use Rattle.plan_tree.specs.Growth.{AddsLast, Wraps, names_sequence, rule_achieves}
use Rattle.spec_plan.specs.Achievers.{needs_of}
use Rattle.plan_tree.specs.Stands.{StandsFor}

-- The tree after an expansion stands for the tree with the sequence of the first untried template, which is one more. The
-- answer is the key of this sequence, and each key that the tree had names the same node.
pub record Expands (after : PlanTree) (world : World) (tree : Forest) (key added : ℕ) : Type 0 where
  pub template : Template
  pub first : slice_get (untried world.rows key tree) 0 ≡ Some template
  pub keys : NewKeys
  pub all : length keys.leaves ≡ length (needs_of world.rows template.row) + 1
  pub named : added ≡ keys.sequence
  pub stands : StandsFor after world (expanded world.rows keys key template.row tree)
  pub many : subtrees (expanded world.rows keys key template.row tree) ≡ subtrees tree + 1
  pub sequence : part_at added (expanded world.rows keys key template.row tree) ≡ Some (Sequence template.row)
  pub kept : (old : ℕ) (part : Part) → part_at old tree ≡ Some part → part_at old (expanded world.rows keys key template.row tree) ≡ Some part

-- a template that achieves the condition of this row and has no sequence among these
abbrev pub is_open : PlanTree → ℕ → List ℕ → Template → Bool
is_open t condition tried template =
    rule_achieves t.rules condition template.row && not (list_any (names_sequence t.nodes template.row) tried)

-- a template that has no sequence among these
abbrev pub is_new : Slab Node → List ℕ → Template → Bool
is_new s tried template = not (list_any (names_sequence s template.row) tried)

-- how the slab grows at a condition that stands in a fallback, or elsewhere
abbrev pub GrowsAt : Bool → Slab Node → Slab Node → ℕ → ℕ → ℕ → Part → List Part → Type 0
GrowsAt true old new parent condition key part parts = AddsLast old new parent key part parts
GrowsAt false old new parent condition key part parts = Wraps old new parent condition key part parts

-- the row is that of the first untried template, and the parent is the node above the condition
pub record Chooses (t : PlanTree) (world : World) (tree : Forest) (key : ℕ) (choice : Choice) : Type 0 where
  pub first : slice_get (untried world.rows key tree) 0 ≡ Some (record { row = choice.row })
  pub node : Node
  pub there : get t.nodes key ≡ Some node
  pub parent_is : node.parent ≡ Some choice.parent
