use Rattle.std.proofs.Common.{◌≡◌, Some, length, map, take}
use Rattle.spec_plan.specs.declared.part.Part.TheVariants.{Condition}
use Rattle.spec_plan.specs.Expansion.{leaves}
use Rattle.plan_tree.specs.Growth.{Adds}
use Rattle.plan_tree.proofs.inserting.add_conditions.Given as goal

abbrev pub invariant-loop-row : goal.invariant-loop-row
invariant-loop-row l = record {
  added : Adds l.initial.nodes l.nodes (Some l.parent) l.keys.items (leaves l.keys.items (map Condition (take l.row-index l.rows)));
  counted : length l.keys.items ≡ l.row-index;
  capacity : l.nodes.capacity ≡ l.initial.nodes.capacity;
  places : l.keys.capacity ≡ l.initial.keys.capacity;
}
