use Rattle.std.proofs.Common.{◌≡◌, List, [], length, ap, subst, sym, arith}
use Rattle.std.specs.declared.cmp.Ordering.{Ordering}
use Rattle.std.specs.List.{AllByRecursion}
use Rattle.std.specs.List.Sorted.{IsStrictlySortedBy}
use Rattle.tree_board.proofs.slots.no_slots.Goals as goal

-- nothing is in order
none_ascends : {K : Type 0} (order : K → K → Ordering) (keys : List K) → keys ≡ [] → IsStrictlySortedBy order keys
unfolding IsStrictlySortedBy
none_ascends order keys none = subst (IsStrictlySortedBy order) (sym none) tt

none_are : {X : Type 0} (P : X → Type 0) (xs : List X) → xs ≡ [] → AllByRecursion P xs
none_are P xs none = subst (AllByRecursion P) (sym none) tt

pub invariant_of-result : goal.invariant_of-result
invariant_of-result c = record {
  few_keys = omega (arith, ap length c.new.ensures.items);
  few = omega (arith, ap length c.new-2.ensures.items);
  keys = none_ascends _ _ c.new.ensures.items;
  cells = none_ascends _ _ c.new-2.ensures.items;
  entries = none_ascends _ _ c.new-3.ensures.items;
  within = none_are _ _ c.new-3.ensures.items;
}
