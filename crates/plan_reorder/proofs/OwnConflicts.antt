-- A conflict of the action of a sequence is one of the tree.
use Rattle.std.proofs.Common.{◌≡◌, ℕ, suc, ◌-◌, ◌<◌, ◌≤◌, ◌==◌, nat_eq, false, List, [], ◌∷◌, ◌++◌, length, take, drop, get_or, Option, Some, None, refl, ap, sym, ◌∙◌, subst, arith, append-nil, inl, inr}
use Rattle.std.specs.Prelude.{IsSome, option_map, slice_get}
use Rattle.std.specs.List.{flat_map}
use Rattle.std.specs.Option.{option_or}
use Rattle.std.proofs.lemmas.Grind.{flat_map-append}
use Rattle.slab.specs.Slab.{get}
use Rattle.spec_world.specs.declared.world.World.{World}
use Rattle.plan_tree.specs.declared.node.Node.{Node}
use Rattle.spec_plan.specs.declared.part.Part.{Part}
use Rattle.spec_plan.specs.declared.part.Part.TheVariants.{Goals, Sequence, Fallback, Condition, Action}
use Rattle.plan_tree.specs.declared.tree.PlanTree.{PlanTree}
use Rattle.spec_plan.specs.Forests.{Forest, Empty, Tree, Place, ancestors, node_at, place_of, times}
use Rattle.plan_tree.specs.Sizes.{tops}
use Rattle.plan_tree.specs.Stands.{PartFits, PartsFit, StandsFor}
use Rattle.plan_tree.proofs.Counted.{chosen, is_same, skipped, tested}
use Rattle.plan_tree.proofs.Expansions.{node_found}
use Rattle.plan_tree.proofs.Places.{placed}
use Rattle.plan_tree.proofs.Regrown.{in_tops}
use Rattle.plan_tree.proofs.Standing.{kept_at, tops_are}
use Rattle.spec_plan.specs.declared.head.Head.{Head}
use Rattle.spec_plan.specs.Conflicts.{Pair, actions, conflicts, conflicts_of, conflicts_with, heads_before, outer_of, own_actions}
use Rattle.plan_reorder.proofs.Climbed.{under_counts}
use Rattle.plan_reorder.proofs.Untouched.{around}

-- ---- What one of some elements gives, all give

module _ {X : Type 0} where
  some_left : (xs ys : List X) → IsSome (slice_get xs 0) → IsSome (slice_get (xs ++ ys) 0)
  some_left [] ys is = absurd (cc is)
  some_left (x ∷ xs) ys is = is

  some_right : (xs ys : List X) → IsSome (slice_get ys 0) → IsSome (slice_get (xs ++ ys) 0)
  some_right [] ys is = is
  some_right (x ∷ xs) ys is = refl

module _ (rows : ℕ) (step : Head → List Pair) (k row : ℕ) (under : Forest) (is : IsSome (slice_get (step (record { key = k; row = row })) 0)) where
  one_step : IsSome (slice_get (flat_map step (record { key = k; row = row } ∷ [])) 0)
  one_step = some_left (step (record { key = k; row = row })) [] is

  module _ (key : ℕ) (below rest : Forest) where
    lead : (part : Part) → IsSome (slice_get (flat_map step (own_actions key part (actions below))) 0) → IsSome (slice_get (flat_map step (actions (Tree key part below rest))) 0)
    lead part own =
        subst (λ (l : List Pair). IsSome (slice_get l 0)) (sym (flat_map-append step (own_actions key part (actions below)) (actions rest)))
        (some_left (flat_map step (own_actions key part (actions below))) (flat_map step (actions rest)) own)

    follow : (part : Part) → IsSome (slice_get (flat_map step (actions rest)) 0) → IsSome (slice_get (flat_map step (actions (Tree key part below rest))) 0)
    follow part later =
        subst (λ (l : List Pair). IsSome (slice_get l 0)) (sym (flat_map-append step (own_actions key part (actions below)) (actions rest)))
        (some_right (flat_map step (own_actions key part (actions below))) (flat_map step (actions rest)) later)

  -- no node stands below an action
  lower : (key : ℕ) (part : Part) (below : Forest) → PartFits rows part below → (n : Part × Forest) → node_at k below ≡ Some n → IsSome (slice_get (flat_map step (actions below)) 0) →
      IsSome (slice_get (flat_map step (own_actions key part (actions below))) 0)
  lower key (Action own) below fits n found has = absurd (cc (found, ap (node_at k) fits.1))
  lower key Goals below fits n found has = has
  lower key (Sequence own) below fits n found has = has
  lower key Fallback below fits n found has = has
  lower key (Condition own) below fits n found has = has

  -- an action is among the actions of its tree
  pub some_found : (f : Forest) → PartsFit rows f → node_at k f ≡ Some (Action row, under) → IsSome (slice_get (flat_map step (actions f)) 0)
  some_found Empty fit found = absurd (cc found)
  some_found (Tree key part below rest) fit found = elim (tested key k) [
    | inl hit ↦
        let both : Some (part, below) ≡ Some (Action row, under) = sym (chosen (nat_eq key k) (Some (part, below)) (option_or (node_at k below) (node_at k rest)) hit) ∙ found in
        let pair : (part, below) ≡ (Action row, under) = cc both in
        let part_is : part ≡ Action row = ap (λ (n : Part × Forest). n.0) pair in
        lead key below rest part
        (subst (λ (x : Part). IsSome (slice_get (flat_map step (own_actions key x (actions below))) 0)) (sym part_is)
        (subst (λ (n : ℕ). IsSome (slice_get (flat_map step (record { key = n; row = row } ∷ [])) 0)) (sym (is_same key k hit)) one_step))
    | inr miss ↦
        elim (node_at k below) as (λ (o : Option (Part × Forest)). node_at k below ≡ o → option_or o (node_at k rest) ≡ Some (Action row, under) → IsSome (slice_get (flat_map step (actions (Tree key part below rest))) 0)) [
          | Some n ↦ λ in_below e. lead key below rest part (lower key part below fit.0 n in_below (some_found below fit.1 (in_below ∙ e)))
          | None ↦ λ in_below e. follow key below rest part (some_found rest fit.2 e)
        ] refl (sym (skipped (nat_eq key k) (Some (part, below)) (option_or (node_at k below) (node_at k rest)) miss) ∙ found)
  ]

-- ---- The child of a node, in the slab

module _ (world : World) (t : PlanTree) (tree : Forest) (st : StandsFor t world tree) where
  -- a child of a node of the tree is in the tree
  child_counts : (key : ℕ) → 1 ≤ times key tree → (node : Node) → get t.nodes key ≡ Some node → (keys : List ℕ) → keys ≡ node.children.items → (i : ℕ) → i < length keys → 1 ≤ times (get_or keys i 0) tree
  child_counts key has node there keys are i within =
      let found = node_found key tree has in
      let kept = kept_at t.nodes key found.0.0 found.0.1 None (t.root ∷ []) tree st.nodes found.1 in
      let same : node ≡ kept.2.node = cc (there, kept.2.there) in
      let children : keys ≡ kept.1 = are ∙ ap (λ (n : Node). n.children.items) same ∙ kept.2.children_are in
      let tops_is : tops found.0.1 ≡ take i keys ++ get_or keys i 0 ∷ drop (suc i) keys = sym (tops_are t.nodes (Some key) kept.1 found.0.1 kept.3) ∙ sym children ∙ around keys i within in
      let some = in_tops (get_or keys i 0) found.0.1 (take i keys) (drop (suc i) keys) tops_is in
      let few = under_counts (get_or keys i 0) key found.0.0 found.0.1 tree found.1 in
      omega (arith, some, few)

  -- where an action conflicts that stands in the slab, the tree has a conflict
  action_conflicts : (k row : ℕ) → 1 ≤ times k tree → option_map (λ (n : Node). n.part) (get t.nodes k) ≡ Some (Action row) →
      ((place : Place) → place_of k tree ≡ Some place → IsSome (slice_get (conflicts_of world.rows tree (record { key = k; row = row } ∷ [])) 0)) → IsSome (slice_get (conflicts world.rows tree) 0)
  action_conflicts k row has part own =
      let step : Head → List Pair = λ n. conflicts_with world.rows n (heads_before (outer_of (ancestors n.key tree))) in
      let found = node_found k tree has in
      let kept = kept_at t.nodes k found.0.0 found.0.1 None (t.root ∷ []) tree st.nodes found.1 in
      let both : Some kept.2.node.part ≡ Some (Action row) = sym (ap (λ (o : Option Node). option_map (λ (n : Node). n.part) o) kept.2.there) ∙ part in
      let part_is : found.0.0 ≡ Action row = sym kept.2.part_is ∙ cc both in
      let place = placed k tree found.0 found.1 in
      let some : IsSome (slice_get (step (record { key = k; row = row })) 0) =
      subst (λ (l : List Pair). IsSome (slice_get l 0)) (append-nil (step (record { key = k; row = row }))) (own place.0 place.1) in
      some_found (length world.rows) step k row found.0.1 some tree st.shape.fit (found.1 ∙ ap (λ (x : Part). Some (x, found.0.1)) part_is)

  -- .. as that of an action among the children of a node
  pub child_conflicts : (key : ℕ) → 1 ≤ times key tree → (node : Node) → get t.nodes key ≡ Some node → (keys : List ℕ) → keys ≡ node.children.items → (i : ℕ) → i < length keys → (row : ℕ) →
      option_map (λ (n : Node). n.part) (get t.nodes (get_or keys i 0)) ≡ Some (Action row) →
      ((place : Place) → place_of (get_or keys i 0) tree ≡ Some place → IsSome (slice_get (conflicts_of world.rows tree (record { key = get_or keys i 0; row = row } ∷ [])) 0)) →
      IsSome (slice_get (conflicts world.rows tree) 0)
  child_conflicts key has node there keys are i within row part own = action_conflicts (get_or keys i 0) row (child_counts key has node there keys are i within) part own

-- some keys have a last one
pub last_within : (keys : List ℕ) → (length keys == 0) ≡ false → length keys - 1 < length keys
last_within [] is = absurd (cc is)
last_within (key ∷ keys) is = omega arith
