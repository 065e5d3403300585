-- Keys of conflicts name nodes of the tree.
use Rattle.std.proofs.Common.{◌≡◌, ℕ, ◌≤◌, Bool, true, false, if◌then◌else◌, List, [], ◌∷◌, Option, Some, None, refl, ap, sym, subst, arith, inl, inr}
use Rattle.std.specs.Prelude.{slice_get}
use Rattle.std.specs.List.{AllByRecursion, filter}
use Rattle.std.specs.Option.{option_map_or}
use Rattle.spec_world.specs.declared.world.Row.{Row}
use Rattle.spec_plan.specs.declared.part.Part.{Part}
use Rattle.spec_plan.specs.declared.part.Part.TheVariants.{Goals, Sequence, Fallback, Condition, Action}
use Rattle.spec_plan.specs.Forests.{Forest, Empty, Tree, Ancestor, Place, ancestors, is_sequence, place_of, times}
use Rattle.spec_plan.specs.Achievers.{row_threatens}
use Rattle.plan_tree.proofs.Counted.{is_other, is_same, one_same, tested}
use Rattle.spec_plan.specs.declared.head.Head.{Head}
use Rattle.spec_plan.specs.Conflicts.{Pair, actions, conflicts, conflicts_with, first_condition, head_of, heads, heads_before, heads_in, outer_of, own_actions}
use Rattle.plan_reorder.proofs.Whence.{first_place, other_place}
use Rattle.plan_reorder.proofs.Elements.{all_both, all_filter, all_first, all_flat_of, all_map}

-- the trees before a key are part of the forest
before_few : (k : ℕ) (f : Forest) (p : Place) (j : ℕ) → place_of k f ≡ Some p → times j p.before ≤ times j f
before_few k Empty p j found = absurd (cc found)
before_few k (Tree key part below rest) p j found = elim (tested key k) [
  | inl hit ↦ let e = ap (λ (q : Place). times j q.before) (first_place k key part below rest p found (is_same key k hit)) in omega (arith, e)
  | inr miss ↦ elim (other_place k key part below rest p found (is_other key k miss)) [
    | inl i ↦ let e = ap (λ (q : Place). times j q.before) i.is in omega (arith, e)
    | inr i ↦
        let e = ap (λ (q : Place). times j q.before) i.is in
        let few = before_few k rest i.q j i.found in
        omega (arith, e, few)
  ]
]

module _ (tree : Forest) where
  -- a key of the tree
  abbrev Is : Head → Type 0
  Is h = 1 ≤ times h.key tree

  -- a forest whose keys are all keys of the tree
  abbrev Part_of : Forest → Type 0
  Part_of f = (k : ℕ) → times k f ≤ times k tree

  own_within : (key row : ℕ) (below rest : Forest) (part : Part) → Part_of (Tree key part below rest) → 1 ≤ times key tree
  own_within key row below rest part inside = let more = inside key in let one = one_same key key refl in omega (arith, more, one)

  first_within : (f : Forest) → Part_of f → AllByRecursion Is (first_condition f)
  first_within Empty inside = tt
  first_within (Tree key (Condition row) below rest) inside = (own_within key row below rest (Condition row) inside, tt)
  first_within (Tree key Goals below rest) inside = tt
  first_within (Tree key (Sequence row) below rest) inside = tt
  first_within (Tree key Fallback below rest) inside = tt
  first_within (Tree key (Action row) below rest) inside = tt

  head_within : (key : ℕ) (part : Part) (below rest : Forest) → Part_of (Tree key part below rest) → Part_of below → AllByRecursion Is (head_of key part below)
  head_within key (Condition row) below rest inside lower = (own_within key row below rest (Condition row) inside, tt)
  head_within key Fallback below rest inside lower = first_within below lower
  head_within key Goals below rest inside lower = tt
  head_within key (Sequence row) below rest inside lower = tt
  head_within key (Action row) below rest inside lower = tt

  heads_within : (f : Forest) → Part_of f → AllByRecursion Is (heads f)
  heads_within Empty inside = tt
  heads_within (Tree key part below rest) inside =
      all_both Is (head_of key part below) (heads rest)
      (head_within key part below rest inside (λ (k : ℕ). let all = inside k in omega (arith, all)))
      (heads_within rest (λ (k : ℕ). let all = inside k in omega (arith, all)))

  own_actions_within : (key : ℕ) (part : Part) (found : List Head) → 1 ≤ times key tree → AllByRecursion Is found → AllByRecursion Is (own_actions key part found)
  own_actions_within key (Action row) found own all = (own, tt)
  own_actions_within key Goals found own all = all
  own_actions_within key (Sequence row) found own all = all
  own_actions_within key Fallback found own all = all
  own_actions_within key (Condition row) found own all = all

  actions_within : (f : Forest) → Part_of f → AllByRecursion Is (actions f)
  actions_within Empty inside = tt
  actions_within (Tree key part below rest) inside =
      all_both Is (own_actions key part (actions below)) (actions rest)
      (own_actions_within key part (actions below) (own_within key 0 below rest part inside) (actions_within below (λ (k : ℕ). let all = inside k in omega (arith, all))))
      (actions_within rest (λ (k : ℕ). let all = inside k in omega (arith, all)))

  -- what stands before the way down is part of the tree
  abbrev Above_within : Place → Type 0
  Above_within p = Part_of p.before × AllByRecursion (λ (a : Ancestor). Part_of a.before) p.above

  above_within : (k : ℕ) (f : Forest) (p : Place) → Part_of f → place_of k f ≡ Some p → Above_within p
  above_within k Empty p inside found = absurd (cc found)
  above_within k (Tree key part below rest) p inside found = elim (tested key k) [
    | inl hit ↦ subst Above_within (sym (first_place k key part below rest p found (is_same key k hit))) ((λ (j : ℕ). omega arith), tt)
    | inr miss ↦ elim (other_place k key part below rest p found (is_other key k miss)) [
      | inl i ↦
          let more = above_within k below i.q (λ (j : ℕ). let all = inside j in omega (arith, all)) i.found in
          subst Above_within (sym i.is)
          ((λ (j : ℕ). omega arith), all_both (λ (a : Ancestor). Part_of a.before) i.q.above (record { key = key; part = part; before = i.q.before } ∷ []) more.1 (more.0, tt))
      | inr i ↦
          let more = above_within k rest i.q (λ (j : ℕ). let all = inside j in omega (arith, all)) i.found in
          subst Above_within (sym i.is) ((λ (j : ℕ). let all = inside j in let few = before_few k rest i.q j i.found in omega (arith, all, few)), more.1)
    ]
  ]

  in_within : (a : Ancestor) → Part_of a.before → AllByRecursion Is (heads_in a)
  in_within a inside = elim (is_sequence a.part) as (λ (b : Bool). AllByRecursion Is (if b then heads a.before else [])) [
    | true ↦ heads_within a.before inside
    | false ↦ tt
  ]

  before_within : (up : List Ancestor) → AllByRecursion (λ (a : Ancestor). Part_of a.before) up → AllByRecursion Is (heads_before up)
  before_within [] all = tt
  before_within (a ∷ outer) all = all_both Is (heads_before outer) (heads_in a) (before_within outer all.1) (in_within a all.0)

  outer_within : (up : List Ancestor) → AllByRecursion (λ (a : Ancestor). Part_of a.before) up → AllByRecursion (λ (a : Ancestor). Part_of a.before) (outer_of up)
  outer_within [] all = tt
  outer_within (a ∷ outer) all = all.1

  ancestors_within : (k : ℕ) → AllByRecursion (λ (a : Ancestor). Part_of a.before) (ancestors k tree)
  ancestors_within k = elim (place_of k tree) as (λ (o : Option Place). place_of k tree ≡ o → AllByRecursion (λ (a : Ancestor). Part_of a.before) (option_map_or (λ (p : Place). p.above) o [])) [
    | Some p ↦ λ is. (above_within k tree p (λ (j : ℕ). omega arith) is).1
    | None ↦ λ is. tt
  ] refl

  abbrev pub Are : Pair → Type 0
  Are pair = (1 ≤ times pair.0 tree) × (1 ≤ times pair.1 tree)

  -- both keys of a conflict
  pub conflict_within : (rows : List Row) (pair : Pair) → slice_get (conflicts rows tree) 0 ≡ Some pair → Are pair
  conflict_within rows pair is =
      all_first Are (conflicts rows tree) pair
      (all_flat_of Is Are (λ (n : Head). conflicts_with rows n (heads_before (outer_of (ancestors n.key tree)))) (actions tree)
      (λ (n : Head) own.
      let earlier = heads_before (outer_of (ancestors n.key tree)) in
      all_map Is Are (λ (m : Head). (n.key, m.key)) (filter (λ (m : Head). row_threatens rows n.row m.row) earlier) (λ (m : Head) head. (own, head))
      (all_filter Is (λ (m : Head). row_threatens rows n.row m.row) earlier (before_within (outer_of (ancestors n.key tree)) (outer_within (ancestors n.key tree) (ancestors_within n.key)))))
      (actions_within tree (λ (j : ℕ). omega arith)))
      is
