-- A call of a leaf's driver changes one instance of an arena, and every leaf is served as before.
use Rattle.std.proofs.Common.{◌≡◌, ◌≢◌, inl, inr, ℕ, ◌<◌, List, [], ◌∷◌, ◌++◌, map, length, get_or, set, Option, Some, None, refl, sym, ap, subst, ◌∙◌, arith}
use Rattle.std.proofs.lemmas.Bool.{cases_eq, cases_lt}
use Rattle.std.proofs.lemmas.List.{get_or-set_same, get_or-set_other, get_or_default, length-map, length-set, map-set, same_lists}
use Rattle.std.proofs.Math.ListN.{get_or-map}
use Rattle.std.proofs.Math.Seq.{map-set_same, set_out}
use Rattle.spec_run.specs.declared.leaf.DriverKind.TheVariants as driver
use Rattle.spec_run.specs.declared.leaf.Instance.{Instance}
use Rattle.spec_run.specs.declared.leaf.Phase.{Phase}
use Rattle.spec_run.specs.Done.{Call}
use Rattle.spec_run.specs.Drivers.{DriverState, after_call, driver_at, instance_of, is_held, new_driver, roster_called}
use Rattle.base_tables.specs.DriverCalls.{IsThere, instance_at}
use Rattle.spec_run.specs.Leaf.{fresh}
use Rattle.run_arena.specs.declared.nodes.Kept.{Kept}
use Rattle.run_arena.specs.declared.nodes.Node.{Node}
use Rattle.run_arena.specs.declared.nodes.ReadyLeaf.{ReadyLeaf}
use Rattle.run_arena.specs.Nodes.{at_rest, kept_at, leaf_at, nobody}
use Rattle.run_arena.specs.Rosters.{AreServed, instances_of, leaf_called, leaf_instance, roster_after}
use Rattle.run_arena.specs.Scenes.{marks_of}

-- ---- one driver

module _ (ds : List DriverState) (place : ℕ) (phase : Phase) (instance : ℕ) (left : Instance) where
  abbrev called : List DriverState
  called = roster_called ds place phase instance left

  -- the driver that was called
  driver_called : place < length ds → driver_at called place ≡ after_call (driver_at ds place) phase instance left
  driver_called there = get_or-set_same ds place (after_call (driver_at ds place) phase instance left) (new_driver driver.Condition) there

  -- another driver
  driver_other : (other : ℕ) → other ≢ place → driver_at called other ≡ driver_at ds other
  driver_other other apart = get_or-set_other ds place other (after_call (driver_at ds place) phase instance left) (new_driver driver.Condition) apart

  -- the kind and the number of instances of each driver stay
  pub driver_same : (other : ℕ) → ((driver_at called other).kind ≡ (driver_at ds other).kind) × (length (driver_at called other).table ≡ length (driver_at ds other).table)
  driver_same other = elim (cases_eq other place) [
    | inl same ↦ elim (cases_lt place (length ds)) [
      | inl there ↦
          let is : driver_at called other ≡ after_call (driver_at ds other) phase instance left =
          subst (λ k. driver_at called k ≡ after_call (driver_at ds k) phase instance left) (sym same) (driver_called there) in
          (ap (λ (d : DriverState). d.kind) is, ap (λ (d : DriverState). length d.table) is ∙ length-set (driver_at ds other).table instance left)
      | inr beyond ↦
          let is : driver_at called other ≡ driver_at ds other = ap (λ (xs : List DriverState). driver_at xs other) (set_out ds place (after_call (driver_at ds place) phase instance left) beyond) in
          (ap (λ (d : DriverState). d.kind) is, ap (λ (d : DriverState). length d.table) is)
    ]
    | inr apart ↦
        let is = driver_other other apart in
        (ap (λ (d : DriverState). d.kind) is, ap (λ (d : DriverState). length d.table) is)
  ]

  -- the instance that was called
  pub instance_called : IsThere ds place instance → instance_at called place instance ≡ left
  instance_called there =
      ap (λ (d : DriverState). instance_of d instance) (driver_called there.0)
      ∙ get_or-set_same (driver_at ds place).table instance left fresh there.1

  -- another instance, of this driver or of another one
  pub instance_other : IsThere ds place instance → (p i : ℕ) → (p ≡ place → i ≡ instance → ⊥) → instance_at called p i ≡ instance_at ds p i
  instance_other there p i apart = elim (cases_eq p place) [
    | inl same ↦
        subst (λ k. (k ≡ place → i ≡ instance → ⊥) → instance_at called k i ≡ instance_at ds k i) (sym same)
        (λ differ.
        ap (λ (d : DriverState). instance_of d i) (driver_called there.0)
        ∙ get_or-set_other (driver_at ds place).table instance i left fresh (differ refl)) apart
    | inr other ↦ ap (λ (d : DriverState). instance_of d i) (driver_other p other)
  ]

-- ---- an arena

-- the instance of a uid
pub instance_at_uid : (nodes : List Node) (drivers : List DriverState) (uid : ℕ) → get_or (instances_of nodes drivers) uid fresh ≡ leaf_instance drivers (leaf_at nodes uid)
instance_at_uid nodes drivers uid = get_or-map (λ (node : Node). leaf_instance drivers node.leaf) nodes uid nobody

-- each leaf is served as before
pub served_after : (nodes : List Node) (drivers : List DriverState) (place : ℕ) (phase : Phase) (instance : ℕ) (left : Instance) → AreServed drivers nodes → AreServed (roster_called drivers place phase instance left) nodes
served_after nodes drivers place phase instance left are = record {
  served = λ uid leaf is.
      let was = are.served uid leaf is in
      let same = driver_same drivers place phase instance left leaf.driver in
      record {
        there = (omega (arith, was.there.0, length-set drivers place (after_call (driver_at drivers place) phase instance left)), omega (arith, was.there.1, same.1));
        kind = was.kind ∙ sym same.0;
      };
  own = are.own;
}

module _ (nodes : List Node) (drivers : List DriverState) (uid : ℕ) (leaf : ReadyLeaf) (phase : Phase) (left : Instance) (are : AreServed drivers nodes) (is : leaf_at nodes uid ≡ Some leaf) where
  abbrev after : List DriverState
  after = roster_called drivers leaf.driver phase leaf.instance left

  other_leaf : (p : ℕ) (found : Option ReadyLeaf) → leaf_at nodes p ≡ found → p ≢ uid → leaf_instance after found ≡ leaf_instance drivers found
  other_leaf p None found apart = refl
  other_leaf p (Some other) found apart =
      instance_other drivers leaf.driver phase leaf.instance left (are.served uid leaf is).there other.driver other.instance
      (λ same_driver same_instance. apart (are.own p uid other leaf found is same_driver same_instance))

  -- a call for a leaf changes its instance, and no other one
  pub instances_called : instances_of nodes after ≡ set (instances_of nodes drivers) uid left
  instances_called =
      let f = λ (node : Node). leaf_instance after node.leaf in
      let g = λ (node : Node). leaf_instance drivers node.leaf in
      same_lists (map f nodes) (set (map g nodes) uid left) (length-map nodes f ∙ sym (length-set (map g nodes) uid left ∙ length-map nodes g))
      (λ k d within.
      let inside : k < length nodes = omega (arith, within, length-map nodes f) in
      let set_inside : k < length (set (map g nodes) uid left) = omega (arith, inside, length-set (map g nodes) uid left, length-map nodes g) in
      get_or_default (map f nodes) k d fresh within
      ∙ get_or-map f nodes k nobody
      ∙ (elim (cases_eq k uid) [
        | inl same ↦
            ap (λ p. leaf_instance after (leaf_at nodes p)) same ∙ ap (leaf_instance after) is
            ∙ instance_called drivers leaf.driver phase leaf.instance left (are.served uid leaf is).there
            ∙ sym (get_or-set_same (map g nodes) uid left fresh (subst (λ p. p < length (map g nodes)) same (omega (arith, inside, length-map nodes g))))
            ∙ ap (λ p. get_or (set (map g nodes) uid left) p fresh) (sym same)
        | inr apart ↦
            other_leaf k (leaf_at nodes k) refl apart
            ∙ sym (get_or-map g nodes k nobody)
            ∙ sym (get_or-set_other (map g nodes) uid k left fresh apart)
      ])
      ∙ sym (get_or_default (set (map g nodes) uid left) k d fresh set_inside))

  -- and marks that were right are still right where the leaf's mark is set
  pub marks_called : (kept : List Kept) (now : Kept) → marks_of kept ≡ map is_held (instances_of nodes drivers) → now.held ≡ is_held left
      → marks_of (set kept uid now) ≡ map is_held (instances_of nodes after)
  marks_called kept now right mark =
      map-set (λ (k : Kept). k.held) kept uid now
      ∙ (λ i. set (right i) uid (mark i))
      ∙ sym (map-set is_held (instances_of nodes drivers) uid left)
      ∙ ap (map is_held) (sym instances_called)

  -- one call at the beginning of a list of calls
  pub roster_after_call : (call : Call) (calls : List Call) → call.uid ≡ uid → call.phase ≡ phase → call.left ≡ left → roster_after nodes (call ∷ calls) drivers ≡ roster_after nodes calls after
  roster_after_call call calls of_uid of_phase leaves =
      ap (λ (ds : List DriverState). roster_after nodes calls ds)
      (ap (λ (found : Option ReadyLeaf). leaf_called found call drivers) (ap (leaf_at nodes) of_uid ∙ is)
      ∙ (λ i. roster_called drivers leaf.driver (of_phase i) leaf.instance (leaves i)))

-- where a mark is set to what it was, marks stay right
pub marks_same : (kept : List Kept) (uid : ℕ) (now : Kept) → now.held ≡ (kept_at kept uid).held → marks_of (set kept uid now) ≡ marks_of kept
marks_same kept uid now same = map-set_same (λ (k : Kept). k.held) kept uid now at_rest same

-- calls, followed by others
pub roster_after_both : (nodes : List Node) (xs ys : List Call) (drivers : List DriverState) → roster_after nodes (xs ++ ys) drivers ≡ roster_after nodes ys (roster_after nodes xs drivers)
roster_after_both nodes [] ys drivers = refl
roster_after_both nodes (x ∷ xs) ys drivers = roster_after_both nodes xs ys (leaf_called (leaf_at nodes x.uid) x drivers)
