-- The conditions of a plan tree, as they are listed.
use Rattle.std.proofs.Common.{◌≡◌, ◌≢◌, ℕ, ◌+◌, ◌≤◌, ◌==◌, nat_eq, Bool, List, [], ◌∷◌, length, Option, Some, refl, ap, ◌∙◌, arith}
use Rattle.std.specs.Prelude.{option_map}
use Rattle.std.specs.List.{AllByRecursion, filter, range_with_len}
use Rattle.std.specs.Option.{option_or}
use Rattle.std.proofs.lemmas.List.{length-append}
use Rattle.spec_run.specs.declared.note.Note.{Note}
use Rattle.spec_plan.specs.declared.part.Part.{Part}
use Rattle.spec_plan.specs.declared.part.Part.TheVariants.{Goals, Sequence, Fallback, Condition, Action}
use Rattle.spec_plan.specs.Forests.{Forest, Empty, Tree, node_at, part_at, times}
use Rattle.plan_tree.specs.Sizes.{size}
use Rattle.plan_tree.specs.Stands.{IsConditionOf}
use Rattle.plan_tree.proofs.Counted.{chosen, none_at, one_same, skipped, test_other, test_same}
use Rattle.plan_tree.proofs.Expansions.{node_counts, part_node}
use Rattle.spec_plan.specs.declared.places.Place.{Place}
use Rattle.spec_plan.specs.declared.places.Spot.{Spot}
use Rattle.spec_plan.specs.Failing.{at_level, conditions, failed, has_failed, levels, own_place, places_from, spots_from}
use Rattle.plan_search.specs.Grown.{AreConditions}
use Rattle.plan_search.specs.Marked.{is_marked}
use Rattle.plan_reorder.proofs.Elements.{all_both, all_filter, all_flat}
use Rattle.plan_search.proofs.Listed.{filter_same}

-- ---- Nodes

pub length-spots : (level : ℕ) (f : Forest) → length (spots_from level f) ≡ size f
length-spots level Empty = refl
length-spots level (Tree key part below rest) =
    let lower = length-spots (level + 1) below in
    let later = length-spots level rest in
    let both = length-append (spots_from (level + 1) below) (spots_from level rest) in
    omega (arith, lower, later, both)

module _ (key : ℕ) (part : Part) (below rest : Forest) (apart : (k : ℕ) → times k (Tree key part below rest) ≤ 1) where
  abbrev whole : Forest
  whole = Tree key part below rest

  pub own_part : part_at key whole ≡ Some part
  own_part = ap (λ (o : Option (Part × Forest)). option_map (λ (n : Part × Forest). n.0) o) (chosen (nat_eq key key) (Some (part, below)) (option_or (node_at key below) (node_at key rest)) (test_same key key refl))

  other_node : (k : ℕ) → key ≢ k → node_at k whole ≡ option_or (node_at k below) (node_at k rest)
  other_node k differs = skipped (nat_eq key k) (Some (part, below)) (option_or (node_at k below) (node_at k rest)) (test_other key k differs)

  pub below_part : (k : ℕ) (x : Part) → part_at k below ≡ Some x → part_at k whole ≡ Some x
  below_part k x is =
      let node = part_node k below x is in
      let has = node_counts k below (x, node.0) node.1 in
      let once = apart k in
      let differs : key ≢ k = λ e. absurd (omega (arith, has, once, one_same key k e)) in
      ap (λ (o : Option (Part × Forest)). option_map (λ (n : Part × Forest). n.0) o) (other_node k differs ∙ ap (λ (o : Option (Part × Forest)). option_or o (node_at k rest)) node.1)

  pub rest_part : (k : ℕ) (x : Part) → part_at k rest ≡ Some x → part_at k whole ≡ Some x
  rest_part k x is =
      let node = part_node k rest x is in
      let has = node_counts k rest (x, node.0) node.1 in
      let once = apart k in
      let differs : key ≢ k = λ e. absurd (omega (arith, has, once, one_same key k e)) in
      ap (λ (o : Option (Part × Forest)). option_map (λ (n : Part × Forest). n.0) o)
      (other_node k differs ∙ ap (λ (o : Option (Part × Forest)). option_or o (node_at k rest)) (none_at k below (omega (arith, has, once))) ∙ node.1)

module _ (tree : Forest) where
  abbrev IsSpot : Spot → Type 0
  IsSpot s = part_at s.key tree ≡ Some s.part

  spots_are : (level : ℕ) (f : Forest) → ((k : ℕ) → times k f ≤ 1) → ((k : ℕ) (x : Part) → part_at k f ≡ Some x → part_at k tree ≡ Some x) → AllByRecursion IsSpot (spots_from level f)
  spots_are level Empty apart inside = tt
  spots_are level (Tree key part below rest) apart inside = (
    inside key part (own_part key part below rest apart),
    all_both IsSpot (spots_from (level + 1) below) (spots_from level rest)
        (spots_are (level + 1) below (λ (k : ℕ). let once = apart k in omega (arith, once)) (λ (k : ℕ) (x : Part) is. inside k x (below_part key part below rest apart k x is)))
        (spots_are level rest (λ (k : ℕ). let once = apart k in omega (arith, once)) (λ (k : ℕ) (x : Part) is. inside k x (rest_part key part below rest apart k x is))),
  )

  abbrev IsPlace : Place → Type 0
  IsPlace c = IsConditionOf tree c.key

  own_is : (uid key level : ℕ) (part : Part) → part_at key tree ≡ Some part → AllByRecursion IsPlace (own_place uid key level part)
  own_is uid key level (Condition row) is = ((row, is), tt)
  own_is uid key level Goals is = tt
  own_is uid key level (Sequence row) is = tt
  own_is uid key level Fallback is = tt
  own_is uid key level (Action row) is = tt

  places_are : (uid : ℕ) (spots : List Spot) → AllByRecursion IsSpot spots → AllByRecursion IsPlace (places_from uid spots)
  places_are uid [] all = tt
  places_are uid (s ∷ spots) all =
      all_both IsPlace (own_place uid s.key s.level s.part) (places_from (uid + 1) spots) (own_is uid s.key s.level s.part all.0) (places_are (uid + 1) spots all.1)

  -- what failed are conditions of the tree
  pub failed_are : (notes : List Note) → ((k : ℕ) → times k tree ≤ 1) → AreConditions tree (failed tree notes)
  failed_are notes apart =
      let marked = filter (λ (c : Place). has_failed notes c.uid) (conditions tree) in
      all_flat IsPlace (at_level marked) (range_with_len 0 (levels marked))
      (λ (level : ℕ). all_filter IsPlace (λ (c : Place). c.level == level) marked
      (all_filter IsPlace (λ (c : Place). has_failed notes c.uid) (conditions tree)
      (places_are 1 (spots_from 0 tree) (spots_are 0 tree apart (λ (k : ℕ) (x : Part) is. is)))))

-- ---- Marks

own_few : (n uid key level : ℕ) (part : Part) → uid ≤ n → AllByRecursion (λ (c : Place). c.uid ≤ n) (own_place uid key level part)
own_few n uid key level (Condition row) few = (few, tt)
own_few n uid key level Goals few = tt
own_few n uid key level (Sequence row) few = tt
own_few n uid key level Fallback few = tt
own_few n uid key level (Action row) few = tt

numbers_few : (n uid : ℕ) (spots : List Spot) → uid + length spots ≤ n + 1 → AllByRecursion (λ (c : Place). c.uid ≤ n) (places_from uid spots)
numbers_few n uid [] few = tt
numbers_few n uid (s ∷ spots) few =
    all_both (λ (c : Place). c.uid ≤ n) (own_place uid s.key s.level s.part) (places_from (uid + 1) spots)
    (own_few n uid s.key s.level s.part (omega (arith, few))) (numbers_few n (uid + 1) spots (omega (arith, few)))

-- the conditions that are marked are those that failed
pub marked_are : (tree : Forest) (notes : List Note) (marks : List Bool) → ((uid : ℕ) → uid ≤ size tree → is_marked marks uid ≡ has_failed notes uid) →
    filter (λ (c : Place). is_marked marks c.uid) (conditions tree) ≡ filter (λ (c : Place). has_failed notes c.uid) (conditions tree)
marked_are tree notes marks same =
    filter_same (λ (c : Place). c.uid ≤ size tree) (λ (c : Place). is_marked marks c.uid) (λ (c : Place). has_failed notes c.uid) (conditions tree) (λ (c : Place) few. same c.uid few)
    (numbers_few (size tree) 1 (spots_from 0 tree) (let many = length-spots 0 tree in omega (arith, many)))

-- what is found where the nodes are listed and marked
pub found_failed : (tree : Forest) (notes : List Note) (nodes : ℕ) → nodes ≡ size tree → (marks : List Bool) → ((uid : ℕ) → uid ≤ nodes → is_marked marks uid ≡ has_failed notes uid) →
    (spots : List Spot) → spots ≡ spots_from 0 tree → filter (λ (c : Place). is_marked marks c.uid) (places_from 1 spots) ≡ filter (λ (c : Place). has_failed notes c.uid) (conditions tree)
found_failed tree notes nodes many marks same spots are =
    ap (λ (l : List Spot). filter (λ (c : Place). is_marked marks c.uid) (places_from 1 l)) are
    ∙ marked_are tree notes marks (λ (uid : ℕ) low. same uid (omega (arith, low, many)))
