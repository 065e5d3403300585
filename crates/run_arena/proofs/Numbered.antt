-- Instances that were given in order are numbered by runner, and then by uid.
use Rattle.std.proofs.Common.{◌≡◌, ℕ, zero, suc, ◌+◌, ◌-◌, ◌*◌, ◌<◌, nat_eq, List, [], ◌∷◌, true, false, cond, inl, inr, Option, Some, None, map, length, get_or, set, take, replicate, refl, sym, ap, subst, ◌∙◌, arith}
use Rattle.std.specs.Prelude.{IfSome}
use Rattle.std.proofs.lemmas.Bool.{cases_eq}
use Rattle.std.proofs.lemmas.Bool.Decides.{nat_tests}
use Rattle.std.proofs.lemmas.List.{get_or-map, get_or-set_same, get_or-set_other, length-map, length-replicate, get_or-replicate}
use Rattle.std.proofs.lemmas.List.Sums.{sum_by-cons}
use Rattle.spec_world.specs.declared.world.World.{World}
use Rattle.spec_run.specs.Drivers.{DriverState, place_of_kind}
use Rattle.base_tables.specs.DriverCalls.{kind_of_way}
use Rattle.spec_run.specs.Leaves.{row_of}
use Rattle.run_driver.specs.Rules.{rule}
use Rattle.run_arena.specs.declared.nodes.Node.{Node}
use Rattle.run_arena.specs.declared.nodes.ReadyLeaf.{ReadyLeaf}
use Rattle.spec_run.specs.Joins.{is_place, leaves_served, place_by}
use Rattle.run_arena.specs.Laying.{AreNext, IsNext, counted_all, driver_of, next_after}
use Rattle.run_arena.specs.Nodes.{leaf_at, nobody}
use Rattle.run_arena.specs.Rosters.{AreNumbered, is_served_at, served}
use Rattle.run_arena.specs.Rows.{counted_at}
use Rattle.run_arena.proofs.Joined.{place_within}
use Rattle.run_arena.proofs.Whole.{next_length}

-- one leaf more is counted at its place alone
counted_there : (o : Option ℕ) (counts : List ℕ) (p : ℕ) → p < length counts → get_or (counted_at o counts) p 0 ≡ get_or counts p 0 + cond (is_place p o) 1 0
counted_there None counts p within = omega arith
counted_there (Some k) counts p within = elim (cases_eq p k) [
  | inl same ↦
      let test : nat_eq k p ≡ true = grind (arith, nat_tests) in
      ap (λ q. get_or (set counts k (get_or counts k 0 + 1)) q 0) same
      ∙ get_or-set_same counts k (get_or counts k 0 + 1) 0 (subst (λ q. q < length counts) same within)
      ∙ sym (ap (λ b. get_or counts p 0 + cond b 1 0) test ∙ ap (λ q. get_or counts q 0 + 1) same)
  | inr apart ↦
      let test : nat_eq k p ≡ false = grind (arith, nat_tests) in
      get_or-set_other counts k p (get_or counts k 0 + 1) 0 apart ∙ sym (ap (λ b. get_or counts p 0 + cond b 1 0) test ∙ omega arith)
]

served_is : (p : ℕ) (leaf : Option ReadyLeaf) → is_served_at p leaf ≡ is_place p (driver_of leaf)
served_is p None = refl
served_is p (Some leaf) = refl

served_cons : (p : ℕ) (node : Node) (nodes : List Node) → served p (node ∷ nodes) ≡ cond (is_place p (driver_of node.leaf)) 1 0 + served p nodes
served_cons p node nodes =
    sum_by-cons (λ (n : Node). cond (is_served_at p n.leaf) 1 0) node nodes ∙ ap (λ b. cond b 1 0 + served p nodes) (served_is p node.leaf)

-- after some nodes, as many more instances are taken as leaves are served
pub taken : (nodes : List Node) (next : List ℕ) (p : ℕ) → p < length next → get_or (next_after nodes next) p 0 ≡ get_or next p 0 + served p nodes
taken [] next p within = omega arith
taken (node ∷ nodes) next p within =
    let further = counted_at (driver_of node.leaf) next in
    omega (arith, taken nodes further p (omega (arith, within, next_length (driver_of node.leaf) next further refl)), counted_there (driver_of node.leaf) next p within, served_cons p node nodes)

module _ (world : World) (drivers : List DriverState) where
  abbrev place_for : List ℕ → Option ℕ
  place_for id = place_by (row_of world.rows id) drivers

  -- as many of the leaves of these IDs are counted
  pub counted : (ids : List (List ℕ)) (counts : List ℕ) (p : ℕ) → p < length counts → get_or (counted_all world drivers ids counts) p 0 ≡ get_or counts p 0 + leaves_served world.rows drivers p ids
  counted [] counts p within = omega arith
  counted (id ∷ ids) counts p within =
      let further = counted_at (place_for id) counts in
      omega (
        arith,
        counted ids further p (omega (arith, within, next_length (place_for id) counts further refl)),
        counted_there (place_for id) counts p within,
        sum_by-cons (λ (i : List ℕ). cond (is_place p (place_for i)) 1 0) id ids,
      )

  -- the leaf at a place has its driver, and its number among that driver's instances
  pub record HasNumber (next : List ℕ) (nodes : List Node) (k : ℕ) (leaf : ReadyLeaf) : Type 0 where
    pub driver : place_of_kind drivers (kind_of_way (rule leaf.row).way) ≡ Some leaf.driver
    pub number : leaf.instance ≡ get_or next leaf.driver 0 + served leaf.driver (take k nodes)

  first_number : (next : List ℕ) (found : Option ReadyLeaf) → IsNext drivers next found → IfSome found (HasNumber next [] 0)
  unfolding IsNext
  first_number next None is = tt
  first_number next (Some leaf) is = record { driver = is.0; number = omega (arith, is.1) }

  pub numbered_at : (nodes : List Node) (next : List ℕ) (k : ℕ) (leaf : ReadyLeaf) → length next ≡ length drivers → AreNext drivers next nodes → leaf_at nodes k ≡ Some leaf → HasNumber next nodes k leaf
  numbered_at [] next k leaf places are at = absurd (cc)
  numbered_at (node ∷ nodes) next zero leaf places are at =
      let first = subst (λ (o : Option ReadyLeaf). IfSome o (HasNumber next [] 0)) at (first_number next node.leaf are.0) in
      record { driver = first.driver; number = first.number }
  numbered_at (node ∷ nodes) next (suc k) leaf places are at =
      let further = counted_at (driver_of node.leaf) next in
      let same = next_length (driver_of node.leaf) next further refl in
      let rest = numbered_at nodes further k leaf (same ∙ places) are.1 at in
      let within : leaf.driver < length next = omega (arith, places, place_within drivers (kind_of_way (rule leaf.row).way) leaf.driver rest.driver) in
      record {
        driver = rest.driver;
        number = omega (arith, rest.number, counted_there (driver_of node.leaf) next leaf.driver within, served_cons leaf.driver node (take k nodes));
      }

  -- ---- the whole arena, whose place 0 is no node's

  first_is : (before : ℕ) (counts : List ℕ) (p : ℕ) → p < length counts → get_or (map (λ (count : ℕ). before * count) counts) p 0 ≡ before * get_or counts p 0
  first_is before counts p within = get_or-map (λ (count : ℕ). before * count) counts p 0 0 within

  module _ (runner : ℕ) (ids : List (List ℕ)) (nodes : List Node) (counts next left : List ℕ)
      (are_counts : counts ≡ counted_all world drivers ids (replicate (length drivers) 0)) (are_next : next ≡ map (λ (count : ℕ). (runner - 1) * count) counts)
      (next_ones : AreNext drivers next nodes) (following : left ≡ next_after nodes next) (all_counted : left ≡ counted_all world drivers ids next) (places : length counts ≡ length drivers) where
    next_places : length next ≡ length drivers
    next_places = ap length are_next ∙ length-map counts (λ (count : ℕ). (runner - 1) * count) ∙ places

    served_same : (p : ℕ) → p < length drivers → served p nodes ≡ leaves_served world.rows drivers p ids
    served_same p within =
        let inside : p < length next = omega (arith, within, next_places) in
        omega (arith, taken nodes next p inside, counted ids next p inside, ap (λ (xs : List ℕ). get_or xs p 0) following, ap (λ (xs : List ℕ). get_or xs p 0) all_counted)

    pub served_all : (p : ℕ) → p < length drivers → served p (nobody ∷ nodes) ≡ leaves_served world.rows drivers p ids
    served_all p within = omega (arith, served_cons p nobody nodes, served_same p within)

    count_is : (p : ℕ) → p < length drivers → get_or counts p 0 ≡ served p (nobody ∷ nodes)
    count_is p within =
        let zeros : ◌≡◌ {A = ℕ} (get_or {A = ℕ} (replicate {A = ℕ} (length drivers) 0) p 0) 0 = get_or-replicate {A = ℕ} (length drivers) p 0 0 within in
        omega (arith, ap (λ (xs : List ℕ). get_or xs p 0) are_counts, counted ids (replicate (length drivers) 0) p (omega (arith, within, length-replicate {A = ℕ} (length drivers) 0)), zeros, served_all p within)

    leaf_numbered : (uid : ℕ) (leaf : ReadyLeaf) → leaf_at (nobody ∷ nodes) uid ≡ Some leaf →
        (place_of_kind drivers (kind_of_way (rule leaf.row).way) ≡ Some leaf.driver) × (leaf.instance ≡ (runner - 1) * served leaf.driver (nobody ∷ nodes) + served leaf.driver (take uid (nobody ∷ nodes)))
    leaf_numbered zero leaf at = absurd (cc)
    leaf_numbered (suc k) leaf at =
        let has = numbered_at nodes next k leaf next_places next_ones at in
        let within : leaf.driver < length drivers = place_within drivers (kind_of_way (rule leaf.row).way) leaf.driver has.driver in
        let first : get_or next leaf.driver 0 ≡ (runner - 1) * served leaf.driver (nobody ∷ nodes) =
        ap (λ (xs : List ℕ). get_or xs leaf.driver 0) are_next ∙ first_is (runner - 1) counts leaf.driver (omega (arith, within, places)) ∙ ap (λ n. (runner - 1) * n) (count_is leaf.driver within) in
        (has.driver, has.number ∙ ap (λ n. n + served leaf.driver (take k nodes)) first ∙ omega (arith, served_cons leaf.driver nobody (take k nodes)))

    pub are_numbered : AreNumbered drivers runner (nobody ∷ nodes)
    are_numbered = record { driver = λ uid leaf at. (leaf_numbered uid leaf at).0; instance = λ uid leaf at. (leaf_numbered uid leaf at).1 }
