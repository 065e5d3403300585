-- Leaves that are numbered have instances of their own, where each driver was prepared for as many leaves as it
-- serves.
use Rattle.std.proofs.Common.{◌≡◌, ℕ, zero, suc, ◌+◌, ◌-◌, ◌*◌, ◌<◌, ◌≤◌, List, [], ◌∷◌, true, false, cond, if◌then◌else◌, inl, inr, Option, Some, None, length, get_or, take, refl, sym, ap, subst, ◌∙◌, arith}
use Rattle.std.specs.Option.{option_map}
use Rattle.std.proofs.Math.Nat.{add-mul, mul-le-mul_right}
use Rattle.std.proofs.lemmas.Bool.{cases_order}
use Rattle.std.proofs.lemmas.Bool.Decides.{nat_tests}
use Rattle.std.proofs.lemmas.List.{length-replicate}
use Rattle.std.proofs.lemmas.List.Sums.{sum_by-cons}
use Rattle.spec_run.specs.declared.leaf.DriverKind.{DriverKind}
use Rattle.spec_run.specs.declared.leaf.DriverKind.TheVariants as driver
use Rattle.spec_run.specs.declared.leaf.Instance.{Instance}
use Rattle.spec_run.specs.Drivers.{DriverState, driver_at, place_of_kind, roster_prepared, same_kind}
use Rattle.base_tables.specs.DriverCalls.{kind_of_way}
use Rattle.spec_run.specs.Leaf.{fresh}
use Rattle.run_driver.specs.Rules.{rule}
use Rattle.run_arena.specs.declared.nodes.Node.{Node}
use Rattle.run_arena.specs.declared.nodes.ReadyLeaf.{ReadyLeaf}
use Rattle.run_arena.specs.Nodes.{leaf_at}
use Rattle.run_arena.specs.Rosters.{AreNumbered, AreServed, is_served_at, served}
use Rattle.run_arena.proofs.Joined.{place_within}

-- ---- drivers that were prepared

prepared_count : (ds : List DriverState) (counts : List ℕ) → length (roster_prepared ds counts) ≡ length ds
prepared_count [] [] = refl
prepared_count [] (n ∷ ns) = refl
prepared_count (d ∷ ds) [] = refl
prepared_count (d ∷ ds) (n ∷ ns) = ap suc (prepared_count ds ns)

prepared_at : (ds : List DriverState) (counts : List ℕ) (p : ℕ) → p < length ds → length counts ≡ length ds
    → (length (driver_at (roster_prepared ds counts) p).table ≡ get_or counts p 0) × ((driver_at (roster_prepared ds counts) p).kind ≡ (driver_at ds p).kind)
prepared_at [] counts p within same = absurd (omega (arith, within))
prepared_at (d ∷ ds) [] p within same = absurd (omega (arith, same))
prepared_at (d ∷ ds) (n ∷ ns) zero within same = (length-replicate {A = Instance} n fresh, refl)
prepared_at (d ∷ ds) (n ∷ ns) (suc p) within same = prepared_at ds ns p (omega (arith, within)) (omega (arith, same))

same_kinds : (a b : DriverKind) → same_kind a b ≡ true → a ≡ b
same_kinds driver.Condition driver.Condition is = refl
same_kinds driver.Timed driver.Timed is = refl
same_kinds driver.Replay driver.Replay is = refl
same_kinds driver.Gate driver.Gate is = refl
same_kinds driver.Told driver.Told is = refl
same_kinds _ _ is = absurd (cc)

abbrev HasKind : List DriverState → DriverKind → Option ℕ → Type 0
HasKind ds kind (Some p) = (driver_at ds p).kind ≡ kind
HasKind ds kind None = Unit {0}

kind_later : (d : DriverState) (ds : List DriverState) (kind : DriverKind) (o : Option ℕ) → HasKind ds kind o → HasKind (d ∷ ds) kind (option_map (λ p. p + 1) o)
kind_later d ds kind None has = tt
kind_later d ds kind (Some p) has = let e : suc p ≡ p + 1 = omega arith in subst (λ q. (driver_at (d ∷ ds) q).kind ≡ kind) e has

kind_found : (ds : List DriverState) (kind : DriverKind) → HasKind ds kind (place_of_kind ds kind)
kind_found [] kind = tt
kind_found (d ∷ ds) kind =
    elim (same_kind d.kind kind) as (λ b. same_kind d.kind kind ≡ b → HasKind (d ∷ ds) kind (if b then Some 0 else option_map (λ p. p + 1) (place_of_kind ds kind))) [
      | true ↦ λ is. same_kinds d.kind kind is
      | false ↦ λ _. kind_later d ds kind (place_of_kind ds kind) (kind_found ds kind)
    ] refl

-- ---- leaves that a driver serves

served_cons : (p : ℕ) (node : Node) (nodes : List Node) → served p (node ∷ nodes) ≡ cond (is_served_at p node.leaf) 1 0 + served p nodes
served_cons p node nodes = sum_by-cons (λ (n : Node). cond (is_served_at p n.leaf) 1 0) node nodes

serves_own : (leaf : ReadyLeaf) → is_served_at leaf.driver (Some leaf) ≡ true
serves_own leaf = grind (arith, nat_tests)

-- a leaf is counted among the nodes up to any later one
served_following : (nodes : List Node) (uid : ℕ) (leaf : ReadyLeaf) (more : ℕ) → leaf_at nodes uid ≡ Some leaf → uid < more → served leaf.driver (take uid nodes) + 1 ≤ served leaf.driver (take more nodes)
served_following [] uid leaf more at before = absurd (cc)
served_following (n ∷ nodes) uid leaf zero at before = absurd (omega (arith, before))
served_following (n ∷ nodes) zero leaf (suc more) at before =
    let own : is_served_at leaf.driver n.leaf ≡ true = ap (is_served_at leaf.driver) at ∙ serves_own leaf in
    let one_more : ◌≡◌ {A = ℕ} (cond (is_served_at leaf.driver n.leaf) 1 0) 1 = ap {B = ℕ} (λ b. cond {A = ℕ} b 1 0) own in
    omega (arith, served_cons leaf.driver n (take more nodes), one_more)
served_following (n ∷ nodes) (suc uid) leaf (suc more) at before =
    omega (arith, served_following nodes uid leaf more at (omega (arith, before)), served_cons leaf.driver n (take uid nodes), served_cons leaf.driver n (take more nodes))

served_all : (nodes : List Node) (uid : ℕ) (leaf : ReadyLeaf) → leaf_at nodes uid ≡ Some leaf → served leaf.driver (take uid nodes) + 1 ≤ served leaf.driver nodes
served_all [] uid leaf at = absurd (cc)
served_all (n ∷ nodes) zero leaf at =
    let own : is_served_at leaf.driver n.leaf ≡ true = ap (is_served_at leaf.driver) at ∙ serves_own leaf in
    let one_more : ◌≡◌ {A = ℕ} (cond (is_served_at leaf.driver n.leaf) 1 0) 1 = ap {B = ℕ} (λ b. cond {A = ℕ} b 1 0) own in
    omega (arith, served_cons leaf.driver n nodes, one_more)
served_all (n ∷ nodes) (suc uid) leaf at =
    omega (arith, served_all nodes uid leaf at, served_cons leaf.driver n (take uid nodes), served_cons leaf.driver n nodes)

-- ---- the arena of a runner

module _ (drivers : List DriverState) (nodes : List Node) (counts : List ℕ) (runner runners : ℕ) (numbered : AreNumbered drivers runner nodes) (first : 1 ≤ runner) (last : runner ≤ runners)
    (places : length counts ≡ length drivers) (enough : (p : ℕ) → p < length drivers → get_or counts p 0 ≡ runners * served p nodes) where
  apart : (uid other : ℕ) (a b : ReadyLeaf) → leaf_at nodes uid ≡ Some a → leaf_at nodes other ≡ Some b → a.driver ≡ b.driver → a.instance ≡ b.instance → uid < other → ⊥
  apart uid other a b at_a at_b same_driver same_instance before =
      let one = numbered.instance uid a at_a in
      let two = subst (λ p. b.instance ≡ (runner - 1) * served p nodes + served p (take other nodes)) (sym same_driver) (numbered.instance other b at_b) in
      let more = served_following nodes uid a other at_a before in
      omega (arith, one, two, more, same_instance)

  pub numbered_are_served : AreServed (roster_prepared drivers counts) nodes
  numbered_are_served = record {
    served = λ uid leaf at.
        let kind = kind_of_way (rule leaf.row).way in
        let found = numbered.driver uid leaf at in
        let within = place_within drivers kind leaf.driver found in
        let made = prepared_at drivers counts leaf.driver within places in
        let whole : (runner - 1 + 1) * served leaf.driver nodes ≤ runners * served leaf.driver nodes = mul-le-mul_right (served leaf.driver nodes) (omega (arith, first, last)) in
        let spread : (runner - 1 + 1) * served leaf.driver nodes ≡ (runner - 1) * served leaf.driver nodes + 1 * served leaf.driver nodes = add-mul (runner - 1) 1 (served leaf.driver nodes) in
        record {
          there = (omega (arith, within, prepared_count drivers counts), omega (arith, made.0, enough leaf.driver within, numbered.instance uid leaf at, served_all nodes uid leaf at, whole, spread));
          kind = sym (made.1 ∙ subst (HasKind drivers kind) found (kind_found drivers kind));
        };
    own = λ uid other a b at_a at_b same_driver same_instance. elim (cases_order uid other) [
      | inl same ↦ same
      | inr more ↦ elim more [
        | inl before ↦ absurd (apart uid other a b at_a at_b same_driver same_instance before)
        | inr following ↦ absurd (apart other uid b a at_b at_a (sym same_driver) (sym same_instance) following)
      ]
    ];
  }
