-- An arena's leaves have the drivers and the instances that the tree and the world give them.
use Rattle.std.proofs.Common.{◌≡◌, inl, inr, ℕ, zero, suc, ◌+◌, ◌-◌, ◌*◌, ◌<◌, ◌≤◌, List, [], ◌∷◌, Bool, true, cond, if◌then◌else◌, Option, Some, None, map, length, get_or, slice_get, take, refl, sym, ap, subst, ◌∙◌, arith}
use Rattle.std.proofs.Math.ListN.{get_or-map}
use Rattle.std.proofs.Math.Nat.{add-mul, mul-le-mul_right}
use Rattle.std.proofs.lemmas.Bool.{cases_lt, cases_order, le-leb, lt-leb}
use Rattle.std.proofs.lemmas.Bool.Decides.{nat_tests}
use Rattle.std.proofs.lemmas.List.{get_or_past, length-map, take-map}
use Rattle.std.proofs.lemmas.List.Sums.{sum_by-cons}
use Rattle.std.proofs.lemmas.Option.{get_or_from_slice_get, slice_get-map}
use Rattle.std.specs.Option.{option_map}
use Rattle.spec_tree.specs.declared.term.Tree.{Tree}
use Rattle.spec_world.specs.declared.world.World.{World}
use Rattle.spec_run.specs.Drivers.{DriverState, roster_called}
use Rattle.base_tables.specs.DriverCalls.{kind_of_way}
use Rattle.spec_run.specs.Run.{RunnerCall, root_view}
use Rattle.spec_tree.specs.Terms.{node_count}
use Rattle.spec_tree.specs.Trees.{nodes_of}
use Rattle.run_driver.specs.Rules.{rule}
use Rattle.run_arena.specs.declared.arena.Arena.{Arena}
use Rattle.run_arena.specs.declared.nodes.Node.{Node}
use Rattle.run_arena.specs.declared.nodes.ReadyLeaf.{ReadyLeaf}
use Rattle.spec_run.specs.Joins.{is_place}
use Rattle.run_arena.specs.Laying.{driver_of}
use Rattle.run_arena.specs.Made.{IsArenaOf}
use Rattle.run_arena.specs.Nodes.{leaf_at, nobody}
use Rattle.run_arena.specs.Rosters.{is_served_at, leaf_called, served}
use Rattle.run_arena.proofs.Joined.{place_within}
use Rattle.run_loop.specs.declared.runs.ReadyRunner.{ReadyRunner}
use Rattle.run_loop.specs.Opening.{AreOpening}
use Rattle.run_loop.specs.Runs.{AreApart, arenas_in, nodes_of_runner, roster_over}
use Rattle.spec_run.specs.Served.{call_made, calls_made, instance_number, place_called, place_serving, served_among, serving_places}
use Rattle.run_loop.proofs.Lists.{entry, within}
use Rattle.run_loop.proofs.Matched.{all_said, said_from}
use Rattle.run_loop.proofs.Places.{HasFirst, leaves_counted, placed}

-- ---- Counts

among_cons : (place : ℕ) (p : Option ℕ) (ps : List (Option ℕ)) → served_among place (p ∷ ps) ≡ cond (is_place place p) 1 0 + served_among place ps
among_cons place p ps = sum_by-cons (λ (q : Option ℕ). cond (is_place place q) 1 0) p ps

served_is : (place : ℕ) (leaf : Option ReadyLeaf) → is_served_at place leaf ≡ is_place place (driver_of leaf)
served_is place None = refl
served_is place (Some leaf) = refl

-- the leaves that a driver serves, by the places of the nodes' drivers
served_by_places : (place : ℕ) (nodes : List Node) → served place nodes ≡ served_among place (map (λ (node : Node). driver_of node.leaf) nodes)
served_by_places place [] = refl
served_by_places place (n ∷ nodes) =
    let places : List (Option ℕ) = map (λ (node : Node). driver_of node.leaf) nodes in
    sum_by-cons (λ (node : Node). cond {A = ℕ} (is_served_at place node.leaf) 1 0) n nodes
    ∙ (λ i. cond {A = ℕ} (served_is place n.leaf i) 1 0 + served_by_places place nodes i)
    ∙ sym (among_cons place (driver_of n.leaf) places)

-- a node that is served is counted after those before it
counted_after : (places : List (Option ℕ)) (uid place : ℕ) → get_or places uid None ≡ Some place → served_among place (take uid places) + 1 ≤ served_among place places
counted_after [] uid place at = absurd (cc)
counted_after (p ∷ ps) zero place at =
    let own : is_place place p ≡ true = ap (is_place place) at ∙ grind (arith, nat_tests) in
    let one : ◌≡◌ {A = ℕ} (cond (is_place place p) 1 0) 1 = ap {B = ℕ} (λ b. cond {A = ℕ} b 1 0) own in
    omega (arith, among_cons place p ps, one)
counted_after (p ∷ ps) (suc uid) place at =
    omega (arith, counted_after ps uid place at, among_cons place p (take uid ps), among_cons place p ps)

-- ---- One arena

module _ (tree : Tree) (world : World) (drivers : List DriverState) where
  abbrev places : List (Option ℕ)
  places = serving_places tree world drivers

  -- the places of the nodes of a tree, without place 0
  abbrev below : List (Option ℕ)
  below = map (place_serving world drivers) (nodes_of tree.term)

  module _ (number : ℕ) (arena : Arena) (is : IsArenaOf tree world drivers number arena) where
    abbrev nodes : List Node
    nodes = arena.nodes.items

    first_of : (found : Option ReadyLeaf) → ((leaf : ReadyLeaf) → found ≡ Some leaf → HasFirst world drivers (Some leaf)) → HasFirst world drivers found
    first_of None each = tt
    first_of (Some leaf) each = each leaf refl

    first_at : (uid : ℕ) → HasFirst world drivers (leaf_at nodes uid)
    first_at uid = first_of (leaf_at nodes uid) (λ leaf at. is.numbered.driver uid leaf at)

    -- the places of all nodes
    all_are : map (λ (node : Node). driver_of node.leaf) nodes ≡ driver_of (leaf_at nodes 0) ∷ below
    all_are =
        let count : length nodes ≡ suc (node_count tree.term) = omega (arith, is.size) in
        all_said driver_of nodes
        ∙ ap (said_from driver_of nodes 0) count
        ∙ ap (λ (ps : List (Option ℕ)). driver_of (leaf_at nodes 0) ∷ ps) (placed world drivers nodes first_at tree.term (root_view tree world) 1 refl is.stands)

    nobody_by : (found : Option ReadyLeaf) → leaf_at nodes 0 ≡ found → found ≡ None
    nobody_by None at = refl
    nobody_by (Some leaf) at =
        let place : ℕ = leaf.driver in
        let low : place < length drivers = place_within drivers (kind_of_way (rule leaf.row).way) place (is.numbered.driver 0 leaf at) in
        let own : is_place place (driver_of (leaf_at nodes 0)) ≡ true = ap (λ (o : Option ReadyLeaf). is_place place (driver_of o)) at ∙ grind (arith, nat_tests) in
        let one : ◌≡◌ {A = ℕ} (cond (is_place place (driver_of (leaf_at nodes 0))) 1 0) 1 = ap {B = ℕ} (λ b. cond {A = ℕ} b 1 0) own in
        let whole : served place nodes ≡ served_among place (driver_of (leaf_at nodes 0) ∷ below) = served_by_places place nodes ∙ ap (served_among place) all_are in
        absurd (omega (arith, whole, among_cons place (driver_of (leaf_at nodes 0)) below, one, is.serves place low, leaves_counted world drivers place tree.term))

    -- place 0 is no leaf's
    pub nobody_first : leaf_at nodes 0 ≡ None
    nobody_first = nobody_by (leaf_at nodes 0) refl

    -- the places are those that the tree and the world give
    pub places_are : map (λ (node : Node). driver_of node.leaf) nodes ≡ places
    places_are = all_are ∙ ap (λ (o : Option ReadyLeaf). driver_of o ∷ below) nobody_first

    pub place_is : (uid : ℕ) → driver_of (leaf_at nodes uid) ≡ get_or places uid None
    place_is uid = sym (get_or-map (λ (node : Node). driver_of node.leaf) nodes uid nobody) ∙ ap (λ (ps : List (Option ℕ)). get_or ps uid None) places_are

    served_whole : (place : ℕ) → served place nodes ≡ served_among place places
    served_whole place = served_by_places place nodes ∙ ap (served_among place) places_are

    served_before : (place uid : ℕ) → served place (take uid nodes) ≡ served_among place (take uid places)
    served_before place uid =
        served_by_places place (take uid nodes)
        ∙ ap (served_among place) (sym (take-map (λ (node : Node). driver_of node.leaf) uid nodes) ∙ ap (λ (ps : List (Option ℕ)). take uid ps) places_are)

    -- and so are the instances
    pub instance_is : (uid : ℕ) (leaf : ReadyLeaf) → leaf_at nodes uid ≡ Some leaf → leaf.instance ≡ instance_number places number leaf.driver uid
    instance_is uid leaf at = is.numbered.instance uid leaf at ∙ (λ i. (number - 1) * served_whole leaf.driver i + served_before leaf.driver uid i)

    -- a call for a leaf of the arena
    call_by : (c : RunnerCall) (found : Option ReadyLeaf) → c.runner - 1 ≡ number - 1 → leaf_at nodes c.call.uid ≡ found → (ds : List DriverState) →
        leaf_called found c.call ds ≡ call_made (driver_of found) places c ds
    call_by c None same at ds = refl
    call_by c (Some leaf) same at ds =
        let instance : leaf.instance ≡ instance_number places c.runner leaf.driver c.call.uid =
        instance_is c.call.uid leaf at ∙ ap (λ n. n * served_among leaf.driver places + served_among leaf.driver (take c.call.uid places)) (sym same) in
        ap (λ n. roster_called ds leaf.driver c.call.phase n c.call.left) instance

    pub call_is : (c : RunnerCall) → c.runner - 1 ≡ number - 1 → (ds : List DriverState) → leaf_called (leaf_at nodes c.call.uid) c.call ds ≡ call_made (get_or places c.call.uid None) places c ds
    call_is c same ds = call_by c (leaf_at nodes c.call.uid) same refl ds ∙ ap (λ (p : Option ℕ). call_made p places c ds) (place_is c.call.uid)

  -- ---- All arenas

  module _ (runners : List ReadyRunner) (are : AreOpening tree world drivers runners) where
    abbrev nodes_in : ReadyRunner → List Node
    nodes_in r = r.arena.nodes.items

    nodes_at : (k : ℕ) (r : ReadyRunner) → slice_get runners k ≡ Some r → get_or (arenas_in runners) k [] ≡ nodes_in r
    nodes_at k r at = get_or_from_slice_get (arenas_in runners) k (nodes_in r) [] (slice_get-map nodes_in runners k ∙ ap (option_map nodes_in) at)

    call_there : (c : RunnerCall) (ds : List DriverState) → 1 ≤ length runners → c.runner ≤ length runners →
        leaf_called (leaf_at (nodes_of_runner (arenas_in runners) c.runner) c.call.uid) c.call ds ≡ call_made (get_or places c.call.uid None) places c ds
    call_there c ds some there =
        let k : ℕ = c.runner - 1 in
        let r : (r : ReadyRunner) × (slice_get runners k ≡ Some r) = entry runners k (omega (arith, some, there)) in
        let same : c.runner - 1 ≡ c.runner - 1 + 1 - 1 = omega arith in
        ap (λ (ns : List Node). leaf_called (leaf_at ns c.call.uid) c.call ds) (nodes_at k r.0 r.1)
        ∙ call_is (k + 1) r.0.arena (are k r.0 r.1).arena c same ds

    -- a runner that is not there has no nodes
    call_past : (c : RunnerCall) (ds : List DriverState) → length runners < c.runner → leaf_called (leaf_at (nodes_of_runner (arenas_in runners) c.runner) c.call.uid) c.call ds ≡ ds
    call_past c ds past =
        ap (λ (ns : List Node). leaf_called (leaf_at ns c.call.uid) c.call ds)
        (get_or_past (arenas_in runners) (c.runner - 1) [] (omega (arith, past, length-map runners nodes_in)))

    one_call : (c : RunnerCall) (ds : List DriverState) → 1 ≤ length runners →
        leaf_called (leaf_at (nodes_of_runner (arenas_in runners) c.runner) c.call.uid) c.call ds ≡ call_made (place_called (length runners) places c) places c ds
    one_call c ds some = elim (cases_lt (length runners) c.runner) [
      | inl past ↦
          call_past c ds past
          ∙ sym (ap (λ (b : Bool). call_made (if b then get_or places c.call.uid None else None) places c ds) (lt-leb c.runner (length runners) past))
      | inr there ↦
          call_there c ds some there
          ∙ sym (ap (λ (b : Bool). call_made (if b then get_or places c.call.uid None else None) places c ds) (le-leb c.runner (length runners) there))
    ]

    -- calls for leaves of the arenas are those that the tree and the world give
    pub calls_are : 1 ≤ length runners → (calls : List RunnerCall) (ds : List DriverState) → roster_over (arenas_in runners) calls ds ≡ calls_made (length runners) places calls ds
    calls_are some [] ds = refl
    calls_are some (c ∷ calls) ds =
        ap (roster_over (arenas_in runners) calls) (one_call c ds some)
        ∙ calls_are some calls (call_made (place_called (length runners) places c) places c ds)

    -- ---- No two runners have an instance in common

    ordered : (k other s a b : ℕ) → k < other → a + 1 ≤ s → b + 1 ≤ s → k * s + a ≡ other * s + b → ⊥
    ordered k other s a b before first second same =
        let whole : (k + 1) * s ≤ other * s = mul-le-mul_right s (omega (arith, before)) in
        let spread : (k + 1) * s ≡ k * s + 1 * s = add-mul k 1 s in
        omega (arith, whole, spread, first, second, same)

    numbered : (k uid : ℕ) (r : ReadyRunner) (x : ReadyLeaf) → slice_get runners k ≡ Some r → leaf_at (nodes_in r) uid ≡ Some x →
        (x.instance ≡ k * served_among x.driver places + served_among x.driver (take uid places)) × (served_among x.driver (take uid places) + 1 ≤ served_among x.driver places)
    numbered k uid r x at leaf =
        let arena = (are k r at).arena in
        let before : k + 1 - 1 ≡ k = omega arith in (
          instance_is (k + 1) r.arena arena uid x leaf ∙ ap (λ n. n * served_among x.driver places + served_among x.driver (take uid places)) before,
          counted_after places uid x.driver (sym (place_is (k + 1) r.arena arena uid) ∙ ap driver_of leaf),
        )

    runner_of : (k : ℕ) (a : List Node) → slice_get (arenas_in runners) k ≡ Some a → (r : ReadyRunner) × (slice_get runners k ≡ Some r) × (nodes_in r ≡ a)
    runner_of k a at =
        let low : k < length runners = omega (arith, within (arenas_in runners) k a at, length-map runners nodes_in) in
        let r : (r : ReadyRunner) × (slice_get runners k ≡ Some r) = entry runners k low in
        let found : Some (nodes_in r.0) ≡ Some a = sym (slice_get-map nodes_in runners k ∙ ap (option_map nodes_in) r.1) ∙ at in
        let same : nodes_in r.0 ≡ a = cc in
        (r.0, r.1, same)

    pub are_apart : AreApart (arenas_in runners)
    are_apart k other uid p a b x y at_k at_other at_uid at_p same_driver same_instance =
        let r = runner_of k a at_k in
        let q = runner_of other b at_other in
        let one = numbered k uid r.0 x r.1 (ap (λ (ns : List Node). leaf_at ns uid) r.2 ∙ at_uid) in
        let two = numbered other p q.0 y q.1 (ap (λ (ns : List Node). leaf_at ns p) q.2 ∙ at_p) in
        let s : ℕ = served_among x.driver places in
        let here : ℕ = served_among x.driver (take uid places) in
        let there : ℕ = served_among x.driver (take p places) in
        let two_is : y.instance ≡ other * s + there = two.0 ∙ ap (λ d. other * served_among d places + served_among d (take p places)) (sym same_driver) in
        let two_low : there + 1 ≤ s = subst (λ d. served_among d (take p places) + 1 ≤ served_among d places) (sym same_driver) two.1 in
        let same : k * s + here ≡ other * s + there = sym one.0 ∙ same_instance ∙ two_is in
        elim (cases_order k other) [
          | inl equal ↦ equal
          | inr apart ↦ elim apart [
            | inl before ↦ absurd (ordered k other s here there before one.1 two_low same)
            | inr following ↦ absurd (ordered other k s there here following two_low one.1 (sym same))
          ]
        ]
