-- An arena that was made of the first runner's.
use Rattle.std.proofs.Common.{◌≡◌, ℕ, zero, suc, ◌+◌, ◌-◌, ◌*◌, ◌<◌, List, [], ◌∷◌, Bool, cond, Option, Some, None, map, length, take, replicate, get_or, max, refl, sym, ap, subst, ◌∙◌, arith}
use Rattle.std.specs.Prelude.{MatchOption}
use Rattle.std.specs.Vec.{vec_capacity}
use Rattle.std.proofs.lemmas.List.{length-map, length-replicate, get_or-replicate, take-map}
use Rattle.std.proofs.lemmas.List.Sums.{sum_by-cons}
use Rattle.spec_tree.specs.declared.term.Port.{Port}
use Rattle.spec_tree.specs.declared.term.Term.{Term, Term-F, ind-Term}
use Rattle.spec_tree.specs.declared.term.Tree.{Tree}
use Rattle.spec_tree.specs.Terms.{depth_of, node_count}
use Rattle.spec_tree.specs.Trees.{Node as TreeNode}
use Rattle.spec_world.specs.declared.world.Row.{Row}
use Rattle.spec_world.specs.declared.world.World.{World}
use Rattle.spec_run.specs.Drivers.{DriverState, place_of_kind}
use Rattle.spec_run.specs.Leaves.{row_of}
use Rattle.spec_run.specs.Run.{root_view}
use Rattle.spec_run.specs.Sites.{View, sizes}
use Rattle.spec_run.specs.Visit.{meaning}
use Rattle.base_tables.specs.DriverCalls.{kind_of_way}
use Rattle.run_driver.specs.Rules.{rule}
use Rattle.run_arena.specs.declared.arena.Arena.{Arena}
use Rattle.run_arena.specs.declared.nodes.Node.{Node}
use Rattle.run_arena.specs.declared.nodes.ReadyLeaf.{ReadyLeaf}
use Rattle.run_arena.specs.Copying.{leaf_moved, node_moved}
use Rattle.run_arena.specs.Laying.{next_after}
use Rattle.run_arena.specs.Made.{IsArenaOf}
use Rattle.run_arena.specs.Nodes.{IsLeafOf, IsNode, LeafStands, at_rest, leaf_at, node_at}
use Rattle.run_arena.specs.Rosters.{AreNumbered, is_served_at, served}
use Rattle.run_arena.specs.Stands.{StandAll, Standing, Stands, view_under, written}
use Rattle.run_arena.proofs.Joined.{place_within}
use Rattle.run_arena.proofs.Numbered.{taken}
use Rattle.run_arena.proofs.Opened.{stands_roll}

module _ (before : ℕ) (counts : List ℕ) where
  abbrev moved : Node → Node
  moved = node_moved before counts

  -- ---- the tree stands there

  row_follows : (view : View) (ports : List Port) (leaf : ReadyLeaf) (instance : ℕ) (found : Option Row) →
      MatchOption found ⊥ (IsLeafOf view ports leaf) → MatchOption found ⊥ (IsLeafOf view ports (record leaf { instance = instance }))
  row_follows view ports leaf instance None is = is
  row_follows view ports leaf instance (Some row) is = record {
    rule = is.rule;
    facts = is.facts;
    inputs = is.inputs;
    few_inputs = is.few_inputs;
    read = is.read;
    outputs = is.outputs;
    few_outputs = is.few_outputs;
    written = is.written;
    told = is.told;
    once = is.once;
  }

  leaf_stands : (view : View) (node : TreeNode) (leaf : Option ReadyLeaf) → LeafStands view node leaf → LeafStands view node (leaf_moved before counts leaf)
  leaf_stands view node None is = is
  leaf_stands view node (Some leaf) is = (is.0, row_follows view node.ports leaf (leaf.instance + before * get_or counts leaf.driver 0) (row_of view.rows node.id) is.1)

  is_node : (view : View) (written : TreeNode) (whole : ℕ) (node : Node) → IsNode view written whole node → IsNode view written whole (moved node)
  is_node view written whole node is = record {
    kind = is.kind;
    size = is.size;
    children = is.children;
    code = is.code;
    guards = is.guards;
    ports = is.ports;
    slots = is.slots;
    leaf = leaf_stands view written node.leaf is.leaf;
    fit = is.fit;
  }

  node_there : (nodes : List Node) (uid : ℕ) → node_at (map moved nodes) uid ≡ moved (node_at nodes uid)
  node_there [] uid = refl
  node_there (node ∷ nodes) zero = refl
  node_there (node ∷ nodes) (suc k) = node_there nodes k

  abbrev Moves : Term → Type 0
  Moves t = (nodes : List Node) (view : View) (uid : ℕ) → Stands t nodes view uid → Stands t (map moved nodes) view uid

  all_move : (ts : List ((t : Term) × Moves t)) (nodes : List Node) (view : View) (uid : ℕ) → StandAll (map (λ e. e.0) ts) nodes view uid → StandAll (map (λ e. e.0) ts) (map moved nodes) view uid
  all_move [] nodes view uid stand = tt
  all_move (e ∷ ts) nodes view uid stand = (e.1 nodes view uid stand.0, all_move ts nodes view (uid + (meaning e.0).size) stand.1)

  stands_moved : (t : Term) → Moves t
  stands_moved = ind-Term Moves (λ x y is nodes view uid stands.
      let here = subst (λ (p : Standing). p nodes view uid) (stands_roll x) stands in
      let there = node_there nodes uid in
      let whole = 1 + sizes (map (λ c. meaning c) x.children) in
      let inside = view_under view uid (written x) in
      let children : StandAll x.children (map moved nodes) inside (uid + 1) =
      subst (λ (z : Term-F Term). StandAll z.children nodes inside (uid + 1) → StandAll z.children (map moved nodes) inside (uid + 1)) is
      (all_move y.children nodes inside (uid + 1)) here.2 in
      subst (λ (p : Standing). p (map moved nodes) view uid) (sym (stands_roll x)) (
        omega (arith, here.0, length-map nodes moved),
        subst (λ (n : Node). IsNode view (written x) whole n) (sym there) (is_node view (written x) whole (node_at nodes uid) here.1),
        children,
        ap (λ (n : Node). n.child_uids) there ∙ here.3,
      ))

  -- ---- its leaves are numbered

  same_driver : (p : ℕ) (leaf : Option ReadyLeaf) → is_served_at p (leaf_moved before counts leaf) ≡ is_served_at p leaf
  same_driver p None = refl
  same_driver p (Some leaf) = refl

  served_alike : (p : ℕ) (nodes : List Node) → served p (map moved nodes) ≡ served p nodes
  served_alike p [] = refl
  served_alike p (node ∷ nodes) = omega (
    arith,
    served_alike p nodes,
    ap (λ (b : Bool). cond {A = ℕ} b 1 0) (same_driver p node.leaf),
    sum_by-cons (λ (n : Node). cond (is_served_at p n.leaf) 1 0) (moved node) (map moved nodes),
    sum_by-cons (λ (n : Node). cond (is_served_at p n.leaf) 1 0) node nodes,
  )

  module _ (drivers : List DriverState) (nodes : List Node) (numbered : AreNumbered drivers 1 nodes) (are_counts : counts ≡ next_after nodes (replicate (length drivers) 0)) where
    count_is : (p : ℕ) → p < length drivers → get_or counts p 0 ≡ served p nodes
    count_is p within =
        let zero_there : ◌≡◌ {A = ℕ} (get_or {A = ℕ} (replicate {A = ℕ} (length drivers) 0) p 0) 0 = get_or-replicate {A = ℕ} (length drivers) p 0 0 within in
        let counted = taken nodes (replicate (length drivers) 0) p (omega (arith, within, length-replicate {A = ℕ} (length drivers) 0)) in
        omega (arith, ap (λ (xs : List ℕ). get_or xs p 0) are_counts, counted, zero_there)

    abbrev IsNumbered : ℕ → ReadyLeaf → Type 0
    IsNumbered uid leaf = (place_of_kind drivers (kind_of_way (rule leaf.row).way) ≡ Some leaf.driver)
        × (leaf.instance ≡ before * served leaf.driver (map moved nodes) + served leaf.driver (take uid (map moved nodes)))

    leaf_numbered : (uid : ℕ) (found : Option ReadyLeaf) (leaf : ReadyLeaf) → leaf_at nodes uid ≡ found → leaf_moved before counts found ≡ Some leaf → IsNumbered uid leaf
    leaf_numbered uid None leaf at is = absurd (cc)
    leaf_numbered uid (Some own) leaf at is =
        let driver = numbered.driver uid own at in
        let within = place_within drivers (kind_of_way (rule own.row).way) own.driver driver in
        let all : before * get_or counts own.driver 0 ≡ before * served own.driver (map moved nodes) =
        ap (λ (n : ℕ). before * n) (count_is own.driver within ∙ sym (served_alike own.driver nodes)) in
        let front : served own.driver (take uid (map moved nodes)) ≡ served own.driver (take uid nodes) =
        ap (served own.driver) (take-map moved uid nodes) ∙ served_alike own.driver (take uid nodes) in
        let same : record own { instance = own.instance + before * get_or counts own.driver 0 } ≡ leaf = cc in
        subst (IsNumbered uid) same (driver, omega (arith, numbered.instance uid own at, all, front))

    are_numbered : (runner : ℕ) → before ≡ runner - 1 → AreNumbered drivers runner (map moved nodes)
    are_numbered runner is_before =
        let is = λ (uid : ℕ) (leaf : ReadyLeaf) (at : leaf_at (map moved nodes) uid ≡ Some leaf).
        leaf_numbered uid (leaf_at nodes uid) leaf refl (sym (ap (λ (n : Node). n.leaf) (node_there nodes uid)) ∙ at) in
        record {
          driver = λ uid leaf at. (is uid leaf at).0;
          instance = λ uid leaf at. (is uid leaf at).1 ∙ ap (λ (b : ℕ). b * served leaf.driver (map moved nodes) + served leaf.driver (take uid (map moved nodes))) is_before;
        }

-- the arena of another runner, by its parts
pub arena_moved : (tree : Tree) (world : World) (drivers : List DriverState) (before runner : ℕ) (counts : List ℕ) (first arena : Arena) →
    IsArenaOf tree world drivers 1 first → before ≡ runner - 1 → counts ≡ next_after first.nodes.items (replicate (length drivers) 0) → arena.runner ≡ runner →
    arena.nodes.items ≡ map (node_moved before counts) first.nodes.items → arena.kept.items ≡ replicate (length arena.nodes.items) at_rest → arena.frames.items ≡ [] → vec_capacity arena.frames ≡ max 32 (depth_of tree.term) →
    IsArenaOf tree world drivers runner arena
arena_moved tree world drivers before runner counts first arena is is_before are_counts number nodes kept no_visits room =
    let here = first.nodes.items in
    let size : length arena.nodes.items ≡ 1 + node_count tree.term = ap length nodes ∙ length-map here (node_moved before counts) ∙ is.size in
    record {
      runner = number;
      stands = subst (λ (ns : List Node). Stands tree.term ns (root_view tree world) 1) (sym nodes) (stands_moved before counts tree.term here (root_view tree world) 1 is.stands);
      nobody = ap (λ (ns : List Node). node_at ns 0) nodes ∙ node_there before counts here 0 ∙ ap (node_moved before counts) is.nobody;
      size = size;
      kept = kept ∙ ap (λ n. replicate n at_rest) size;
      numbered = subst (AreNumbered drivers runner) (sym nodes) (are_numbered before counts drivers here is.numbered are_counts runner is_before);
      serves = λ place within. ap (served place) nodes ∙ served_alike before counts place here ∙ is.serves place within;
      no_visits = no_visits;
      room = room;
    }
