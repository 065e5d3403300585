-- What is missing for what the nodes of an arena are told is what is missing for the tree that stands there.
use Rattle.std.proofs.Common.{◌≡◌, ℕ, zero, suc, ◌+◌, List, [], ◌∷◌, Bool, true, false, if◌then◌else◌, Option, Some, None, map, length, get_or, slice_get, refl, sym, ap, ◌∙◌, arith}
use Rattle.std.specs.Prelude.{MatchOption}
use Rattle.std.specs.Option.{option_and_then, option_or}
use Rattle.std.proofs.Math.ListN.{get_or-map}
use Rattle.spec_run.specs.declared.join_fault.JoinFault.{JoinFault}
use Rattle.spec_run.specs.declared.join_fault.JoinFault.TheVariants.{NoLeaf}
use Rattle.spec_tree.specs.declared.term.Kind.{Kind}
use Rattle.spec_tree.specs.declared.term.Tree.{Tree}
use Rattle.spec_world.specs.declared.world.Event.{Event}
use Rattle.spec_world.specs.declared.world.Row.{Row}
use Rattle.spec_world.specs.declared.world.RowSort.{RowSort}
use Rattle.spec_world.specs.declared.world.Telling.{Telling}
use Rattle.spec_world.specs.declared.world.Telling.TheVariants as telling
use Rattle.spec_world.specs.declared.world.What.{What}
use Rattle.spec_world.specs.declared.world.What.TheVariants.{Tick, Halt, Change, Tell}
use Rattle.spec_world.specs.declared.world.World.{World}
use Rattle.spec_world.specs.Worlds.{is_told, outs_told}
use Rattle.spec_run.specs.Joins.{event_lacks, first_untold, is_leaf, lacks_output, lacks_telling, row_at, row_of_node}
use Rattle.spec_run.specs.Leaf.{Rule, is_told_way, place_of}
use Rattle.spec_run.specs.Leaves.{row_of}
use Rattle.spec_run.specs.Run.{root_view}
use Rattle.spec_run.specs.Sites.{View}
use Rattle.spec_tree.specs.Terms.{node_count}
use Rattle.spec_tree.specs.Trees.{Node as TreeNode, nodes_of}
use Rattle.run_driver.specs.Ready.{is_ready_told, ready_told}
use Rattle.run_arena.specs.declared.nodes.Node.{Node}
use Rattle.run_arena.specs.declared.nodes.ReadyLeaf.{ReadyLeaf}
use Rattle.run_arena.specs.Nodes.{IsLeafOf, LeafStands, leaf_at, nobody}
use Rattle.run_arena.specs.Stands.{Stands}
use Rattle.run_nodes.proofs.Answering.{told_way}
use Rattle.run_loop.specs.Fitting.{first_lack, leaf_lacks, names_lack, nodes_lack}
use Rattle.run_loop.proofs.Matched.{all_said, matched, said_from}

-- ---- The outputs for which a leaf may be told values

-- the outputs for which values may be told; none where nothing may be told
abbrev Names : Type 0
Names = Option (List (List ℕ))

abbrev names_if : Bool → List (List ℕ) → Names
names_if told names = if told then Some names else None

abbrev names_of_leaf : Option ReadyLeaf → Names
names_of_leaf (Some leaf) = names_if (is_ready_told leaf.row.sort) (ready_told leaf.row.sort)
names_of_leaf None = None

abbrev names_of_row : Option Row → Names
names_of_row (Some row) = names_if (is_told row.sort) (outs_told row.sort)
names_of_row None = None

abbrev names_of_node : List Row → TreeNode → Names
names_of_node rows node = names_of_row (row_of_node rows node)

-- what is missing for what a leaf is told, by these outputs
abbrev lacks_by : Names → ℕ → Telling → Option JoinFault
lacks_by (Some names) uid telling = names_lack names uid telling
lacks_by None uid telling = Some (NoLeaf uid)

lacks_if : (told : Bool) (names : List (List ℕ)) (uid : ℕ) (t : Telling) → (if told then names_lack names uid t else Some (NoLeaf uid)) ≡ lacks_by (names_if told names) uid t
lacks_if true names uid t = refl
lacks_if false names uid t = refl

leaf_by : (found : Option ReadyLeaf) (uid : ℕ) (t : Telling) → leaf_lacks found uid t ≡ lacks_by (names_of_leaf found) uid t
leaf_by (Some leaf) uid t = lacks_if (is_ready_told leaf.row.sort) (ready_told leaf.row.sort) uid t
leaf_by None uid t = refl

output_by : (s : RowSort) (uid : ℕ) (t : Telling) → lacks_output s uid t ≡ names_lack (outs_told s) uid t
output_by s uid (telling.Success outs) = refl
output_by s uid telling.Failure = refl

row_by : (found : Option Row) (uid : ℕ) (t : Telling) → lacks_telling found uid t ≡ lacks_by (names_of_row found) uid t
row_by (Some row) uid t = ap (λ (o : Option JoinFault). if is_told row.sort then o else Some (NoLeaf uid)) (output_by row.sort uid t) ∙ lacks_if (is_told row.sort) (outs_told row.sort) uid t
row_by None uid t = refl

-- ---- One node

row_names : (view : View) (node : TreeNode) (leaf : ReadyLeaf) (found : Option Row) → MatchOption found ⊥ (IsLeafOf view node.ports leaf) → names_of_leaf (Some leaf) ≡ names_of_row found
row_names view node leaf None stands = absurd stands
row_names view node leaf (Some row) stands =
    let told : is_ready_told leaf.row.sort ≡ is_told row.sort = ap (λ (r : Rule). is_told_way r.way) stands.rule ∙ told_way (place_of row.ports view.facts) row.sort in
    λ i. names_if (told i) (stands.told i)

own_names : (rows : List Row) (view : View) (node : TreeNode) (found : Option ReadyLeaf) → view.rows ≡ rows → LeafStands view node found → names_of_leaf found ≡ names_of_node rows node
own_names rows view node None same stands = sym (ap (λ (b : Bool). names_of_row (if b then row_of rows node.id else None)) stands)
own_names rows view node (Some leaf) same stands =
    row_names view node leaf (row_of view.rows node.id) stands.1
    ∙ ap (λ (rs : List Row). names_of_row (row_of rs node.id)) same
    ∙ sym (ap (λ (kind : Kind). names_of_row (if is_leaf kind then row_of rows node.id else None)) stands.0)

-- ---- All nodes

-- the node of a uid of a tree
row_found : (rows : List Row) (ns : List TreeNode) (k : ℕ) → get_or (map (names_of_node rows) ns) k None ≡ names_of_row (option_and_then (row_of_node rows) (slice_get ns k))
row_found rows [] k = refl
row_found rows (n ∷ ns) zero = refl
row_found rows (n ∷ ns) (suc k) = row_found rows ns k

uid_found : (rows : List Row) (ns : List TreeNode) (uid : ℕ) → get_or (None ∷ map (names_of_node rows) ns) uid None ≡ names_of_row (row_at rows ns uid)
uid_found rows ns zero = refl
uid_found rows ns (suc k) = row_found rows ns k

module _ (tree : Tree) (world : World) (nodes : List Node) (stands : Stands tree.term nodes (root_view tree world) 1) (many : length nodes ≡ 1 + node_count tree.term) (first : leaf_at nodes 0 ≡ None) where
  names_are : map (λ (node : Node). names_of_leaf node.leaf) nodes ≡ None ∷ map (names_of_node world.rows) (nodes_of tree.term)
  names_are =
      let count : length nodes ≡ suc (node_count tree.term) = omega (arith, many) in
      all_said names_of_leaf nodes
      ∙ ap (said_from names_of_leaf nodes 0) count
      ∙ (λ i. names_of_leaf (first i) ∷ matched names_of_leaf (names_of_node world.rows) world.rows nodes (λ view node uid same here. own_names world.rows view node (leaf_at nodes uid) same here) tree.term (root_view tree world) 1 refl stands i)

  names_at : (uid : ℕ) → names_of_leaf (leaf_at nodes uid) ≡ names_of_row (row_at world.rows (nodes_of tree.term) uid)
  names_at uid =
      sym (get_or-map (λ (node : Node). names_of_leaf node.leaf) nodes uid nobody)
      ∙ ap (λ (xs : List Names). get_or xs uid None) names_are
      ∙ uid_found world.rows (nodes_of tree.term) uid

  pub telling_lacks : (uid : ℕ) (t : Telling) → leaf_lacks (leaf_at nodes uid) uid t ≡ lacks_telling (row_at world.rows (nodes_of tree.term) uid) uid t
  telling_lacks uid t = leaf_by (leaf_at nodes uid) uid t ∙ ap (λ (names : Names). lacks_by names uid t) (names_at uid) ∙ sym (row_by (row_at world.rows (nodes_of tree.term) uid) uid t)

  pub nodes_are_lacking : (what : What) → nodes_lack nodes what ≡ event_lacks world.rows (nodes_of tree.term) what
  nodes_are_lacking (Tell runner uid t) = telling_lacks uid t
  nodes_are_lacking (Tick runner) = refl
  nodes_are_lacking (Halt runner) = refl
  nodes_are_lacking (Change fact value) = refl

  pub first_are_lacking : (events : List Event) → first_lack nodes events ≡ first_untold world.rows (nodes_of tree.term) events
  first_are_lacking [] = refl
  first_are_lacking (e ∷ events) = λ i. option_or (nodes_are_lacking e.what i) (first_are_lacking events i)
