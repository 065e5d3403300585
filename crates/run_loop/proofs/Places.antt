-- The drivers of an arena's leaves are those that serve the nodes of its tree.
use Rattle.std.proofs.Common.{◌≡◌, ℕ, ◌+◌, List, [], ◌∷◌, ◌++◌, Bool, cond, if◌then◌else◌, Option, Some, None, map, refl, sym, ap, subst, ◌∙◌, arith}
use Rattle.std.specs.List.{flat_map}
use Rattle.std.specs.Prelude.{MatchOption, count_by}
use Rattle.std.proofs.lemmas.List.{map-append}
use Rattle.std.proofs.lemmas.List.Sums.{sum_by-append, sum_by-cons}
use Rattle.spec_tree.specs.declared.term.Kind.{Kind}
use Rattle.spec_tree.specs.declared.term.Kind.TheVariants.{Leaf}
use Rattle.spec_tree.specs.declared.term.Term.{Term, Term-F, fold-roll-Term, ind-Term}
use Rattle.spec_world.specs.declared.world.Row.{Row}
use Rattle.spec_world.specs.declared.world.World.{World}
use Rattle.spec_run.specs.Drivers.{DriverState, kind_of_row, place_of_kind}
use Rattle.base_tables.specs.DriverCalls.{kind_of_way}
use Rattle.spec_run.specs.Leaf.{Rule, place_of}
use Rattle.spec_run.specs.Leaves.{row_of}
use Rattle.spec_run.specs.Sites.{View}
use Rattle.spec_tree.specs.Terms.{leaf_ids, node_count, own_leaf_id}
use Rattle.spec_tree.specs.Trees.{Node as TreeNode, nodes_of, nodes_step}
use Rattle.run_driver.proofs.Placing.{same_kind_of_row}
use Rattle.run_driver.specs.Rules.{rule}
use Rattle.run_arena.specs.declared.nodes.Node.{Node}
use Rattle.run_arena.specs.declared.nodes.ReadyLeaf.{ReadyLeaf}
use Rattle.spec_run.specs.Joins.{is_place, leaves_served, place_by}
use Rattle.run_arena.specs.Laying.{driver_of}
use Rattle.run_arena.specs.Nodes.{IsLeafOf, LeafStands, leaf_at}
use Rattle.spec_run.specs.Joins.{is_leaf}
use Rattle.run_arena.specs.Stands.{Stands, written}
use Rattle.spec_run.specs.Served.{place_serving, served_among}
use Rattle.run_loop.proofs.Matched.{matched, said_from}

-- ---- The nodes of a tree

module _ (world : World) (drivers : List DriverState) where
  abbrev serving : TreeNode → Option ℕ
  serving node = place_serving world drivers node

  -- each leaf has the first driver of its row's kind
  abbrev pub HasFirst : Option ReadyLeaf → Type 0
  HasFirst (Some leaf) = place_of_kind drivers (kind_of_way (rule leaf.row).way) ≡ Some leaf.driver
  HasFirst None = Unit {0}

  row_place : (view : View) (node : TreeNode) (leaf : ReadyLeaf) (found : Option Row) → MatchOption found ⊥ (IsLeafOf view node.ports leaf) → HasFirst (Some leaf) → place_by found drivers ≡ Some leaf.driver
  row_place view node leaf None stands first = absurd stands
  row_place view node leaf (Some row) stands first =
      let kind : kind_of_way (rule leaf.row).way ≡ kind_of_row row = ap (λ (r : Rule). kind_of_way r.way) stands.rule ∙ same_kind_of_row (place_of row.ports view.facts) row.sort in
      ap (place_of_kind drivers) (sym kind) ∙ first

  own_place : (view : View) (node : TreeNode) (leaf : Option ReadyLeaf) → view.rows ≡ world.rows → LeafStands view node leaf → HasFirst leaf → driver_of leaf ≡ serving node
  own_place view node None rows stands first = sym (ap {B = Option ℕ} (λ b. if b then place_by (row_of world.rows node.id) drivers else None) stands)
  own_place view node (Some leaf) rows stands first =
      sym (
      ap {B = Option ℕ} (λ (kind : Kind). if is_leaf kind then place_by (row_of world.rows node.id) drivers else None) stands.0
      ∙ ap (λ (rs : List Row). place_by (row_of rs node.id) drivers) (sym rows)
      ∙ row_place view node leaf (row_of view.rows node.id) stands.1 first
      )

  module _ (nodes : List Node) (first : (uid : ℕ) → HasFirst (leaf_at nodes uid)) where
    -- a term's nodes are served by the drivers of the arena's leaves
    pub placed : (t : Term) (view : View) (uid : ℕ) → view.rows ≡ world.rows → Stands t nodes view uid → said_from driver_of nodes uid (node_count t) ≡ map serving (nodes_of t)
    placed = matched driver_of serving world.rows nodes (λ view node uid rows stands. own_place view node (leaf_at nodes uid) rows stands (first uid))

  -- ---- The leaves of a tree

  abbrev counts_id : ℕ → List ℕ → Bool
  counts_id place id = is_place place (place_by (row_of world.rows id) drivers)

  served_cons : (place : ℕ) (p : Option ℕ) (ps : List (Option ℕ)) → served_among place (p ∷ ps) ≡ cond (is_place place p) 1 0 + served_among place ps
  served_cons place p ps = sum_by-cons (λ (q : Option ℕ). cond (is_place place q) 1 0) p ps

  own_counted : (place : ℕ) (kind : Kind) (id : List ℕ) → count_by (counts_id place) (own_leaf_id kind id) ≡ cond (is_place place (if is_leaf kind then place_by (row_of world.rows id) drivers else None)) 1 0
  own_counted place Leaf id = sum_by-cons (λ (i : List ℕ). cond {A = ℕ} (counts_id place i) 1 0) id [] ∙ omega arith
  own_counted place _ id = refl

  module _ (place : ℕ) where
    abbrev count : List (List ℕ) → ℕ
    count ids = leaves_served world.rows drivers place ids

    abbrev IsCounted : Term → Type 0
    IsCounted t = count (leaf_ids t) ≡ served_among place (map serving (nodes_of t))

    abbrev AllCounted : List Term → Type 0
    AllCounted ts = count (flat_map (λ ids. ids) (map leaf_ids ts)) ≡ served_among place (map serving (flat_map (λ ns. ns) (map nodes_of ts)))

    all_counted : (ts : List ((t : Term) × IsCounted t)) → AllCounted (map (λ e. e.0) ts)
    all_counted [] = refl
    all_counted (e ∷ ts) =
        let others : List Term = map (λ x. x.0) ts in
        let ids : List (List ℕ) = flat_map (λ ids. ids) (map leaf_ids others) in
        let ns : List TreeNode = flat_map (λ ns. ns) (map nodes_of others) in
        sum_by-append (λ (id : List ℕ). cond {A = ℕ} (counts_id place id) 1 0) (leaf_ids e.0) ids
        ∙ (λ i. e.1 i + all_counted ts i)
        ∙ sym (ap (served_among place) (map-append serving (nodes_of e.0) ns) ∙ sum_by-append (λ (q : Option ℕ). cond {A = ℕ} (is_place place q) 1 0) (map serving (nodes_of e.0)) (map serving ns))

    -- as many leaves are served as there are nodes that a driver serves
    pub leaves_counted : (t : Term) → count (leaf_ids t) ≡ served_among place (map serving (nodes_of t))
    leaves_counted = ind-Term IsCounted (λ x y is.
        let ids : List (List ℕ) = flat_map (λ ids. ids) (map leaf_ids x.children) in
        let ns : List TreeNode = flat_map (λ ns. ns) (map nodes_of x.children) in
        let children : count ids ≡ served_among place (map serving ns) = subst (λ (z : Term-F Term). AllCounted z.children) is (all_counted y.children) in
        ap count (fold-roll-Term (List (List ℕ)) (λ node. own_leaf_id node.kind node.id ++ flat_map (λ ids. ids) node.children) x)
        ∙ sum_by-append (λ (id : List ℕ). cond {A = ℕ} (counts_id place id) 1 0) (own_leaf_id x.kind x.id) ids
        ∙ (λ i. own_counted place x.kind x.id i + children i)
        ∙ sym (served_cons place (serving (written x)) (map serving ns))
        ∙ sym (ap (λ (all : List TreeNode). served_among place (map serving all)) (fold-roll-Term (List TreeNode) nodes_step x)))
