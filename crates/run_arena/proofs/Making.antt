-- The arena that was made for a runner.
use Rattle.std.proofs.Common.{◌≡◌, ℕ, ◌+◌, ◌-◌, ◌*◌, ◌<◌, List, [], ◌∷◌, map, length, replicate, append-nil, refl, sym, ap, subst, ◌∙◌, arith}
use Rattle.std.proofs.lemmas.List.{length-map, length-replicate}
use Rattle.std.proofs.lemmas.List.Sums.{sum_by-cons}
use Rattle.spec_tree.specs.declared.term.Tree.{Tree}
use Rattle.spec_world.specs.declared.world.World.{World}
use Rattle.spec_tree.specs.Boards.{Scope}
use Rattle.spec_run.specs.Drivers.{DriverState}
use Rattle.spec_run.specs.Leaves.{row_of}
use Rattle.spec_run.specs.Run.{root_view}
use Rattle.spec_tree.specs.Terms.{leaf_ids, node_count}
use Rattle.tree_board.proofs.Sound.{main_leads}
use Rattle.run_arena.specs.declared.nodes.Node.{Node}
use Rattle.spec_run.specs.Joins.{leaves_served, place_by}
use Rattle.run_arena.specs.Laying.{AreLaid, counted_all}
use Rattle.run_arena.specs.Nodes.{nobody}
use Rattle.run_arena.specs.Rosters.{AreNumbered, served}
use Rattle.run_arena.specs.Rows.{counted_at}
use Rattle.run_arena.specs.Stands.{Stands}
use Rattle.run_arena.proofs.Numbered.{are_numbered, served_all}
use Rattle.run_arena.proofs.Whole.{next_length}

module _ (tree : Tree) (world : World) (drivers : List DriverState) where
  counted_length : (ids : List (List ℕ)) (counts : List ℕ) → length (counted_all world drivers ids counts) ≡ length counts
  counted_length [] counts = refl
  counted_length (id ∷ ids) counts =
      let place = place_by (row_of world.rows id) drivers in
      counted_length ids (counted_at place counts) ∙ next_length place counts (counted_at place counts) refl

  module _ (runner : ℕ) (counts next : List ℕ) (are_counts : counts ≡ counted_all world drivers (leaf_ids tree.term) (replicate (length drivers) 0)) (are_next : next ≡ map (λ (count : ℕ). (runner - 1) * count) counts) where
    pub counts_places : length counts ≡ length drivers
    counts_places = ap length are_counts ∙ counted_length (leaf_ids tree.term) (replicate (length drivers) 0) ∙ length-replicate {A = ℕ} (length drivers) 0

    pub next_places : length next ≡ length drivers
    next_places = ap length are_next ∙ length-map counts (λ (count : ℕ). (runner - 1) * count) ∙ counts_places

    module _ (nodes : List Node) (left : List ℕ) (laid : AreLaid tree world drivers (tree.term ∷ []) 0 (nobody ∷ []) nodes next left) where
      pub tree_stands_there : Stands tree.term nodes (root_view tree world) 1
      tree_stands_there = subst (λ (s : Scope). Stands tree.term nodes (record (root_view tree world) { scope = s }) 1) (main_leads tree) laid.stand.0

      pub tree_size : length nodes ≡ 1 + node_count tree.term
      tree_size = omega (arith, ap length laid.is, laid.size, sum_by-cons (λ (k : ℕ). k) (node_count tree.term) [])

      counted_here : left ≡ counted_all world drivers (leaf_ids tree.term) next
      counted_here = laid.counted ∙ ap (λ (ids : List (List ℕ)). counted_all world drivers ids next) (append-nil (leaf_ids tree.term))

      pub tree_numbered : AreNumbered drivers runner nodes
      tree_numbered = subst (AreNumbered drivers runner) (sym laid.is) (are_numbered world drivers runner (leaf_ids tree.term) laid.added counts next left are_counts are_next laid.next_ones laid.following counted_here counts_places)

      pub tree_served : (place : ℕ) → place < length drivers → served place nodes ≡ leaves_served world.rows drivers place (leaf_ids tree.term)
      tree_served place within = ap (served place) laid.is
          ∙ served_all world drivers runner (leaf_ids tree.term) laid.added counts next left are_counts are_next laid.next_ones laid.following counted_here counts_places place within

-- no instance comes before those of the first runner
no_instances : (counts : List ℕ) → map (λ (count : ℕ). (1 - 1) * count) counts ≡ replicate (length counts) 0
no_instances [] = refl
no_instances (count ∷ counts) =
    let none : (1 - 1) * count ≡ 0 = omega arith in
    λ i. none i ∷ no_instances counts i

pub first_ones : (tree : Tree) (world : World) (drivers : List DriverState)
    → replicate (length drivers) 0 ≡ map (λ (count : ℕ). (1 - 1) * count) (counted_all world drivers (leaf_ids tree.term) (replicate (length drivers) 0))
first_ones tree world drivers =
    let counts = counted_all world drivers (leaf_ids tree.term) (replicate (length drivers) 0) in
    sym (no_instances counts ∙ ap (λ (n : ℕ). replicate {A = ℕ} n 0) (counts_places tree world drivers 1 counts _ refl refl))
