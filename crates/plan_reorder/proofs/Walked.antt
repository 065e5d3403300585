-- A walk through the children of a node, up to a place.
use Rattle.std.proofs.Common.{◌≡◌, ℕ, suc, ◌+◌, ◌-◌, ◌<◌, ◌≤◌, ◌==◌, nat_eq, Bool, true, List, [], ◌∷◌, ◌++◌, length, take, drop, get_or, Option, Some, None, refl, ap, sym, ◌∙◌, subst, arith, append-nil}
use Rattle.std.specs.Prelude.{option_map, slice_get}
use Rattle.std.specs.Option.{option_or}
use Rattle.std.proofs.lemmas.Grind.{flat_map-append}
use Rattle.spec_world.specs.declared.world.World.{World}
use Rattle.plan_tree.specs.declared.node.Node.{Node}
use Rattle.spec_plan.specs.declared.part.Part.{Part}
use Rattle.spec_plan.specs.declared.part.Part.TheVariants.{Goals}
use Rattle.plan_tree.specs.declared.tree.PlanTree.{PlanTree}
use Rattle.spec_plan.specs.Forests.{Forest, Empty, Tree, Place, ancestors, below_first, place_of, times}
use Rattle.plan_tree.specs.Sizes.{height}
use Rattle.plan_tree.specs.Stands.{Stands, StandsFor}
use Rattle.plan_tree.proofs.Counted.{chosen, is_same, one_of, one_same, test_same, total-joined}
use Rattle.plan_tree.proofs.Split.{Split, split_all, split_height, split_last, stands_none}
use Rattle.spec_plan.specs.declared.head.Head.{Head}
use Rattle.spec_plan.specs.Conflicts.{Pair, actions, conflicts, conflicts_of, conflicts_with, heads_before, outer_of, own_actions}
use Rattle.plan_reorder.specs.Reads.{AreRead, IsPlaced}
use Rattle.plan_reorder.proofs.Listed.{first-append}
use Rattle.plan_reorder.proofs.Untouched.{HasAdded, child_at, child_read}
use Rattle.plan_reorder.proofs.Threats.{actions-joined, none_first}

pub no_keys : (keys : List ℕ) → (length keys == 0) ≡ true → keys ≡ []
no_keys [] is = refl
no_keys (key ∷ keys) is = let zero : length (key ∷ keys) ≡ 0 = is_same (length (key ∷ keys)) 0 is in absurd (omega (arith, zero))

-- the first children of a node that was passed have no conflict
abbrev pub HavePassed : PlanTree → Node → List ℕ → ℕ → List Bool → Type 0
HavePassed t node keys levels read =
    (world : World) (tree : Forest) (key : ℕ) (place : Place) (below f : Forest) → IsPlaced t world tree key place node below → AreRead t.rules read (heads_before place.above) →
    Stands t.nodes (Some key) keys f → ((k : ℕ) → times k f ≤ times k tree) → height f ≤ levels → conflicts_of world.rows tree (actions f) ≡ []

module _ (t : PlanTree) (node : Node) (keys : List ℕ) (are : keys ≡ node.children.items) (i : ℕ) (within : i < length keys) (levels : ℕ) (some : 1 ≤ levels) (read inner : List Bool)
    (before : HavePassed t node (take i keys) levels read) (added : HasAdded t node.part (take i keys) read inner)
    (found : Option Pair)
    (here : (world : World) (tree : Forest) (place : Place) (own : Node) (below : Forest) → IsPlaced t world tree (get_or keys i 0) place own below → height below ≤ levels - 1 →
    AreRead t.rules read (heads_before (outer_of place.above)) → AreRead t.rules inner (heads_before place.above) →
    found ≡ slice_get (conflicts_of world.rows tree (own_actions (get_or keys i 0) own.part (actions below))) 0)
    (world : World) (tree : Forest) (key : ℕ) (place : Place) (below : Forest) (at : IsPlaced t world tree key place node below) (all : AreRead t.rules read (heads_before place.above))
    (f : Forest) (inside : (k : ℕ) → times k f ≤ times k tree) (low : height f ≤ levels)
  where
    module _ (left right : List ℕ) (split : Split t.nodes (Some key) left (get_or keys i 0) right f) where
      abbrev own : List Head
      own = own_actions (get_or keys i 0) split.part (actions split.below)

      split_times : (k : ℕ) → times k f ≡ times k split.left + (one_of (get_or keys i 0) k + (times k split.below + times k split.right))
      split_times k = ap (times k) split.is ∙ total-joined (λ n x. one_of n k) split.left (Tree (get_or keys i 0) split.part split.below split.right)

      found_own : found ≡ slice_get (conflicts_of world.rows tree own) 0
      found_own =
          let high = split_height t.nodes (Some key) left (get_or keys i 0) right f split in
          let times_of = split_times (get_or keys i 0) in
          let one : one_of (get_or keys i 0) (get_or keys i 0) ≡ 1 = one_same (get_or keys i 0) (get_or keys i 0) refl in
          let fits = inside (get_or keys i 0) in
          let p = child_at t world tree key place node below at keys are i within (omega (arith, times_of, one, fits)) split.keeps.node split.keeps.there split.keeps.parent_is in
          here world tree p.0 split.keeps.node split.below (record {
            stands = at.stands;
            place_is = p.1.place_is;
            there = split.keeps.there;
            below_stands = subst (λ (l : List ℕ). Stands t.nodes (Some (get_or keys i 0)) l split.below) (sym split.keeps.children_are) split.stands_below;
            inside = λ (k : ℕ). let more = split_times k in let fits = inside k in omega (arith, more, fits);
          }) (omega (arith, high, low, some))
          (subst (λ up. AreRead t.rules read (heads_before up)) (sym p.1.outer) all)
          (child_read t world tree key place node below at keys are i within read inner all added p.0 p.1)
          ∙ ap (λ (x : Part). slice_get (conflicts_of world.rows tree (own_actions (get_or keys i 0) x (actions split.below))) 0) split.keeps.part_is

      all_actions : actions f ≡ actions split.left ++ (own ++ actions split.right)
      all_actions = ap actions split.is ∙ actions-joined split.left (Tree (get_or keys i 0) split.part split.below split.right)

      all_conflicts : conflicts_of world.rows tree (actions f) ≡ conflicts_of world.rows tree (actions split.left) ++ (conflicts_of world.rows tree own ++ conflicts_of world.rows tree (actions split.right))
      all_conflicts =
          let step : Head → List Pair = λ n. conflicts_with world.rows n (heads_before (outer_of (ancestors n.key tree))) in
          ap (conflicts_of world.rows tree) all_actions ∙ flat_map-append step (actions split.left) (own ++ actions split.right)
          ∙ ap (λ (l : List Pair). conflicts_of world.rows tree (actions split.left) ++ l) (flat_map-append step own (actions split.right))

      none_left : Stands t.nodes (Some key) (take i keys) split.left → conflicts_of world.rows tree (actions split.left) ≡ []
      none_left stands =
          let high = split_height t.nodes (Some key) left (get_or keys i 0) right f split in
          before world tree key place below split.left at all stands (λ (k : ℕ). let more = split_times k in let fits = inside k in omega (arith, more, fits)) (omega (arith, high, low))

    -- the first conflict is found at the place
    pub conflict_found : Stands t.nodes (Some key) keys f → (pair : Pair) → found ≡ Some pair → Some pair ≡ slice_get (conflicts_of world.rows tree (actions f)) 0
    conflict_found stands pair is =
        let split = split_all t.nodes (Some key) keys i f within stands in
        let left = take i keys in
        let right = drop (suc i) keys in
        let own_is : slice_get (conflicts_of world.rows tree (own left right split)) 0 ≡ Some pair = sym (found_own left right split) ∙ is in
        sym (ap (λ (l : List Pair). slice_get l 0) (all_conflicts left right split
        ∙ ap (λ (l : List Pair). l ++ (conflicts_of world.rows tree (own left right split) ++ conflicts_of world.rows tree (actions split.right))) (none_left left right split split.stands_left))
        ∙ first-append (conflicts_of world.rows tree (own left right split)) (conflicts_of world.rows tree (actions split.right))
        ∙ ap (λ (o : Option Pair). option_or o (slice_get (conflicts_of world.rows tree (actions split.right)) 0)) own_is)

    -- or there is none up to the place and at it
    pub conflict_passed : Stands t.nodes (Some key) (take (i + 1) keys) f → found ≡ None → conflicts_of world.rows tree (actions f) ≡ []
    conflict_passed stands is =
        let split = split_last t.nodes (Some key) keys i f within stands in
        let left = take i keys in
        let own_is : conflicts_of world.rows tree (own left [] split) ≡ [] = none_first (conflicts_of world.rows tree (own left [] split)) (sym (found_own left [] split) ∙ is) in
        let rest_is : conflicts_of world.rows tree (actions split.right) ≡ [] =
        ap (λ (g : Forest). conflicts_of world.rows tree (actions g)) (stands_none t.nodes (Some key) split.right split.stands_right) in
        all_conflicts left [] split
        ∙ ap (λ (l : List Pair). l ++ (conflicts_of world.rows tree (own left [] split) ++ conflicts_of world.rows tree (actions split.right))) (none_left left [] split split.stands_left)
        ∙ ap (λ (l : List Pair). l ++ conflicts_of world.rows tree (actions split.right)) own_is ∙ rest_is

-- ---- The root

abbrev pub top : Place
top = record { before = Empty; above = [] }

pub record RootPlaced (t : PlanTree) (world : World) (tree : Forest) : Type 0 where
  pub node : Node
  pub below : Forest
  pub at : IsPlaced t world tree t.root top node below
  pub lower : height below ≤ height tree
  pub conflicts_are : conflicts_of world.rows tree (own_actions t.root node.part (actions below)) ≡ conflicts world.rows tree

-- nothing stands before it
pub root_placed : (world : World) (t : PlanTree) (tree : Forest) → StandsFor t world tree → RootPlaced t world tree
root_placed world t tree st =
    let standing = subst (λ (f : Forest). Stands t.nodes None (t.root ∷ []) f) st.shape.is st.nodes in
    let keeps = standing.3 in
    let found : place_of t.root tree ≡ Some top =
    ap (place_of t.root) st.shape.is ∙ chosen (nat_eq t.root t.root) (Some top) (option_or (option_map (below_first t.root Goals) (place_of t.root st.shape.below)) None) (test_same t.root t.root refl) in
    record {
      node = keeps.node;
      below = st.shape.below;
      at = record {
        stands = st;
        place_is = found;
        there = keeps.there;
        below_stands = subst (λ (l : List ℕ). Stands t.nodes (Some t.root) l st.shape.below) (sym keeps.children_are) standing.4;
        inside = λ (k : ℕ). let all = ap (times k) st.shape.is in omega (arith, all);
      };
      lower = let all = ap height st.shape.is in omega (arith, all);
      conflicts_are =
          ap (λ (x : Part). conflicts_of world.rows tree (own_actions t.root x (actions st.shape.below))) keeps.part_is
          ∙ ap (conflicts_of world.rows tree) (sym (ap actions st.shape.is ∙ append-nil (actions st.shape.below)));
    }
