-- The slab after a move stands for the raised tree.
use Rattle.std.proofs.Common.{◌≡◌, ◌≢◌, ℕ, suc, ◌+◌, ◌-◌, ◌<◌, ◌≤◌, true, List, [], ◌∷◌, length, Option, Some, None, refl, ap, sym, ◌∙◌, subst, arith, inl, inr}
use Rattle.std.specs.Prelude.{option_map}
use Rattle.std.specs.List.{find}
use Rattle.std.specs.Option.{option_map_or}
use Rattle.std.proofs.lemmas.List.{length-append}
use Rattle.slab.specs.Slab.{Slab, get}
use Rattle.spec_world.specs.declared.world.World.{World}
use Rattle.plan_tree.specs.declared.node.Node.{Node}
use Rattle.spec_plan.specs.declared.part.Part.{Part}
use Rattle.spec_plan.specs.declared.part.Part.TheVariants.{Goals}
use Rattle.plan_tree.specs.declared.tree.PlanTree.{PlanTree}
use Rattle.spec_plan.specs.Forests.{Forest, Empty, Tree, Ancestor, Place, ancestors, changed_below, count, part_at, place_of, times, total}
use Rattle.plan_tree.specs.Sizes.{added_by, height, subtrees, tops}
use Rattle.plan_tree.specs.Growth.{Edits}
use Rattle.plan_tree.specs.Stands.{IsSequenceOf, Keeps, Stands, StandsFor}
use Rattle.plan_tree.proofs.Counted.{changed_here, changed_other, is_other, is_same, one_of, tested}
use Rattle.plan_tree.proofs.Expansions.{node_counts, node_found, part_node}
use Rattle.plan_tree.proofs.NewNodes.{edited_as, edited_keeps, edited_len, edited_other}
use Rattle.plan_tree.proofs.Places.{placed}
use Rattle.plan_tree.proofs.Regrown.{changed_fits}
use Rattle.plan_tree.proofs.Standing.{kept_at, stands_by, stands_changed}
use Rattle.plan_reorder.specs.declared.raising.Move.{Move}
use Rattle.plan_reorder.specs.Looked.{move_in, swapped}
use Rattle.plan_reorder.specs.Raises.{Raises}
use Rattle.spec_plan.specs.Raising.{can_move, moved_in, raised, swap_at}
use Rattle.plan_reorder.proofs.Climbed.{Above, found_move, length-tops, mapped_move, moves_some}
use Rattle.plan_reorder.proofs.Swaps.{height-swap, swap_fits, swap_own, swap_stands, total-moved}

height_kept : (p : ℕ) (change : Part → Forest → Forest) (f : Forest) → ((part : Part) (below : Forest) → height (change part below) ≤ height below) → height (changed_below p change f) ≤ height f
height_kept p change Empty keeps = omega arith
height_kept p change (Tree key part below rest) keeps = elim (tested key p) [
  | inl hit ↦ let lower = keeps part below in
      subst (λ (g : Forest). height g ≤ height (Tree key part below rest)) (sym (changed_here p change key part below rest hit)) (omega (arith, lower))
  | inr miss ↦ let lower = height_kept p change below keeps in let later = height_kept p change rest keeps in
      subst (λ (g : Forest). height g ≤ height (Tree key part below rest)) (sym (changed_other p change key part below rest miss)) (omega (arith, lower, later))
]

pub root_stays : (p : ℕ) (change : Part → Forest → Forest) (root : ℕ) (below tree : Forest) → tree ≡ Tree root Goals below Empty → (under : Forest) × (changed_below p change tree ≡ Tree root Goals under Empty)
root_stays p change root below tree is = elim (tested root p) [
  | inl hit ↦ (change Goals below, ap (λ (f : Forest). changed_below p change f) is ∙ changed_here p change root Goals below Empty hit)
  | inr miss ↦ (changed_below p change below, ap (λ (f : Forest). changed_below p change f) is ∙ changed_other p change root Goals below Empty miss)
]

module _ (world : World) (t : PlanTree) (tree : Forest) (st : StandsFor t world tree) (child : ℕ) (a : Ancestor) (outer : List Ancestor) (up : Above t.nodes t.root tree st.nodes st.apart.once child a outer)
    (new : Slab Node) (edit : (node : Node) → get t.nodes a.key ≡ Some node → Edits t.nodes new a.key node.parent (swapped (count a.before - 1) node.children.items) node) where
  abbrev place : ℕ
  place = count a.before - 1

  abbrev change : Part → Forest → Forest
  change part = swap_at place

  once : times a.key tree ≡ 1
  once = let few = st.apart.once a.key in let has = node_counts a.key tree (a.part, up.below) up.found in omega (arith, few, has)

  other_nodes : (other : ℕ) → other ≢ a.key → get new other ≡ get t.nodes other
  other_nodes other differs = edited_other t.nodes new a.key up.keeps.node.parent (swapped place up.keeps.node.children.items) up.keeps.node up.keeps.there (edit up.keeps.node up.keeps.there) other differs

  inner : (parent : Option ℕ) (part : Part) (children : List ℕ) (below : Forest) → times a.key below ≡ 0 → ((k : ℕ) → times k below ≤ 1) → Keeps t.nodes parent a.key part children → Stands t.nodes (Some a.key) children below →
      (changed : List ℕ) × Keeps new parent a.key part changed × Stands new (Some a.key) changed (change part below)
  inner parent part children below lacks few keeps stands = (
    swapped place children,
    edited_as t.nodes new a.key (λ (o : Option ℕ). o) (λ (ks : List ℕ). swapped place ks) edit parent part children keeps,
    swap_stands new place (Some a.key) children below (stands_by t.nodes new (Some a.key) children below
        (λ (k : ℕ) (node : Node) has there. other_nodes k (λ e. absurd (omega (arith, has, subst (λ (n : ℕ). times n below ≡ 0) (sym e) lacks))) ∙ there) stands),
  )

  totals : (weight : ℕ → Part → ℕ) → total weight (moved_in a tree) ≡ total weight tree
  totals weight = total-moved weight a tree once

  pub moved_many : subtrees (moved_in a tree) ≡ subtrees tree
  moved_many = totals (λ k x. added_by x)

  stands_now : Stands new None (t.root ∷ []) (changed_below a.key change tree)
  stands_now = stands_changed t.nodes new a.key
      (λ (parent : Option ℕ) (k : ℕ) (part : Part) (children : List ℕ) differs apart (keeps : Keeps t.nodes parent k part children). record {
        node = keeps.node;
        there = other_nodes k differs ∙ keeps.there;
        part_is = keeps.part_is;
        parent_is = keeps.parent_is;
        children_are = keeps.children_are;
      })
      change inner None (t.root ∷ []) tree (λ e. absurd (cc e)) st.apart.once st.nodes

  pub moved_stands : StandsFor (record t { nodes = new }) world (moved_in a tree)
  moved_stands = record {
    valid = st.valid;
    rules = st.rules;
    templates = st.templates;
    achievers = st.achievers;
    nodes = stands_now;
    apart = record { once = λ key. let same = totals (λ k x. one_of k key) in let few = st.apart.once key in omega (arith, same, few) };
    whole =
        let same = totals (λ k x. 1) in
        let before = st.whole in
        let len = edited_len t.nodes new a.key up.keeps.node.parent (swapped place up.keeps.node.children.items) up.keeps.node up.keeps.there (edit up.keeps.node up.keeps.there) in
        omega (arith, same, before, len);
    shape =
        let root = root_stays a.key change t.root st.shape.below tree st.shape.is in
        let nodes = totals (λ k x. 1) in
        let many = moved_many in
        let few = st.shape.few in
        let low = st.shape.low in
        let level = height_kept a.key change tree (λ (part : Part) (f : Forest). let same = height-swap place f in omega (arith, same)) in
        record {
          below = root.0;
          is = root.1;
          fit = changed_fits a.key change (length world.rows) (λ (part : Part) (f : Forest) ok. swap_fits (length world.rows) place f ok)
              (λ (part : Part) (f : Forest) ok. swap_own (length world.rows) place part f ok) tree st.shape.fit;
          few = omega (arith, nodes, many, few);
          low = omega (arith, many, low, level);
        };
  }

  part_kept : (k : ℕ) (node : Node) → get t.nodes k ≡ Some node → (after : Node) × (get new k ≡ Some after) × (after.part ≡ node.part)
  part_kept k node there = elim (tested k a.key) [
    | inl hit ↦
        let here : k ≡ a.key = is_same k a.key hit in
        let mid : get t.nodes a.key ≡ Some node = ap (λ (n : ℕ). get t.nodes n) (sym here) ∙ there in
        let now = edited_keeps t.nodes new a.key node.parent (swapped place node.children.items) node mid (edit node mid) in
        (now.node, ap (λ (n : ℕ). get new n) here ∙ now.there, now.part_is)
    | inr miss ↦ (node, other_nodes k (is_other k a.key miss) ∙ there, refl)
  ]

  pub moved_parts : (old : ℕ) (part : Part) → part_at old tree ≡ Some part → part_at old (moved_in a tree) ≡ Some part
  moved_parts old part is =
      let node = part_node old tree part is in
      let kept = kept_at t.nodes old part node.0 None (t.root ∷ []) tree st.nodes node.1 in
      let after = part_kept old kept.2.node kept.2.there in
      let has = node_counts old tree (part, node.0) node.1 in
      let same = totals (λ k x. one_of k old) in
      let still : 1 ≤ times old (changed_below a.key change tree) = omega (arith, has, same) in
      let found = node_found old (changed_below a.key change tree) still in
      let now = kept_at new old found.0.0 found.0.1 None (t.root ∷ []) (changed_below a.key change tree) stands_now found.1 in
      let both : Some after.0 ≡ Some now.2.node = sym after.1 ∙ now.2.there in
      let node_is : after.0 ≡ now.2.node = cc both in
      let part_is : found.0.0 ≡ part = sym now.2.part_is ∙ ap (λ (n : Node). n.part) (sym node_is) ∙ after.2 ∙ kept.2.part_is in
      ap (λ (o : Option (Part × Forest)). option_map (λ (n : Part × Forest). n.0) o) found.1 ∙ ap (λ (x : Part). Some x) part_is

-- the move that the slab finds
module _ (world : World) (t : PlanTree) (tree : Forest) (st : StandsFor t world tree) (key : ℕ) (is : IsSequenceOf tree key) where
  pub place_is : (place : Place) × (place_of key tree ≡ Some place)
  place_is = let node = part_node key tree _ is.1 in placed key tree (_, node.0) node.1

  pub ancestors_are : ancestors key tree ≡ place_is.0.above
  ancestors_are = ap (λ (o : Option Place). option_map_or (λ (p : Place). p.above) o []) place_is.1

  pub record Chosen (change : Move) : Type 0 where
    pub a : Ancestor
    pub child : ℕ
    pub outer : List Ancestor
    pub up : Above t.nodes t.root tree st.nodes st.apart.once child a outer
    pub moves : can_move a ≡ true
    pub first : find can_move (ancestors key tree) ≡ Some a
    pub change_is : move_in a ≡ change

  pub chosen : (change : Move) → Some change ≡ option_map move_in (find can_move place_is.0.above) → Chosen change
  chosen change e =
      let found = mapped_move (find can_move place_is.0.above) change (sym e) in
      let move = found_move t.nodes t.root tree st.nodes st.apart.once place_is.0.above key place_is.0 found.0 place_is.1 refl found.1 in
      record {
        a = found.0;
        child = move.0;
        outer = move.1;
        up = move.2;
        moves = move.3;
        first = ap (λ (l : List Ancestor). find can_move l) ancestors_are ∙ found.1;
        change_is = found.2;
      }

  -- there are two children at the place
  pub change_within : (change : Move) (c : Chosen change) → (node : Node) × (get t.nodes change.parent ≡ Some node) × (change.place + 1 < length node.children.items)
  change_within change c =
      let parent : c.a.key ≡ change.parent = ap (λ (m : Move). m.parent) c.change_is in
      let place : count c.a.before - 1 ≡ change.place = ap (λ (m : Move). m.place) c.change_is in
      let some = moves_some _ (count c.a.before) c.moves in
      let long : length c.up.keeps.node.children.items ≡ length (tops c.a.before) + suc (length c.up.others) =
      ap (λ (l : List ℕ). length l) (c.up.keeps.children_are ∙ c.up.children_of) ∙ length-append (tops c.a.before) (c.child ∷ c.up.others) in
      let many = length-tops c.a.before in
      (c.up.keeps.node, ap (λ (k : ℕ). get t.nodes k) (sym parent) ∙ c.up.keeps.there, omega (arith, place, some, long, many))

  pub raises : (change : Move) (c : Chosen change) (new : Slab Node) →
      ((node : Node) → get t.nodes change.parent ≡ Some node → Edits t.nodes new change.parent node.parent (swapped change.place node.children.items) node) →
      Raises (record t { nodes = new }) world tree key
  raises change c new edit =
      let edit_a : (node : Node) → get t.nodes c.a.key ≡ Some node → Edits t.nodes new c.a.key node.parent (swapped (count c.a.before - 1) node.children.items) node =
      subst (λ (m : Move). (node : Node) → get t.nodes m.parent ≡ Some node → Edits t.nodes new m.parent node.parent (swapped m.place node.children.items) node) (sym c.change_is) edit in
      record {
        tree_after = moved_in c.a tree;
        is = ap (λ (o : Option Ancestor). option_map (λ (a : Ancestor). moved_in a tree) o) c.first;
        stands = moved_stands world t tree st c.child c.a c.outer c.up new edit_a;
        many = moved_many world t tree st c.child c.a c.outer c.up new edit_a;
        kept = moved_parts world t tree st c.child c.a c.outer c.up new edit_a;
      }

  pub no_raise : None ≡ option_map move_in (find can_move place_is.0.above) → raised key tree ≡ None
  no_raise e =
      elim (find can_move place_is.0.above) as (λ (o : Option Ancestor). find can_move place_is.0.above ≡ o → None ≡ option_map move_in o → raised key tree ≡ None) [
        | None ↦ λ is e. ap (λ (l : List Ancestor). option_map (λ (a : Ancestor). moved_in a tree) (find can_move l)) ancestors_are ∙ ap (λ (o : Option Ancestor). option_map (λ (a : Ancestor). moved_in a tree) o) is
        | Some a ↦ λ is e. absurd (cc e)
      ] refl e
