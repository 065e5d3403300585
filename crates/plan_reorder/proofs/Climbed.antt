-- Where a node stands, and what the slab says of the node above it.
use Rattle.std.proofs.Common.{◌≡◌, ℕ, zero, suc, ◌+◌, ◌-◌, ◌≤◌, ◌==◌, nat_eq, nat_lt, Bool, true, false, cond, ◌&&◌, if◌then◌else◌, List, [], ◌∷◌, ◌++◌, length, Option, Some, None, refl, ap, sym, ◌∙◌, subst, arith, inl, inr}
use Rattle.std.specs.Prelude.{option_map, position}
use Rattle.std.specs.List.{find, position_from}
use Rattle.std.specs.Option.{option_and_then, option_or}
use Rattle.std.proofs.lemmas.Bool.Decides.{nat_tests}
use Rattle.std.proofs.lemmas.List.{length-append}
use Rattle.std.proofs.lemmas.Iterator.Adapters.{position_from-zero}
use Rattle.slab.specs.Slab.{Slab, get}
use Rattle.plan_tree.specs.declared.node.Node.{Node}
use Rattle.spec_plan.specs.declared.part.Part.{Part}
use Rattle.spec_plan.specs.Forests.{Forest, Empty, Tree, Ancestor, Place, after_first, below_first, count, is_sequence, node_at, place_of, times}
use Rattle.plan_tree.specs.Sizes.{height, tops}
use Rattle.plan_tree.specs.Stands.{Keeps, Stands}
use Rattle.plan_tree.proofs.Counted.{chosen, is_same, one_same, skipped, test_same, tested}
use Rattle.plan_tree.proofs.Expansions.{node_found}
use Rattle.plan_tree.proofs.Places.{Climbs, climbs, place_counts}
use Rattle.plan_tree.proofs.Regrown.{in_tops}
use Rattle.plan_tree.proofs.Standing.{kept_at, same_node, tops_are}
use Rattle.plan_reorder.specs.declared.raising.Move.{Move}
use Rattle.plan_reorder.specs.Looked.{keys_before, left_in, left_of, move_in}
use Rattle.spec_plan.specs.Raising.{can_move}

-- ---- Counts

pub length-tops : (f : Forest) → length (tops f) ≡ count f
length-tops Empty = refl
length-tops (Tree key part below rest) = let later = length-tops rest in omega (arith, later)

-- a node has fewer nodes above it than there are levels
pub above_height : (k : ℕ) (f : Forest) (place : Place) → place_of k f ≡ Some place → length place.above + 1 ≤ height f
above_height k Empty place found = absurd (cc found)
above_height k (Tree key part below rest) place found = elim (tested key k) [
  | inl hit ↦
      let e : place ≡ record { before = Empty; above = [] } =
      cc (found, chosen (nat_eq key k) (Some (record { before = Empty; above = [] })) (option_or (option_map (below_first key part) (place_of k below)) (option_map (after_first key part below) (place_of k rest))) hit) in
      let none : length place.above ≡ 0 = ap (λ (p : Place). length p.above) e in
      omega (arith, none)
  | inr miss ↦
      elim (place_of k below) as (λ (o : Option Place). place_of k below ≡ o → option_or (option_map (below_first key part) o) (option_map (after_first key part below) (place_of k rest)) ≡ Some place →
      length place.above + 1 ≤ height (Tree key part below rest)) [
        | Some q ↦ λ lower e.
            let high = above_height k below q lower in
            let p : below_first key part q ≡ place = cc e in
            let long : length place.above ≡ length q.above + 1 =
            ap (λ (r : Place). length r.above) (sym p) ∙ length-append q.above (record { key = key; part = part; before = q.before } ∷ []) in
            omega (arith, high, long)
        | None ↦ λ lower e.
            elim (place_of k rest) as (λ (o : Option Place). place_of k rest ≡ o → option_map (after_first key part below) o ≡ Some place → length place.above + 1 ≤ height (Tree key part below rest)) [
              | Some q ↦ λ right e.
                  let high = above_height k rest q right in
                  let p : after_first key part below q ≡ place = cc e in
                  let long : length place.above ≡ length q.above = ap (λ (r : Place). length r.above) (sym p) in
                  omega (arith, high, long)
              | None ↦ λ right e. absurd (cc e)
            ] refl e
      ] refl (sym (skipped (nat_eq key k) (Some (record { before = Empty; above = [] })) (option_or (option_map (below_first key part) (place_of k below)) (option_map (after_first key part below) (place_of k rest))) miss) ∙ found)
]

-- what stands below a node occurs in the whole
pub under_counts : (j k : ℕ) (x : Part) (under f : Forest) → node_at k f ≡ Some (x, under) → times j under ≤ times j f
under_counts j k x under Empty found = absurd (cc found)
under_counts j k x under (Tree key part below rest) found = elim (tested key k) [
  | inl hit ↦
      let both : Some (part, below) ≡ Some (x, under) = sym (chosen (nat_eq key k) (Some (part, below)) (option_or (node_at k below) (node_at k rest)) hit) ∙ found in
      let pair : (part, below) ≡ (x, under) = cc both in
      let same : times j below ≡ times j under = ap (λ (n : Part × Forest). times j n.1) pair in
      omega (arith, same)
  | inr miss ↦
      elim (node_at k below) as (λ (o : Option (Part × Forest)). node_at k below ≡ o → option_or o (node_at k rest) ≡ Some (x, under) → times j under ≤ times j (Tree key part below rest)) [
        | Some n ↦ λ lower e. let few = under_counts j k x under below (lower ∙ e) in omega (arith, few)
        | None ↦ λ lower e. let few = under_counts j k x under rest e in omega (arith, few)
      ] refl (sym (skipped (nat_eq key k) (Some (part, below)) (option_or (node_at k below) (node_at k rest)) miss) ∙ found)
]

-- ---- The first place of a key

-- a key that occurs once stands after the keys of other trees
first_differs : (k b : ℕ) (part : Part) (below rest : Forest) (before others : List ℕ) → tops rest ≡ before ++ k ∷ others → times k (Tree b part below rest) ≤ 1 → nat_eq b k ≡ false
first_differs k b part below rest before others is once =
    let has = in_tops k rest before others is in
    elim (tested b k) [
      | inl hit ↦ absurd (omega (arith, once, has, one_same b k (is_same b k hit)))
      | inr miss ↦ miss
    ]

pub position_at : (k i : ℕ) (f : Forest) (before others : List ℕ) → tops f ≡ before ++ k ∷ others → times k f ≤ 1 → position_from (λ (n : ℕ). n == k) i (before ++ k ∷ others) ≡ Some (i + length before)
position_at k i f [] others is once =
    ap (λ (b : Bool). cond b (Some i) (position_from (λ (n : ℕ). n == k) (i + 1) others)) (test_same k k refl) ∙ ap (λ (n : ℕ). Some n) (omega arith)
position_at k i Empty (b ∷ before) others is once = absurd (cc is)
position_at k i (Tree key part below rest) (b ∷ before) others is once =
    let rest_is : tops rest ≡ before ++ k ∷ others = cc is in
    let same : key ≡ b = cc is in
    let miss : nat_eq b k ≡ false = ap (λ (n : ℕ). nat_eq n k) (sym same) ∙ first_differs k key part below rest before others rest_is once in
    ap (λ (c : Bool). cond c (Some i) (position_from (λ (n : ℕ). n == k) (i + 1) (before ++ k ∷ others))) miss
    ∙ position_at k (i + 1) rest before others rest_is (omega (arith, once)) ∙ ap (λ (n : ℕ). Some n) (omega arith)

pub before_at : (k : ℕ) (f : Forest) (before others : List ℕ) → tops f ≡ before ++ k ∷ others → times k f ≤ 1 → keys_before k (before ++ k ∷ others) ≡ before
before_at k f [] others is once = chosen (nat_eq k k) [] (k ∷ keys_before k others) (test_same k k refl)
before_at k Empty (b ∷ before) others is once = absurd (cc is)
before_at k (Tree key part below rest) (b ∷ before) others is once =
    let rest_is : tops rest ≡ before ++ k ∷ others = cc is in
    let same : key ≡ b = cc is in
    let miss : nat_eq b k ≡ false = ap (λ (n : ℕ). nat_eq n k) (sym same) ∙ first_differs k key part below rest before others rest_is once in
    skipped (nat_eq b k) [] (b ∷ keys_before k (before ++ k ∷ others)) miss ∙ ap (λ (l : List ℕ). b ∷ l) (before_at k rest before others rest_is (omega (arith, once)))

-- ---- One level up

module _ (s : Slab Node) (root : ℕ) (tree : Forest) (stands : Stands s None (root ∷ []) tree) (apart : (n : ℕ) → times n tree ≤ 1) where
  -- a node, and the one above it
  pub record Above (key : ℕ) (a : Ancestor) (outer : List Ancestor) : Type 0 where
    pub node : Node
    pub there : get s key ≡ Some node
    pub parent_is : node.parent ≡ Some a.key
    pub above : Option ℕ
    pub children : List ℕ
    pub keeps : Keeps s above a.key a.part children
    pub others : List ℕ
    pub children_of : children ≡ tops a.before ++ key ∷ others
    pub left : Stands s (Some a.key) (tops a.before) a.before
    pub below : Forest
    pub found : node_at a.key tree ≡ Some (a.part, below)
    pub tops_of : tops below ≡ tops a.before ++ key ∷ others
    pub once : times key below ≤ 1
    pub before : Forest
    pub place : place_of a.key tree ≡ Some (record { before = before; above = outer })

  pub above_at : (key : ℕ) (place : Place) (a : Ancestor) (outer : List Ancestor) → place_of key tree ≡ Some place → place.above ≡ a ∷ outer → Above key a outer
  above_at key place a outer found is =
      let climb = subst (λ (up : List Ancestor). Climbs s None (root ∷ []) tree key place.before up) is (climbs s key None (root ∷ []) tree place apart stands found) in
      let has = place_counts a.key tree (record { before = place.before; above = outer }) climb.place in
      let node = node_found a.key tree has in
      let kept = kept_at s a.key node.0.0 node.0.1 None (root ∷ []) tree stands node.1 in
      let same = same_node s kept.0 climb.above a.key node.0.0 a.part kept.1 climb.keys kept.2 climb.keeps in
      let once = apart key in
      let few = under_counts key a.key node.0.0 node.0.1 tree node.1 in
      record {
        node = climb.top.keeps.node;
        there = climb.top.keeps.there;
        parent_is = climb.top.keeps.parent_is;
        above = climb.above;
        children = climb.keys;
        keeps = climb.keeps;
        others = climb.top.others;
        children_of = climb.top.keys_are;
        left = climb.top.left;
        below = node.0.1;
        found = node.1 ∙ ap (λ (x : Part). Some (x, node.0.1)) same.1;
        tops_of = sym (tops_are s (Some a.key) kept.1 node.0.1 kept.3) ∙ same.2 ∙ climb.top.keys_are;
        once = omega (arith, once, few);
        before = place.before;
        place = climb.place;
      }

  -- a node that has none above it has no parent
  pub top_at : (key : ℕ) (place : Place) → place_of key tree ≡ Some place → place.above ≡ [] → (node : Node) × (get s key ≡ Some node) × (node.parent ≡ None)
  top_at key place found is =
      let climb = subst (λ (up : List Ancestor). Climbs s None (root ∷ []) tree key place.before up) is (climbs s key None (root ∷ []) tree place apart stands found) in
      (climb.keeps.node, climb.keeps.there, climb.keeps.parent_is)

  left_case : (b : Bool) (n : ℕ) → left_in b (Some n) ≡ (if b && nat_lt 0 n then Some (n - 1) else None)
  left_case true zero = refl
  left_case false zero = refl
  left_case true (suc n) = ap (λ (m : ℕ). Some m) (omega arith) ∙ sym (chosen (nat_lt 0 (suc n)) (Some (suc n - 1)) None (grind (arith, nat_tests)))
  left_case false (suc n) = refl

  -- the left neighbour that the slab finds
  pub left_is : (key : ℕ) (a : Ancestor) (outer : List Ancestor) (up : Above key a outer) → left_of key up.keeps.node ≡ (if can_move a then Some (count a.before - 1) else None)
  left_is key a outer up =
      let at : position (λ (k : ℕ). k == key) up.keeps.node.children.items ≡ Some (count a.before) =
      ap (λ (l : List ℕ). position (λ (k : ℕ). k == key) l) (up.keeps.children_are ∙ up.children_of)
      ∙ position_from-zero (λ (k : ℕ). k == key) (tops a.before ++ key ∷ up.others)
      ∙ position_at key 0 up.below (tops a.before) up.others up.tops_of up.once
      ∙ ap (λ (n : ℕ). Some n) (let long = length-tops a.before in omega (arith, long)) in
      ap (λ (x : Part). left_in (is_sequence x) (position (λ (k : ℕ). k == key) up.keeps.node.children.items)) up.keeps.part_is
      ∙ ap (λ (o : Option ℕ). left_in (is_sequence a.part) o) at ∙ left_case (is_sequence a.part) (count a.before)

  -- the sequence in which the child on the way down moves
  pub found_move : (up : List Ancestor) (key : ℕ) (place : Place) (a : Ancestor) → place_of key tree ≡ Some place → place.above ≡ up → find can_move up ≡ Some a →
      (child : ℕ) × (outer : List Ancestor) × Above child a outer × (can_move a ≡ true)
  found_move [] key place a found is moves = absurd (cc moves)
  found_move (b ∷ outer) key place a found is moves =
      let up = above_at key place b outer found is in
      elim (can_move b) as (λ (c : Bool). can_move b ≡ c → cond c (Some b) (find can_move outer) ≡ Some a → (child : ℕ) × (outer' : List Ancestor) × Above child a outer' × (can_move a ≡ true)) [
        | true ↦ λ kind e. let same : b ≡ a = cc e in (key, outer, subst (λ (x : Ancestor). Above key x outer) same up, subst (λ (x : Ancestor). can_move x ≡ true) same kind)
        | false ↦ λ kind e. found_move outer b.key (record { before = up.before; above = outer }) a up.place refl e
      ] refl moves

  -- the node above, as the slab has it
  pub no_parent : (key : ℕ) (place : Place) → place_of key tree ≡ Some place → option_and_then (λ (n : Node). n.parent) (get s key) ≡ None → place.above ≡ []
  no_parent key place found none =
      elim place.above as (λ (up : List Ancestor). place.above ≡ up → up ≡ []) [
        | [] ↦ λ is. refl
        | a ∷ outer ↦ λ is.
            let up = above_at key place a outer found is in
            absurd (cc (none, ap (λ (o : Option Node). option_and_then (λ (n : Node). n.parent) o) up.there, up.parent_is))
      ] refl

  pub some_parent : (key p : ℕ) (place : Place) → place_of key tree ≡ Some place → option_and_then (λ (n : Node). n.parent) (get s key) ≡ Some p →
      (a : Ancestor) × (outer : List Ancestor) × (place.above ≡ a ∷ outer) × (p ≡ a.key)
  some_parent key p place found some =
      elim place.above as (λ (up : List Ancestor). place.above ≡ up → (a : Ancestor) × (outer : List Ancestor) × (place.above ≡ a ∷ outer) × (p ≡ a.key)) [
        | [] ↦ λ is.
            let top = top_at key place found is in
            absurd (cc (some, ap (λ (o : Option Node). option_and_then (λ (n : Node). n.parent) o) top.1, top.2))
        | a ∷ outer ↦ λ is.
            let up = above_at key place a outer found is in
            let both : Some p ≡ Some a.key = sym some ∙ ap (λ (o : Option Node). option_and_then (λ (n : Node). n.parent) o) up.there ∙ up.parent_is in
            (a, outer, is, cc both)
      ] refl

  -- the child on the way down moves here
  pub move_here : (key n : ℕ) (a : Ancestor) (outer : List Ancestor) (up : Above key a outer) → left_of key up.keeps.node ≡ Some n →
      option_map move_in (find can_move (a ∷ outer)) ≡ Some (record { parent = a.key; place = n })
  move_here key n a outer up left =
      elim (can_move a) as (λ (c : Bool). (if c then Some (count a.before - 1) else None) ≡ Some n → option_map move_in (cond c (Some a) (find can_move outer)) ≡ Some (record { parent = a.key; place = n })) [
        | true ↦ λ e. let same : count a.before - 1 ≡ n = cc e in ap (λ (m : ℕ). Some (record { parent = a.key; place = m })) same
        | false ↦ λ e. absurd (cc e)
      ] (sym (left_is key a outer up) ∙ left)

  -- or not here
  pub move_on : (key : ℕ) (a : Ancestor) (outer : List Ancestor) (up : Above key a outer) → left_of key up.keeps.node ≡ None → find can_move (a ∷ outer) ≡ find can_move outer
  move_on key a outer up left =
      elim (can_move a) as (λ (c : Bool). (if c then Some (count a.before - 1) else None) ≡ None → cond c (Some a) (find can_move outer) ≡ find can_move outer) [
        | true ↦ λ e. absurd (cc e)
        | false ↦ λ e. refl
      ] (sym (left_is key a outer up) ∙ left)

pub moves_some : (b : Bool) (n : ℕ) → (b && nat_lt 0 n) ≡ true → 1 ≤ n
moves_some b zero is = elim b as (λ (c : Bool). (c && nat_lt 0 zero) ≡ true → 1 ≤ zero) [ true ↦ λ e. absurd (cc e) | false ↦ λ e. absurd (cc e) ] is
moves_some b (suc n) is = omega arith

pub mapped_move : (o : Option Ancestor) (m : Move) → option_map move_in o ≡ Some m → (a : Ancestor) × (o ≡ Some a) × (move_in a ≡ m)
mapped_move None m is = absurd (cc is)
mapped_move (Some a) m is = (a, refl, cc is)
