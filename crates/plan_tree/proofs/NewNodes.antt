-- New nodes in a slab, and what they stand for.
use Rattle.std.proofs.Common.{◌≡◌, ◌≢◌, ℕ, zero, suc, ◌+◌, ◌-◌, ◌<◌, ◌≤◌, ◌==◌, nat_eq, Bool, cond, if◌then◌else◌, List, [], ◌∷◌, ◌++◌, length, map, Option, Some, None, refl, ap, sym, ◌∙◌, subst, arith, inl, inr, slice_set, get_or, set, take}
use Rattle.std.specs.Prelude.{count_by, is_some, sum_by}
use Rattle.std.specs.List.{position_from}
use Rattle.std.proofs.lemmas.List.{get_or-set_other, get_or-set_same, length-append, length-map, length-take-le, map-append, take_more}
use Rattle.std.proofs.lemmas.List.Sums.{sum_by-set}
use Rattle.std.proofs.lemmas.Bool.Decides.{nat_tests}
use Rattle.slab.specs.Slab.{Slab, get, slab_len}
use Rattle.plan_tree.specs.declared.node.Node.{Node}
use Rattle.spec_plan.specs.declared.part.Part.{Part}
use Rattle.spec_plan.specs.declared.part.Part.TheVariants.{Condition, Action}
use Rattle.spec_plan.specs.Expansion.{leaves}
use Rattle.spec_plan.specs.Forests.{Forest, Empty, Tree, joined, times}
use Rattle.plan_tree.specs.Sizes.{size}
use Rattle.plan_tree.specs.Growth.{Adds, AddsNode, Edits, blank, parts_of, replaced}
use Rattle.plan_tree.specs.Stands.{Keeps}
use Rattle.plan_tree.proofs.Counted.{chosen, one_of, one_other, one_same, skipped, tested, total-joined}
use Rattle.plan_tree.proofs.Standing.{stands_by, stands_joined, vacant_lacks}

-- ---- Lists of keys

pub replaced_from : (old new : ℕ) (i : ℕ) (xs : List ℕ) (j : ℕ) → position_from (λ (k : ℕ). k == old) i xs ≡ Some j → (i ≤ j) × (slice_set xs (j - i) new ≡ replaced old new xs)
replaced_from old new i [] j is = absurd (cc is)
replaced_from old new i (x ∷ xs) j is = elim (tested x old) [
  | inl hit ↦
      let e : Some i ≡ Some j = sym (ap (λ (b : Bool). cond b (Some i) (position_from (λ (k : ℕ). k == old) (i + 1) xs)) hit) ∙ is in
      let at : i ≡ j = cc e in
      let first : j - i ≡ 0 = omega (arith, at) in
      (omega (arith, at), ap (λ (n : ℕ). set (x ∷ xs) n new) first ∙ sym (chosen (nat_eq x old) (new ∷ xs) (x ∷ replaced old new xs) hit))
  | inr miss ↦
      let e : position_from (λ (k : ℕ). k == old) (i + 1) xs ≡ Some j = sym (ap (λ (b : Bool). cond b (Some i) (position_from (λ (k : ℕ). k == old) (i + 1) xs)) miss) ∙ is in
      let later = replaced_from old new (i + 1) xs j e in
      let next : j - i ≡ suc (j - (i + 1)) = omega (arith, later.0) in (
        omega (arith, later.0),
        ap (λ (n : ℕ). set (x ∷ xs) n new) next ∙ ap (λ (l : List ℕ). x ∷ l) later.1
            ∙ sym (skipped (nat_eq x old) (new ∷ xs) (x ∷ replaced old new xs) miss),
      )
]

pub not_replaced_from : (old new : ℕ) (i : ℕ) (xs : List ℕ) → position_from (λ (k : ℕ). k == old) i xs ≡ None → xs ≡ replaced old new xs
not_replaced_from old new i [] is = refl
not_replaced_from old new i (x ∷ xs) is = elim (tested x old) [
  | inl hit ↦ absurd (cc (sym (ap (λ (b : Bool). cond b (Some i) (position_from (λ (k : ℕ). k == old) (i + 1) xs)) hit) ∙ is))
  | inr miss ↦
      let e = sym (ap (λ (b : Bool). cond b (Some i) (position_from (λ (k : ℕ). k == old) (i + 1) xs)) miss) ∙ is in
      ap (λ (l : List ℕ). x ∷ l) (not_replaced_from old new (i + 1) xs e) ∙ sym (skipped (nat_eq x old) (new ∷ xs) (x ∷ replaced old new xs) miss)
]

pub leaves-append : (keys : List ℕ) (parts : List Part) (k : ℕ) (x : Part) → length keys ≡ length parts →
    leaves (keys ++ k ∷ []) (parts ++ x ∷ []) ≡ joined (leaves keys parts) (Tree k x Empty Empty)
leaves-append [] [] k x even = refl
leaves-append [] (y ∷ parts) k x even = absurd (omega (arith, even))
leaves-append (a ∷ keys) [] k x even = absurd (omega (arith, even))
leaves-append (a ∷ keys) (y ∷ parts) k x even = ap (λ (f : Forest). Tree a y Empty f) (leaves-append keys parts k x (omega (arith, even)))

pub size-leaves_all : (keys : List ℕ) (parts : List Part) → length keys ≡ length parts → size (leaves keys parts) ≡ length parts
size-leaves_all [] [] even = refl
size-leaves_all [] (y ∷ parts) even = absurd (omega (arith, even))
size-leaves_all (a ∷ keys) [] even = absurd (omega (arith, even))
size-leaves_all (a ∷ keys) (y ∷ parts) even = let later = size-leaves_all keys parts (omega (arith, even)) in omega (arith, later)

-- ---- Slabs

within_slots : (slots : List (Option Node)) (key : ℕ) (node : Node) → get_or slots key None ≡ Some node → key < length slots
within_slots [] key node is = absurd (cc is)
within_slots (x ∷ slots) zero node is = omega arith
within_slots (x ∷ slots) (suc key) node is = omega (arith, within_slots slots key node is)

abbrev one_if_some : Option Node → ℕ
one_if_some slot = cond (is_some slot) 1 0

count-set : (slots : List (Option Node)) (key : ℕ) (before after : Node) → get_or slots key None ≡ Some before → count_by is_some (set slots key (Some after)) ≡ count_by is_some slots
count-set slots key before after is =
    let both : sum_by one_if_some (set slots key (Some after)) + one_if_some (get_or slots key None) ≡ sum_by one_if_some slots + 1 =
    sum_by-set one_if_some slots key (Some after) None (within_slots slots key before is) in
    let one : one_if_some (get_or slots key None) ≡ 1 = ap one_if_some is in
    let e : sum_by one_if_some (set slots key (Some after)) ≡ sum_by one_if_some slots = omega (arith, both, one) in
    e

-- what a change of one node leaves
module _ (old new : Slab Node) (key : ℕ) (parent : Option ℕ) (children : List ℕ) (node : Node) (there : get old key ≡ Some node) (e : Edits old new key parent children node) where
  pub edited : get new key ≡ Some e.after
  edited = ap (λ (s : Slab Node). get s key) e.is ∙ get_or-set_same old.slots key (Some e.after) None (within_slots old.slots key node there)

  pub edited_other : (other : ℕ) → other ≢ key → get new other ≡ get old other
  edited_other other differs = ap (λ (s : Slab Node). get s other) e.is ∙ get_or-set_other old.slots key other (Some e.after) None differs

  pub edited_len : slab_len new ≡ slab_len old
  edited_len = ap (λ (s : Slab Node). slab_len s) e.is ∙ count-set old.slots key node e.after there

  pub edited_keeps : Keeps new parent key node.part children
  edited_keeps = record { node = e.after; there = edited; part_is = e.part_is; parent_is = e.parent_is; children_are = e.children_are }

-- a node that is there is not the new one
pub not_new : (old new : Slab Node) (key other : ℕ) (node found : Node) → AddsNode old new key node → get old other ≡ Some found → other ≢ key
not_new old new key other node found adds there e = absurd (cc (ap (λ (n : ℕ). get old n) e, adds.vacant, there))

pub kept_by_new : (old new : Slab Node) (key : ℕ) (node : Node) → AddsNode old new key node → (other : ℕ) (found : Node) → get old other ≡ Some found → get new other ≡ Some found
kept_by_new old new key node adds other found there = adds.updates.others other (not_new old new key other node found adds there) ∙ there

pub adds_none : (s : Slab Node) (parent : Option ℕ) → Adds s s parent [] Empty
adds_none s parent = record {
  kept = λ key node there. there;
  stands = refl;
  fresh = λ key node there. refl;
  apart = λ key. omega arith;
  len = omega arith;
}

-- one more leaf at the end
pub adds_leaf : (old middle new : Slab Node) (parent : Option ℕ) (keys : List ℕ) (f : Forest) (key : ℕ) (part : Part) → Adds old middle parent keys f → AddsNode middle new key (blank part parent) →
    Adds old new parent (keys ++ key ∷ []) (joined f (Tree key part Empty Empty))
adds_leaf old middle new parent keys f key part adds leaf =
    let leaf_keeps : Keeps new parent key part [] = record { node = blank part parent; there = leaf.updates.changed; part_is = refl; parent_is = refl; children_are = refl } in
    record {
      kept = λ k node there. kept_by_new middle new key (blank part parent) leaf k node (adds.kept k node there);
      stands = stands_joined new parent keys (key ∷ []) f (Tree key part Empty Empty)
          (stands_by middle new parent keys f (λ (k : ℕ) (n : Node) has found. kept_by_new middle new key (blank part parent) leaf k n found) adds.stands)
          ([], [], refl, leaf_keeps, refl, refl);
      fresh = λ k node there.
          let here : one_of key k ≡ 0 = one_other key k (λ e. not_new middle new key k (blank part parent) node leaf (adds.kept k node there) (sym e)) in
          let none = adds.fresh k node there in
          total-joined (λ n x. one_of n k) f (Tree key part Empty Empty) ∙ omega (arith, none, here);
      apart = λ k.
          let none = vacant_lacks middle key leaf.vacant parent keys f adds.stands in
          let once = adds.apart k in
          let both = total-joined (λ n x. one_of n k) f (Tree key part Empty Empty) in
          elim (tested key k) [
            | inl hit ↦
                let at : key ≡ k = grind (arith, nat_tests, hit) in
                let none' : times k f ≡ 0 = subst (λ (n : ℕ). times n f ≡ 0) at none in
                let here : one_of key k ≡ 1 = one_same key k at in
                omega (arith, both, none', here)
            | inr miss ↦
                let here : one_of key k ≡ 0 = ap (λ (b : Bool). if b then 1 else 0) miss in
                omega (arith, both, once, here)
          ];
      len = let both = total-joined (λ n x. 1) f (Tree key part Empty Empty) in let before = adds.len in let one = leaf.len in omega (arith, both, before, one);
    }

-- a new node with its leaves
pub adds_branch : (old first second new : Slab Node) (parent : Option ℕ) (key : ℕ) (part : Part) (keys : List ℕ) (f : Forest) → AddsNode old first key (blank part parent) →
    Adds first second (Some key) keys f → ((node : Node) → get second key ≡ Some node → Edits second new key node.parent keys node) →
    Adds old new parent (key ∷ []) (Tree key part f Empty)
adds_branch old first second new parent key part keys f node adds fills =
    let there : get second key ≡ Some (blank part parent) = adds.kept key (blank part parent) node.updates.changed in
    let e = fills (blank part parent) there in
    let lacks : times key f ≡ 0 = adds.fresh key (blank part parent) node.updates.changed in
    let other = edited_other second new key parent keys (blank part parent) there e in
    let kept : (k : ℕ) (n : Node) → k ≢ key → get second k ≡ Some n → get new k ≡ Some n = λ k n differs found. other k differs ∙ found in
    record {
      kept = λ k n found. kept k n (not_new old first key k (blank part parent) n node found) (adds.kept k n (kept_by_new old first key (blank part parent) node k n found));
      stands = (
        keys,
        [],
        refl,
        edited_keeps second new key parent keys (blank part parent) there e,
        stands_by second new (Some key) keys f (λ (k : ℕ) (n : Node) has found. kept k n (λ at. absurd (omega (arith, has, subst (λ (m : ℕ). times m f ≡ 0) (sym at) lacks))) found) adds.stands,
        refl,
      );
      fresh = λ k n found.
          let here : one_of key k ≡ 0 = one_other key k (λ at. not_new old first key k (blank part parent) n node found (sym at)) in
          let none = adds.fresh k n (kept_by_new old first key (blank part parent) node k n found) in
          omega (arith, here, none);
      apart = λ k.
          let once = adds.apart k in
          elim (tested key k) [
            | inl hit ↦
                let at : key ≡ k = grind (arith, nat_tests, hit) in
                let none : times k f ≡ 0 = subst (λ (n : ℕ). times n f ≡ 0) at lacks in
                let here : one_of key k ≡ 1 = one_same key k at in
                omega (arith, none, here)
            | inr miss ↦
                let here : one_of key k ≡ 0 = ap (λ (b : Bool). if b then 1 else 0) miss in
                omega (arith, once, here)
          ];
      len = let last = edited_len second new key parent keys (blank part parent) there e in let more = adds.len in let one = node.len in omega (arith, last, more, one);
    }

-- one more condition
pub taken_condition : (rows : List ℕ) (i : ℕ) → i < length rows → map Condition (take (i + 1) rows) ≡ map Condition (take i rows) ++ Condition (get_or rows i 0) ∷ []
taken_condition rows i within = ap (λ (l : List ℕ). map Condition l) (take_more rows i 0 within) ∙ map-append Condition (take i rows) (get_or rows i 0 ∷ [])

pub taken_count : (rows : List ℕ) (i : ℕ) → i ≤ length rows → length (map Condition (take i rows)) ≡ i
taken_count rows i within = length-map (take i rows) Condition ∙ length-take-le i rows within

-- one more leaf, by the keys and the parts of all
pub adds_next : (old middle new : Slab Node) (parent : Option ℕ) (keys keys' : List ℕ) (parts parts' : List Part) (key : ℕ) (part : Part) → keys' ≡ keys ++ key ∷ [] → parts' ≡ parts ++ part ∷ [] →
    length keys ≡ length parts → Adds old middle parent keys (leaves keys parts) → AddsNode middle new key (blank part parent) → Adds old new parent keys' (leaves keys' parts')
adds_next old middle new parent keys keys' parts parts' key part keys_are parts_are even adds leaf =
    let e : leaves keys' parts' ≡ joined (leaves keys parts) (Tree key part Empty Empty) =
    ap (λ (ks : List ℕ). leaves ks parts') keys_are ∙ ap (λ (ps : List Part). leaves (keys ++ key ∷ []) ps) parts_are ∙ leaves-append keys parts key part even in
    subst (λ (ks : List ℕ). Adds old new parent ks (leaves keys' parts')) (sym keys_are)
    (subst (λ (f : Forest). Adds old new parent (keys ++ key ∷ []) f) (sym e) (adds_leaf old middle new parent keys (leaves keys parts) key part adds leaf))

-- what stands in a sequence that has an action
pub parts_with : (rows : List ℕ) (action : Option ℕ) (row : ℕ) → action ≡ Some row → parts_of rows action ≡ map Condition rows ++ Action row ∷ []
parts_with rows action row is = ap (λ (a : Option ℕ). parts_of rows a) is

pub parts_count : (rows : List ℕ) (action : Option ℕ) (row : ℕ) → action ≡ Some row → length (parts_of rows action) ≡ length rows + 1
parts_count rows action row is =
    ap (λ (ps : List Part). length ps) (parts_with rows action row is) ∙ length-append (map Condition rows) (Action row ∷ []) ∙ ap (λ (n : ℕ). n + 1) (length-map rows Condition)

-- ---- Room

module _ (old room new : Slab Node) (is : room ≡ record old { capacity = room.capacity }) where
  same_get : (key : ℕ) → get room key ≡ get old key
  same_get key = ap (λ (s : Slab Node). get s key) is

  same_len : slab_len room ≡ slab_len old
  same_len = ap (λ (s : Slab Node). slab_len s) is

  pub adds_node_from : (key : ℕ) (node : Node) → AddsNode room new key node → AddsNode old new key node
  adds_node_from key node adds = record {
    vacant = sym (same_get key) ∙ adds.vacant;
    updates = record { changed = adds.updates.changed; others = λ other differs. adds.updates.others other differs ∙ same_get other };
    len = adds.len ∙ ap (λ (n : ℕ). n + 1) same_len;
  }

  pub adds_from : (parent : Option ℕ) (keys : List ℕ) (f : Forest) → Adds room new parent keys f → Adds old new parent keys f
  adds_from parent keys f adds = record {
    kept = λ key node there. adds.kept key node (same_get key ∙ there);
    stands = adds.stands;
    fresh = λ key node there. adds.fresh key node (same_get key ∙ there);
    apart = adds.apart;
    len = adds.len ∙ ap (λ (n : ℕ). n + size f) same_len;
  }

-- what a node keeps where another parent or other children are written, each by what it was
pub edited_as : (old new : Slab Node) (key : ℕ) (above : Option ℕ → Option ℕ) (below : List ℕ → List ℕ) →
    ((node : Node) → get old key ≡ Some node → Edits old new key (above node.parent) (below node.children.items) node) →
    (parent : Option ℕ) (part : Part) (children : List ℕ) → Keeps old parent key part children → Keeps new (above parent) key part (below children)
edited_as old new key above below edits parent part children keeps =
    let now = edited_keeps old new key (above keeps.node.parent) (below keeps.node.children.items) keeps.node keeps.there (edits keeps.node keeps.there) in
    record {
      node = now.node;
      there = now.there;
      part_is = now.part_is ∙ keeps.part_is;
      parent_is = now.parent_is ∙ ap above keeps.parent_is;
      children_are = now.children_are ∙ ap below keeps.children_are;
    }
