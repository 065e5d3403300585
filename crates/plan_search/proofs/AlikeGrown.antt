-- First plan trees and expansions of two plan trees that differ by their keys alone.
use Rattle.std.proofs.Common.{◌≡◌, ◌≢◌, ℕ, ◌+◌, ◌≤◌, ◌==◌, nat_eq, Bool, false, if◌then◌else◌, List, [], ◌∷◌, ◌++◌, length, map, Option, Some, None, refl, ap, sym, ◌∙◌, subst, arith, inl, inr}
use Rattle.std.specs.Prelude.{option_map}
use Rattle.std.specs.Option.{option_map_or, option_or}
use Rattle.spec_world.specs.declared.world.Row.{Row}
use Rattle.spec_plan.specs.declared.part.Part.{Part}
use Rattle.spec_plan.specs.declared.part.Part.TheVariants.{Goals, Sequence, Fallback, Condition, Action}
use Rattle.spec_plan.specs.Expansion.{NewKeys, expanded, expanded_below, goal_tree, grown, leaves, new_sequence, wrapped}
use Rattle.spec_plan.specs.Forests.{Forest, Empty, Tree, Ancestor, AreApart, Place, ancestors, changed_below, is_fallback, joined, node_at, part_at, place_of, times, total}
use Rattle.plan_tree.specs.Sizes.{tops}
use Rattle.spec_plan.specs.Achievers.{needs_of}
use Rattle.plan_tree.proofs.Counted.{changed_here, changed_other, chosen, is_other, is_same, none_at, one_of, one_same, skipped, test_other, test_same, tested, total-changed, total-joined, total-wrapped, unchanged, zero_or}
use Rattle.plan_tree.proofs.Expansions.{node_counts, part_node}
use Rattle.plan_tree.proofs.Places.{placed}
use Rattle.plan_reorder.proofs.Raised.{root_stays}
use Rattle.plan_reorder.proofs.Whence.{first_place, other_place}
use Rattle.plan_search.proofs.Alike.{Alike, AncestorsPaired, IsRooted, Marks, Paired, Same, absent_marks, ancestors_paired, marks_alike, part_alike, same_back, same_marks}
use Rattle.plan_search.proofs.Pairwise.{AllPaired, choice_paired}

pub changed_rooted : (p : ℕ) (change : Part → Forest → Forest) (f : Forest) → IsRooted f → IsRooted (changed_below p change f)
changed_rooted p change f root = let stays = root_stays p change root.0 root.1 f root.2 in (root.0, stays.0, stays.1)

-- ---- What is changed

module _ (P : ℕ → ℕ → Type 0) where
  pub changed_paired : (Q : ℕ → ℕ → Type 0) (p q : ℕ) (change other : Part → Forest → Forest) → ((part : Part) (u v : Forest) → Paired P u v → Paired Q u v → Paired P (change part u) (other part v)) →
      (f g : Forest) → Marks p q f g → Paired P f g → Paired Q f g → Paired P (changed_below p change f) (changed_below q other g)
  changed_paired Q p q change other each Empty Empty marks own more = tt
  changed_paired Q p q change other each (Tree key part below rest) (Tree second kind under others) (here, same, inside, after) (holds, is, lower, later) (also, again, deeper, further) =
      choice_paired (Paired P) (key == p) (second == q)
      (Tree key part (change part below) rest) (Tree key part (changed_below p change below) (changed_below p change rest))
      (Tree second kind (other kind under) others) (Tree second kind (changed_below q other under) (changed_below q other others)) here
      (holds, is, subst (λ (x : Part). Paired P (change part below) (other x under)) is (each part below under lower deeper), later)
      (holds, is, changed_paired Q p q change other each below under inside lower deeper, changed_paired Q p q change other each rest others after later further)
  changed_paired Q p q change other each Empty (Tree second kind under others) marks own more = absurd own
  changed_paired Q p q change other each (Tree key part below rest) Empty marks own more = absurd own

  joined_paired : (f g new now : Forest) → Paired P f g → Paired P new now → Paired P (joined f new) (joined g now)
  joined_paired Empty Empty new now own added = added
  joined_paired (Tree key part below rest) (Tree other second under others) new now (holds, is, lower, later) added = (holds, is, lower, joined_paired rest others new now later added)
  joined_paired Empty (Tree other second under others) new now own added = absurd own
  joined_paired (Tree key part below rest) Empty new now own added = absurd own

  module _ (k j fallback alternative : ℕ) (new now : Forest) (added : Paired P new now) where
    wrapped_paired : P fallback alternative → (f g : Forest) → Marks k j f g → Paired P f g → Paired P (wrapped k fallback new f) (wrapped j alternative now g)
    wrapped_paired named Empty Empty marks own = tt
    wrapped_paired named (Tree key part below rest) (Tree other second under others) (here, same, inside, after) (holds, is, lower, later) =
        choice_paired (Paired P) (key == k) (other == j)
        (Tree fallback Fallback (Tree key part below new) rest) (Tree key part below (wrapped k fallback new rest))
        (Tree alternative Fallback (Tree other second under now) others) (Tree other second under (wrapped j alternative now others)) here
        (named, refl, (holds, is, lower, added), later) (holds, is, lower, wrapped_paired named rest others after later)
    wrapped_paired named Empty (Tree other second under others) marks own = absurd own
    wrapped_paired named (Tree key part below rest) Empty marks own = absurd own

    -- a fallback has a key already
    grown_paired : (part : Part) → (is_fallback part ≡ false → P fallback alternative) → (f g : Forest) → Marks k j f g → Paired P f g → Paired P (grown part k fallback new f) (grown part j alternative now g)
    grown_paired Fallback named f g marks own = joined_paired f g new now own added
    grown_paired Goals named f g marks own = wrapped_paired (named refl) f g marks own
    grown_paired (Sequence row) named f g marks own = wrapped_paired (named refl) f g marks own
    grown_paired (Condition row) named f g marks own = wrapped_paired (named refl) f g marks own
    grown_paired (Action row) named f g marks own = wrapped_paired (named refl) f g marks own

-- what a fallback counts that is new
abbrev wrapping : (ℕ → Part → ℕ) → ℕ → Part → ℕ
wrapping weight fallback part = if is_fallback part then 0 else weight fallback Fallback

total-grown : (weight : ℕ → Part → ℕ) (part : Part) (k fallback : ℕ) (new f : Forest) (before others : List ℕ) → tops f ≡ before ++ k ∷ others →
    total weight (grown part k fallback new f) ≡ total weight f + (wrapping weight fallback part + total weight new)
total-grown weight Fallback k fallback new f before others is = let all = total-joined weight f new in omega (arith, all)
total-grown weight Goals k fallback new f before others is = total-wrapped weight k fallback new f before others is
total-grown weight (Sequence row) k fallback new f before others is = total-wrapped weight k fallback new f before others is
total-grown weight (Condition row) k fallback new f before others is = total-wrapped weight k fallback new f before others is
total-grown weight (Action row) k fallback new f before others is = total-wrapped weight k fallback new f before others is

-- at a key that stands once only the change of its own part counts
changed_alone : (p : ℕ) (change other : Part → Forest → Forest) (x : Part) (f u : Forest) → times p f ≤ 1 → node_at p f ≡ Some (x, u) → ((v : Forest) → change x v ≡ other x v) → changed_below p change f ≡ changed_below p other f
changed_alone p change other x Empty u once found agrees = refl
changed_alone p change other x (Tree key part below rest) u once found agrees = elim (tested key p) [
  | inl hit ↦
      let both : Some (part, below) ≡ Some (x, u) = sym (chosen (nat_eq key p) (Some (part, below)) (option_or (node_at p below) (node_at p rest)) hit) ∙ found in
      let pair : (part, below) ≡ (x, u) = cc both in
      let own : part ≡ x = ap (λ (n : Part × Forest). n.0) pair in
      changed_here p change key part below rest hit
      ∙ ap (λ (g : Forest). Tree key part g rest) (subst (λ (y : Part). change y below ≡ other y below) (sym own) (agrees below))
      ∙ sym (changed_here p other key part below rest hit)
  | inr miss ↦
      let deeper : option_or (node_at p below) (node_at p rest) ≡ Some (x, u) = sym (skipped (nat_eq key p) (Some (part, below)) (option_or (node_at p below) (node_at p rest)) miss) ∙ found in
      let halves : (changed_below p change below ≡ changed_below p other below) × (changed_below p change rest ≡ changed_below p other rest) =
      elim (zero_or (times p below)) [
        | inl lacks ↦ (
          unchanged p change below lacks ∙ sym (unchanged p other below lacks),
          changed_alone p change other x rest u (omega (arith, once))
              (sym (ap (λ (o : Option (Part × Forest)). option_or o (node_at p rest)) (none_at p below lacks)) ∙ deeper) agrees,
        )
        | inr has ↦
            let lacks : times p rest ≡ 0 = omega (arith, once, has) in (
              changed_alone p change other x below u (omega (arith, once)) (in_below p below rest x u (none_at p rest lacks) deeper) agrees,
              unchanged p change rest lacks ∙ sym (unchanged p other rest lacks),
            )
      ] in
      changed_other p change key part below rest miss
      ∙ ap (λ (g : Forest). Tree key part g (changed_below p change rest)) halves.0
      ∙ ap (λ (g : Forest). Tree key part (changed_below p other below) g) halves.1
      ∙ sym (changed_other p other key part below rest miss)
]
  where
    in_below : (p : ℕ) (below rest : Forest) (x : Part) (u : Forest) → node_at p rest ≡ None → option_or (node_at p below) (node_at p rest) ≡ Some (x, u) → node_at p below ≡ Some (x, u)
    in_below p below rest x u none is =
        elim (node_at p below) as (λ (o : Option (Part × Forest)). option_or o (node_at p rest) ≡ Some (x, u) → o ≡ Some (x, u)) [
          | Some n ↦ λ e. e
          | None ↦ λ e. absurd (cc (e, none))
        ] is

-- ---- Where a condition stands

-- the nearest node of a longer way
nearest : (up : List Ancestor) (own : Ancestor) → (a : Ancestor) × (outer : List Ancestor) × (up ++ own ∷ [] ≡ a ∷ outer)
nearest [] own = (own, [], refl)
nearest (a ∷ up) own = (a, up ++ own ∷ [], refl)

tops_at : (k : ℕ) (f : Forest) (p : Place) → place_of k f ≡ Some p → p.above ≡ [] → (others : List ℕ) × (tops f ≡ tops p.before ++ k ∷ others)
tops_at k Empty p found none = absurd (cc found)
tops_at k (Tree key part below rest) p found none = elim (tested key k) [
  | inl hit ↦
      let at = is_same key k hit in
      let e = first_place k key part below rest p found at in
      (tops rest, ap (λ (n : ℕ). n ∷ tops rest) at ∙ ap (λ (q : Place). tops q.before ++ k ∷ tops rest) (sym e))
  | inr miss ↦ elim (other_place k key part below rest p found (is_other key k miss)) [
    | inl i ↦
        let more = nearest i.q.above (record { key = key; part = part; before = i.q.before }) in
        absurd (cc (ap (λ (q : Place). q.above) i.is, more.2, none))
    | inr i ↦
        let later = tops_at k rest i.q i.found (sym (ap (λ (q : Place). q.above) i.is) ∙ none) in
        (later.0, ap (λ (l : List ℕ). key ∷ l) later.1 ∙ ap (λ (q : Place). tops q.before ++ k ∷ later.0) (sym i.is))
  ]
]

-- the key stands among the children of this node
record ChildOf (f : Forest) (k : ℕ) (a : Ancestor) : Type 0 where
  below : Forest
  found : node_at a.key f ≡ Some (a.part, below)
  others : List ℕ
  tops_of : tops below ≡ tops a.before ++ k ∷ others

module _ (k key : ℕ) (part : Part) (below rest : Forest) (a : Ancestor) (once : times a.key (Tree key part below rest) ≤ 1) where
  child_below : ChildOf below k a → ChildOf (Tree key part below rest) k a
  child_below c =
      let has = node_counts a.key below (a.part, c.below) c.found in
      let differs : key ≢ a.key = λ e. absurd (omega (arith, has, once, one_same key a.key e)) in
      record {
        below = c.below;
        found = skipped (nat_eq key a.key) (Some (part, below)) (option_or (node_at a.key below) (node_at a.key rest)) (test_other key a.key differs)
            ∙ ap (λ (o : Option (Part × Forest)). option_or o (node_at a.key rest)) c.found;
        others = c.others;
        tops_of = c.tops_of;
      }

  child_after : ChildOf rest k a → ChildOf (Tree key part below rest) k a
  child_after c =
      let has = node_counts a.key rest (a.part, c.below) c.found in
      let differs : key ≢ a.key = λ e. absurd (omega (arith, has, once, one_same key a.key e)) in
      record {
        below = c.below;
        found = skipped (nat_eq key a.key) (Some (part, below)) (option_or (node_at a.key below) (node_at a.key rest)) (test_other key a.key differs)
            ∙ ap (λ (o : Option (Part × Forest)). option_or o (node_at a.key rest)) (none_at a.key below (omega (arith, has, once)))
            ∙ c.found;
        others = c.others;
        tops_of = c.tops_of;
      }

child_at : (k : ℕ) (f : Forest) (p : Place) (a : Ancestor) (outer : List Ancestor) → ((n : ℕ) → times n f ≤ 1) → place_of k f ≡ Some p → p.above ≡ a ∷ outer → ChildOf f k a
child_at k Empty p a outer once found up = absurd (cc found)
child_at k (Tree key part below rest) p a outer once found up = elim (tested key k) [
  | inl hit ↦ absurd (cc (ap (λ (q : Place). q.above) (first_place k key part below rest p found (is_same key k hit)), up))
  | inr miss ↦ elim (other_place k key part below rest p found (is_other key k miss)) [
    | inl i ↦
        let own : Ancestor = record { key = key; part = part; before = i.q.before } in
        let e : i.q.above ++ own ∷ [] ≡ a ∷ outer = sym (ap (λ (q : Place). q.above) i.is) ∙ up in
        elim i.q.above as (λ (l : List Ancestor). i.q.above ≡ l → l ++ own ∷ [] ≡ a ∷ outer → ChildOf (Tree key part below rest) k a) [
          | [] ↦ λ is e.
              let same : own ≡ a = cc e in
              let tops_is = tops_at k below i.q i.found is in
              subst (λ (b : Ancestor). ChildOf (Tree key part below rest) k b) same (record {
                below = below;
                found = chosen (nat_eq key key) (Some (part, below)) (option_or (node_at key below) (node_at key rest)) (test_same key key refl);
                others = tops_is.0;
                tops_of = tops_is.1;
              })
          | b ∷ up' ↦ λ is e.
              let same : b ≡ a = cc e in
              child_below k key part below rest a (once a.key)
              (child_at k below i.q a up' (λ (n : ℕ). let few = once n in omega (arith, few)) i.found (is ∙ ap (λ (c : Ancestor). c ∷ up') same))
        ] refl e
    | inr i ↦ child_after k key part below rest a (once a.key)
        (child_at k rest i.q a outer (λ (n : ℕ). let few = once n in omega (arith, few)) i.found (sym (ap (λ (q : Place). q.above) i.is) ∙ up))
  ]
]

-- a condition stands below another node, since the root is none
below_root : (k condition root : ℕ) (below : Forest) (p : Place) → part_at k (Tree root Goals below Empty) ≡ Some (Condition condition) → place_of k (Tree root Goals below Empty) ≡ Some p →
    (a : Ancestor) × (outer : List Ancestor) × (p.above ≡ a ∷ outer)
below_root k condition root below p is found = elim (tested root k) [
  | inl hit ↦
      let root_is : node_at k (Tree root Goals below Empty) ≡ Some (Goals, below) = chosen (nat_eq root k) (Some (Goals, below)) (option_or (node_at k below) None) hit in
      absurd (cc (ap (λ (o : Option (Part × Forest)). option_map (λ (n : Part × Forest). n.0) o) root_is, is))
  | inr miss ↦ elim (other_place k root Goals below Empty p found (is_other root k miss)) [
    | inl i ↦
        let up = nearest i.q.above (record { key = root; part = Goals; before = i.q.before }) in
        (up.0, up.1, ap (λ (q : Place). q.above) i.is ∙ up.2)
    | inr i ↦ absurd (cc i.found)
  ]
]

-- an expansion: at which node, and what it adds
record Expanding (f : Forest) (k fallback : ℕ) (new : Forest) : Type 0 where
  a : Ancestor
  outer : List Ancestor
  above_is : ancestors k f ≡ a ∷ outer
  is : expanded_below (ancestors k f) k fallback new f ≡ changed_below a.key (λ (part : Part). grown a.part k fallback new) f
  totals : (weight : ℕ → Part → ℕ) → total weight (expanded_below (ancestors k f) k fallback new f) ≡ total weight f + (wrapping weight fallback a.part + total weight new)

module _ (f : Forest) (k fallback : ℕ) (new : Forest) (once : (n : ℕ) → times n f ≤ 1) where
  expanding_below : (a : Ancestor) (outer : List Ancestor) → ancestors k f ≡ a ∷ outer → ChildOf f k a → Expanding f k fallback new
  expanding_below a outer above_is child =
      let change : Part → Forest → Forest = λ part. grown part k fallback new in
      let few = once a.key in
      let has = node_counts a.key f (a.part, child.below) child.found in
      let whole : expanded_below (ancestors k f) k fallback new f ≡ changed_below a.key change f = ap (λ (l : List Ancestor). expanded_below l k fallback new f) above_is in
      record {
        a = a;
        outer = outer;
        above_is = above_is;
        is = whole ∙ changed_alone a.key change (λ (part : Part). grown a.part k fallback new) a.part f child.below few child.found (λ (v : Forest). refl);
        totals = λ weight.
            ap (total weight) whole
            ∙ total-changed weight a.key (wrapping weight fallback a.part + total weight new) change f (omega (arith, few, has))
            (λ (part : Part) (u : Forest) found.
            let both : Some (part, u) ≡ Some (a.part, child.below) = sym found ∙ child.found in
            let pair : (part, u) ≡ (a.part, child.below) = cc both in
            let tops_is : tops u ≡ tops a.before ++ k ∷ child.others = ap (λ (n : Part × Forest). tops n.1) pair ∙ child.tops_of in
            total-grown weight part k fallback new u (tops a.before) child.others tops_is
            ∙ ap (λ (n : Part × Forest). total weight u + (wrapping weight fallback n.0 + total weight new)) pair);
      }

  expanding : (condition : ℕ) → IsRooted f → part_at k f ≡ Some (Condition condition) → Expanding f k fallback new
  expanding condition root is =
      let node = part_node k f (Condition condition) is in
      let place = placed k f (Condition condition, node.0) node.1 in
      let up = below_root k condition root.0 root.1 place.0 (ap (part_at k) (sym root.2) ∙ is) (ap (place_of k) (sym root.2) ∙ place.1) in
      expanding_below up.0 up.1 (ap (λ (o : Option Place). option_map_or (λ (p : Place). p.above) o []) place.1 ∙ up.2) (child_at k f place.0 up.0 up.1 once place.1 up.2)

-- ---- New leaves

leaves_alike : (keys others : List ℕ) (parts : List Part) → length keys ≡ length others → Alike (leaves keys parts) (leaves others parts)
leaves_alike [] [] parts long = tt
leaves_alike [] (other ∷ others) parts long = absurd (omega (arith, long))
leaves_alike (key ∷ keys) [] parts long = absurd (omega (arith, long))
leaves_alike (key ∷ keys) (other ∷ others) [] long = tt
leaves_alike (key ∷ keys) (other ∷ others) (part ∷ parts) long = (refl, tt, leaves_alike keys others parts (omega (arith, long)))

pub goals_same : (root other : ℕ) (keys others goals : List ℕ) → length keys ≡ length goals → length others ≡ length goals →
    AreApart (goal_tree root keys goals) → AreApart (goal_tree other others goals) → Same (goal_tree root keys goals) (goal_tree other others goals)
goals_same root other keys others goals all every apart others_apart = record {
  alike = (refl, leaves_alike keys others (map Condition goals) (omega (arith, all, every)), tt);
  apart = apart;
  others_apart = others_apart;
  rooted = (root, leaves keys (map Condition goals), refl);
}

-- ---- Expansions

-- what was not there before an expansion
record IsNew (s : ℕ) (f : Forest) (fallback : ℕ) (part : Part) (below : Forest) : Type 0 where
  whole : times s f ≡ 0
  wraps : is_fallback part ≡ false → fallback ≢ s
  inner : times s below ≡ 0

is_new : (rows : List Row) (keys : NewKeys) (k row : ℕ) (f : Forest) (e : Expanding f k keys.fallback (new_sequence rows keys row)) → AreApart (expanded rows keys k row f) →
    IsNew keys.sequence f keys.fallback e.a.part (leaves keys.leaves (map Condition (needs_of rows row) ++ Action row ∷ []))
is_new rows keys k row f e apart =
    let once = apart.once keys.sequence in
    let all = e.totals (λ key x. one_of key keys.sequence) in
    let own = one_same keys.sequence keys.sequence refl in
    record {
      whole = omega (arith, once, all, own);
      wraps = λ wraps same.
          let counted : wrapping (λ key x. one_of key keys.sequence) keys.fallback e.a.part ≡ 1 =
          ap (λ (b : Bool). if b then 0 else one_of keys.fallback keys.sequence) wraps ∙ one_same keys.fallback keys.sequence same in
          absurd (omega (arith, once, all, own, counted));
      inner = omega (arith, once, all, own);
    }

nearest_paired : (R : Ancestor → Ancestor → Type 0) (up over : List Ancestor) (a b : Ancestor) (outer wider : List Ancestor) → up ≡ a ∷ outer → over ≡ b ∷ wider → AllPaired R up over → R a b
nearest_paired R up over a b outer wider is are both =
    (subst (λ (l : List Ancestor). AllPaired R (a ∷ outer) l) are (subst (λ (l : List Ancestor). AllPaired R l over) is both)).0

pub expanded_same : (rows : List Row) (a b : NewKeys) (k j row condition : ℕ) (f g : Forest) → Same f g → Marks k j f g → part_at k f ≡ Some (Condition condition) →
    length a.leaves ≡ length (needs_of rows row) + 1 → length b.leaves ≡ length (needs_of rows row) + 1 →
    AreApart (expanded rows a k row f) → AreApart (expanded rows b j row g) →
    Same (expanded rows a k row f) (expanded rows b j row g) × Marks a.sequence b.sequence (expanded rows a k row f) (expanded rows b j row g)
expanded_same rows a b k j row condition f g same marks is long wide apart others_apart =
    let e = expanding f k a.fallback (new_sequence rows a row) same.apart.once condition same.rooted is in
    let o = expanding g j b.fallback (new_sequence rows b row) same.others_apart.once condition (same_back f g same).rooted (sym (part_alike k j f g marks) ∙ is) in
    let up = nearest_paired (AncestorsPaired (λ key other. Marks key other f g)) (ancestors k f) (ancestors j g) e.a o.a e.outer o.outer e.above_is o.above_is
    (ancestors_paired (λ key other. Marks key other f g) k j f g marks (same_marks f g same)) in
    let fresh = is_new rows a k row f e apart in
    let recent = is_new rows b j row g o others_apart in
    let P : ℕ → ℕ → Type 0 = λ key other. (key == a.sequence) ≡ (other == b.sequence) in
    let old : Marks a.sequence b.sequence f g = absent_marks a.sequence b.sequence f g same.alike fresh.whole recent.whole in
    let new : Marks a.sequence b.sequence (new_sequence rows a row) (new_sequence rows b row) = (
      test_same a.sequence a.sequence refl ∙ sym (test_same b.sequence b.sequence refl),
      refl,
      absent_marks a.sequence b.sequence _ _ (leaves_alike a.leaves b.leaves (map Condition (needs_of rows row) ++ Action row ∷ []) (omega (arith, long, wide))) fresh.inner recent.inner,
      tt,
    ) in
    let named : is_fallback e.a.part ≡ false → P a.fallback b.fallback =
    λ wraps. test_other a.fallback a.sequence (fresh.wraps wraps) ∙ sym (test_other b.fallback b.sequence (recent.wraps (ap is_fallback (sym up.1) ∙ wraps))) in
    let grown_alike : Marks a.sequence b.sequence (changed_below e.a.key (λ (part : Part). grown e.a.part k a.fallback (new_sequence rows a row)) f)
    (changed_below o.a.key (λ (part : Part). grown e.a.part j b.fallback (new_sequence rows b row)) g) =
    changed_paired P (λ key other. (key == k) ≡ (other == j)) e.a.key o.a.key (λ (part : Part). grown e.a.part k a.fallback (new_sequence rows a row)) (λ (part : Part). grown e.a.part j b.fallback (new_sequence rows b row))
    (λ (part : Part) (u v : Forest) own more. grown_paired P k j a.fallback b.fallback (new_sequence rows a row) (new_sequence rows b row) new e.a.part named u v more own)
    f g up.0 old marks in
    let whole : expanded rows b j row g ≡ changed_below o.a.key (λ (part : Part). grown e.a.part j b.fallback (new_sequence rows b row)) g =
    o.is ∙ ap (λ (x : Part). changed_below o.a.key (λ (part : Part). grown x j b.fallback (new_sequence rows b row)) g) (sym up.1) in
    let after : Marks a.sequence b.sequence (expanded rows a k row f) (expanded rows b j row g) =
    subst (λ (h : Forest). Marks a.sequence b.sequence (expanded rows a k row f) h) (sym whole)
    (subst (λ (h : Forest). Marks a.sequence b.sequence h (changed_below o.a.key (λ (part : Part). grown e.a.part j b.fallback (new_sequence rows b row)) g)) (sym e.is) grown_alike) in (
      record {
        alike = marks_alike a.sequence b.sequence (expanded rows a k row f) (expanded rows b j row g) after;
        apart = apart;
        others_apart = others_apart;
        rooted = subst IsRooted (sym e.is) (changed_rooted e.a.key (λ (part : Part). grown e.a.part k a.fallback (new_sequence rows a row)) f same.rooted);
      },
      after,
    )
