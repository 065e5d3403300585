-- Plan trees that differ by their keys alone: what a key reads in the one, the key at the same place reads in the other.
use Rattle.std.proofs.Common.{◌≡◌, ◌≢◌, ℕ, ◌+◌, ◌≤◌, ◌==◌, List, [], ◌∷◌, Option, Some, None, refl, ap, sym, ◌∙◌, subst, arith}
use Rattle.std.specs.Prelude.{option_map}
use Rattle.std.specs.Option.{option_map_or, option_or}
use Rattle.spec_world.specs.declared.world.Row.{Row}
use Rattle.spec_plan.specs.declared.part.Part.{Part}
use Rattle.spec_plan.specs.declared.part.Part.TheVariants.{Goals, Sequence, Fallback, Condition, Action}
use Rattle.spec_plan.specs.Expansion.{condition_row, sequence_rows, tried, tried_below, untried, untried_of}
use Rattle.spec_plan.specs.Forests.{Forest, Empty, Tree, Ancestor, AreApart, Place, after_first, ancestors, below_at, below_first, is_fallback, node_at, part_at, place_of, times}
use Rattle.plan_tree.proofs.Counted.{lacks_below, lacks_here, lacks_rest, one_same, only_here, test_other, test_same}
use Rattle.plan_search.proofs.Pairwise.{AllPaired, OptionPaired, append_paired, choice_paired, map_paired, or_paired}

-- Two forests have the same shape and parts, and this holds of the keys at each place.
abbrev pub Paired : (ℕ → ℕ → Type 0) → Forest → Forest → Type 0
Paired P Empty Empty = Unit {0}
Paired P (Tree key part below rest) (Tree other second under others) = P key other × (part ≡ second) × Paired P below under × Paired P rest others
Paired P _ _ = ⊥

-- the one key stands in the first where the other stands in the second
abbrev pub Marks : ℕ → ℕ → Forest → Forest → Type 0
Marks k j = Paired (λ key other. (key == k) ≡ (other == j))

-- the same shape and parts, whatever the keys
abbrev pub Alike : Forest → Forest → Type 0
Alike Empty Empty = Unit {0}
Alike (Tree key part below rest) (Tree other second under others) = (part ≡ second) × Alike below under × Alike rest others
Alike _ _ = ⊥

-- a tree whose root is the sequence of the goals
abbrev pub IsRooted : Forest → Type 0
IsRooted f = (root : ℕ) × (below : Forest) × (f ≡ Tree root Goals below Empty)

-- two plan trees that differ by their keys alone
pub record Same (f g : Forest) : Type 0 where
  pub alike : Alike f g
  pub apart : AreApart f
  pub others_apart : AreApart g
  pub rooted : IsRooted f

-- ---- Forests of one shape

module _ (P : ℕ → ℕ → Type 0) where
  pub paired_alike : (f g : Forest) → Paired P f g → Alike f g
  paired_alike Empty Empty p = tt
  paired_alike (Tree key part below rest) (Tree other second under others) (holds, is, lower, later) = (is, paired_alike below under lower, paired_alike rest others later)
  paired_alike Empty (Tree other second under others) p = absurd p
  paired_alike (Tree key part below rest) Empty p = absurd p

  pub paired_as : (Q : ℕ → ℕ → Type 0) → ((key other : ℕ) → P key other → Q key other) → (f g : Forest) → Paired P f g → Paired Q f g
  paired_as Q each Empty Empty p = tt
  paired_as Q each (Tree key part below rest) (Tree other second under others) (holds, is, lower, later) = (each key other holds, is, paired_as Q each below under lower, paired_as Q each rest others later)
  paired_as Q each Empty (Tree other second under others) p = absurd p
  paired_as Q each (Tree key part below rest) Empty p = absurd p

  pub paired_both : (Q : ℕ → ℕ → Type 0) (f g : Forest) → Paired P f g → Paired Q f g → Paired (λ key other. P key other × Q key other) f g
  paired_both Q Empty Empty p q = tt
  paired_both Q (Tree key part below rest) (Tree other second under others) (holds, is, lower, later) (more, same, deeper, further) =
      ((holds, more), is, paired_both Q below under lower deeper, paired_both Q rest others later further)
  paired_both Q Empty (Tree other second under others) p q = absurd p
  paired_both Q (Tree key part below rest) Empty p q = absurd p

pub marks_alike : (k j : ℕ) (f g : Forest) → Marks k j f g → Alike f g
marks_alike k j = paired_alike (λ key other. (key == k) ≡ (other == j))

pub alike_back : (f g : Forest) → Alike f g → Alike g f
alike_back Empty Empty a = tt
alike_back (Tree key part below rest) (Tree other second under others) (is, lower, later) = (sym is, alike_back below under lower, alike_back rest others later)
alike_back Empty (Tree other second under others) a = absurd a
alike_back (Tree key part below rest) Empty a = absurd a

-- ---- Each key marks the place of its own

within_tree : (k key : ℕ) (part : Part) (below rest : Forest) → (key ≡ k) → 1 ≤ times k (Tree key part below rest)
within_tree k key part below rest is = let one = one_same key k is in omega (arith, one)

-- the keys at each place are those of the forests
pub alike_within : (f g : Forest) → Alike f g → Paired (λ key other. (1 ≤ times key f) × (1 ≤ times other g)) f g
alike_within Empty Empty a = tt
alike_within (Tree key part below rest) (Tree other second under others) (is, lower, later) =
    let Q : ℕ → ℕ → Type 0 = λ k j. (1 ≤ times k (Tree key part below rest)) × (1 ≤ times j (Tree other second under others)) in (
      (within_tree key key part below rest refl, within_tree other other second under others refl),
      is,
      paired_as (λ k j. (1 ≤ times k below) × (1 ≤ times j under)) Q
          (λ (k j : ℕ) has. let one = has.0 in let two = has.1 in (omega (arith, one), omega (arith, two))) below under (alike_within below under lower),
      paired_as (λ k j. (1 ≤ times k rest) × (1 ≤ times j others)) Q
          (λ (k j : ℕ) has. let one = has.0 in let two = has.1 in (omega (arith, one), omega (arith, two))) rest others (alike_within rest others later),
    )
alike_within Empty (Tree other second under others) a = absurd a
alike_within (Tree key part below rest) Empty a = absurd a

-- two keys that stand nowhere
pub absent_marks : (k j : ℕ) (f g : Forest) → Alike f g → times k f ≡ 0 → times j g ≡ 0 → Marks k j f g
absent_marks k j Empty Empty a none lacks = tt
absent_marks k j (Tree key part below rest) (Tree other second under others) (is, lower, later) none lacks = (
  test_other key k (lacks_here k key part below rest none) ∙ sym (test_other other j (lacks_here j other second under others lacks)),
  is,
  absent_marks k j below under lower (lacks_below k key part below rest none) (lacks_below j other second under others lacks),
  absent_marks k j rest others later (lacks_rest k key part below rest none) (lacks_rest j other second under others lacks),
)
absent_marks k j Empty (Tree other second under others) a none lacks = absurd a
absent_marks k j (Tree key part below rest) Empty a none lacks = absurd a

-- the tests at a node, where both keys stand elsewhere
elsewhere : (key k other j : ℕ) → key ≢ k → other ≢ j → (key == k) ≡ (other == j)
elsewhere key k other j differs different = test_other key k differs ∙ sym (test_other other j different)

-- a key of some trees is not that of a node beside or above them, where each stands once
stands_off : (key k : ℕ) (part : Part) (below rest : Forest) → times k (Tree key part below rest) ≤ 1 → 1 ≤ times k below + times k rest → key ≢ k
stands_off key k part below rest once has is = absurd (omega (arith, once, has, one_same key k is))

-- the keys of one place stand in their forests at the same places
pub own_marks : (f g : Forest) → Alike f g → ((k : ℕ) → times k f ≤ 1) → ((j : ℕ) → times j g ≤ 1) → Paired (λ key other. Marks key other f g) f g
own_marks Empty Empty a once few = tt
own_marks (Tree key part below rest) (Tree other second under others) (is, lower, later) once few =
    let here = only_here key key part below rest (once key) refl in
    let there = only_here other other second under others (few other) refl in
    let Q : ℕ → ℕ → Type 0 = λ k j. Marks k j (Tree key part below rest) (Tree other second under others) in (
      (
        test_same key key refl ∙ sym (test_same other other refl),
        is,
        absent_marks key other below under lower here.0 there.0,
        absent_marks key other rest others later here.1 there.1,
      ),
      is,
      paired_as (λ k j. Marks k j below under × ((1 ≤ times k below) × (1 ≤ times j under))) Q
          (λ (k j : ℕ) both.
          let one = both.1.0 in let two = both.1.1 in let single = once k in let alone = few j in (
            elsewhere key k other j (stands_off key k part below rest single (omega (arith, one))) (stands_off other j second under others alone (omega (arith, two))),
            is,
            both.0,
            absent_marks k j rest others later (omega (arith, one, single)) (omega (arith, two, alone)),
          ))
          below under (paired_both (λ k j. Marks k j below under) (λ k j. (1 ≤ times k below) × (1 ≤ times j under)) below under
          (own_marks below under lower (λ (k : ℕ). let single = once k in omega (arith, single)) (λ (j : ℕ). let alone = few j in omega (arith, alone)))
          (alike_within below under lower)),
      paired_as (λ k j. Marks k j rest others × ((1 ≤ times k rest) × (1 ≤ times j others))) Q
          (λ (k j : ℕ) both.
          let one = both.1.0 in let two = both.1.1 in let single = once k in let alone = few j in (
            elsewhere key k other j (stands_off key k part below rest single (omega (arith, one))) (stands_off other j second under others alone (omega (arith, two))),
            is,
            absent_marks k j below under lower (omega (arith, one, single)) (omega (arith, two, alone)),
            both.0,
          ))
          rest others (paired_both (λ k j. Marks k j rest others) (λ k j. (1 ≤ times k rest) × (1 ≤ times j others)) rest others
          (own_marks rest others later (λ (k : ℕ). let single = once k in omega (arith, single)) (λ (j : ℕ). let alone = few j in omega (arith, alone)))
          (alike_within rest others later)),
    )
own_marks Empty (Tree other second under others) a once few = absurd a
own_marks (Tree key part below rest) Empty a once few = absurd a

pub same_marks : (f g : Forest) → Same f g → Paired (λ key other. Marks key other f g) f g
same_marks f g same = own_marks f g same.alike same.apart.once same.others_apart.once

rooted_back : (root : ℕ) (below g : Forest) → Alike (Tree root Goals below Empty) g → IsRooted g
rooted_back root below Empty a = absurd a
rooted_back root below (Tree other second under Empty) (is, lower, later) = (other, under, ap (λ (x : Part). Tree other x under Empty) (sym is))
rooted_back root below (Tree other second under (Tree next part deeper rest)) (is, lower, later) = absurd later

pub same_back : (f g : Forest) → Same f g → Same g f
same_back f g same = record {
  alike = alike_back f g same.alike;
  apart = same.others_apart;
  others_apart = same.apart;
  rooted = rooted_back same.rooted.0 same.rooted.1 g (subst (λ (h : Forest). Alike h g) same.rooted.2 same.alike);
}

-- ---- What keys read

module _ (P : ℕ → ℕ → Type 0) where
  -- two nodes
  abbrev pub NodesPaired : Part × Forest → Part × Forest → Type 0
  NodesPaired n m = (n.0 ≡ m.0) × Paired P n.1 m.1

  pub node_paired : (k j : ℕ) (f g : Forest) → Marks k j f g → Paired P f g → OptionPaired NodesPaired (node_at k f) (node_at j g)
  node_paired k j Empty Empty marks p = tt
  node_paired k j (Tree key part below rest) (Tree other second under others) (here, same, inside, after) (holds, is, lower, later) =
      choice_paired (OptionPaired NodesPaired) (key == k) (other == j)
      (Some (part, below)) (option_or (node_at k below) (node_at k rest))
      (Some (second, under)) (option_or (node_at j under) (node_at j others))
      here (is, lower) (or_paired NodesPaired _ _ _ _ (node_paired k j below under inside lower) (node_paired k j rest others after later))
  node_paired k j Empty (Tree other second under others) marks p = absurd p
  node_paired k j (Tree key part below rest) Empty marks p = absurd p

  below_of : (a b : Option (Part × Forest)) → OptionPaired NodesPaired a b → Paired P (option_map_or (λ (n : Part × Forest). n.1) a Empty) (option_map_or (λ (n : Part × Forest). n.1) b Empty)
  below_of None None both = tt
  below_of (Some n) (Some m) both = both.1
  below_of None (Some m) both = absurd both
  below_of (Some n) None both = absurd both

  pub below_paired : (k j : ℕ) (f g : Forest) → Marks k j f g → Paired P f g → Paired P (below_at k f) (below_at j g)
  below_paired k j f g marks p = below_of (node_at k f) (node_at j g) (node_paired k j f g marks p)

  -- two nodes on the way down
  abbrev pub AncestorsPaired : Ancestor → Ancestor → Type 0
  AncestorsPaired a b = P a.key b.key × (a.part ≡ b.part) × Paired P a.before b.before

  abbrev pub PlacesPaired : Place → Place → Type 0
  PlacesPaired p q = Paired P p.before q.before × AllPaired AncestorsPaired p.above q.above

  pub place_paired : (k j : ℕ) (f g : Forest) → Marks k j f g → Paired P f g → OptionPaired PlacesPaired (place_of k f) (place_of j g)
  place_paired k j Empty Empty marks p = tt
  place_paired k j (Tree key part below rest) (Tree other second under others) (here, same, inside, after) (holds, is, lower, later) =
      let lower_place = map_paired PlacesPaired PlacesPaired (below_first key part) (below_first other second) (place_of k below) (place_of j under)
      (λ (p q : Place) both. (tt, append_paired AncestorsPaired p.above q.above _ _ both.1 ((holds, is, both.0), tt))) (place_paired k j below under inside lower) in
      let later_place = map_paired PlacesPaired PlacesPaired (after_first key part below) (after_first other second under) (place_of k rest) (place_of j others)
      (λ (p q : Place) both. ((holds, is, lower, both.0), both.1)) (place_paired k j rest others after later) in
      choice_paired (OptionPaired PlacesPaired) (key == k) (other == j)
      (Some (record { before = Empty; above = [] })) (option_or (option_map (below_first key part) (place_of k below)) (option_map (after_first key part below) (place_of k rest)))
      (Some (record { before = Empty; above = [] })) (option_or (option_map (below_first other second) (place_of j under)) (option_map (after_first other second under) (place_of j others)))
      here (tt, tt) (or_paired PlacesPaired _ _ _ _ lower_place later_place)
  place_paired k j Empty (Tree other second under others) marks p = absurd p
  place_paired k j (Tree key part below rest) Empty marks p = absurd p

  above_of : (a b : Option Place) → OptionPaired PlacesPaired a b → AllPaired AncestorsPaired (option_map_or (λ (p : Place). p.above) a []) (option_map_or (λ (p : Place). p.above) b [])
  above_of None None both = tt
  above_of (Some p) (Some q) both = both.1
  above_of None (Some q) both = absurd both
  above_of (Some p) None both = absurd both

  pub ancestors_paired : (k j : ℕ) (f g : Forest) → Marks k j f g → Paired P f g → AllPaired AncestorsPaired (ancestors k f) (ancestors j g)
  ancestors_paired k j f g marks p = above_of (place_of k f) (place_of j g) (place_paired k j f g marks p)

part_of : (P : ℕ → ℕ → Type 0) (a b : Option (Part × Forest)) → OptionPaired (NodesPaired P) a b → option_map (λ (n : Part × Forest). n.0) a ≡ option_map (λ (n : Part × Forest). n.0) b
part_of P None None both = refl
part_of P (Some n) (Some m) both = ap (λ (x : Part). Some x) both.0
part_of P None (Some m) both = absurd both
part_of P (Some n) None both = absurd both

pub part_alike : (k j : ℕ) (f g : Forest) → Marks k j f g → part_at k f ≡ part_at j g
part_alike k j f g marks = let P : ℕ → ℕ → Type 0 = λ key other. (key == k) ≡ (other == j) in part_of P (node_at k f) (node_at j g) (node_paired P k j f g marks marks)

-- ---- Untried templates

rows_step : (key other : ℕ) (part : Part) (below under rest others : Forest) → sequence_rows rest ≡ sequence_rows others → sequence_rows (Tree key part below rest) ≡ sequence_rows (Tree other part under others)
rows_step key other (Sequence row) below under rest others later = ap (λ (rows : List ℕ). row ∷ rows) later
rows_step key other Goals below under rest others later = later
rows_step key other Fallback below under rest others later = later
rows_step key other (Condition row) below under rest others later = later
rows_step key other (Action row) below under rest others later = later

pub rows_alike : (f g : Forest) → Alike f g → sequence_rows f ≡ sequence_rows g
rows_alike Empty Empty a = refl
rows_alike (Tree key part below rest) (Tree other second under others) (is, lower, later) =
    rows_step key other part below under rest others (rows_alike rest others later) ∙ ap (λ (x : Part). sequence_rows (Tree other x under others)) is
rows_alike Empty (Tree other second under others) a = absurd a
rows_alike (Tree key part below rest) Empty a = absurd a

module _ (f g : Forest) (same : Same f g) where
  abbrev P : ℕ → ℕ → Type 0
  P key other = Marks key other f g

  tried_of : (up over : List Ancestor) → AllPaired (AncestorsPaired P) up over → tried_below up f ≡ tried_below over g
  tried_of [] [] both = refl
  tried_of (a ∷ up) (b ∷ over) both =
      let lower = below_paired P a.key b.key f g both.0.0 (same_marks f g same) in
      choice_paired (λ (xs ys : List ℕ). xs ≡ ys) (is_fallback a.part) (is_fallback b.part) (sequence_rows (below_at a.key f)) [] (sequence_rows (below_at b.key g)) []
      (ap is_fallback both.0.1) (rows_alike (below_at a.key f) (below_at b.key g) (paired_alike P (below_at a.key f) (below_at b.key g) lower)) refl
  tried_of [] (b ∷ over) both = absurd both
  tried_of (a ∷ up) [] both = absurd both

  tried_alike : (k j : ℕ) → Marks k j f g → tried k f ≡ tried j g
  tried_alike k j marks = tried_of (ancestors k f) (ancestors j g) (ancestors_paired P k j f g marks (same_marks f g same))

pub untried_alike : (rows : List Row) (k j : ℕ) (f g : Forest) → Same f g → Marks k j f g → untried rows k f ≡ untried rows j g
untried_alike rows k j f g same marks =
    ap (λ (o : Option Part). untried_of rows (condition_row o) (tried k f)) (part_alike k j f g marks)
    ∙ ap (λ (done : List ℕ). untried_of rows (condition_row (part_at j g)) done) (tried_alike f g same k j marks)
