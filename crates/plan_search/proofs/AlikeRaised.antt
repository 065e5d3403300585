-- Conflicts and raises of two plan trees that differ by their keys alone.
use Rattle.std.proofs.Common.{◌≡◌, ℕ, zero, suc, ◌+◌, ◌-◌, ◌==◌, ◌&&◌, nat_lt, List, [], ◌∷◌, Option, Some, None, refl, ap, ◌∙◌, subst, arith}
use Rattle.std.specs.Prelude.{option_map}
use Rattle.std.specs.List.{filter, find}
use Rattle.spec_world.specs.declared.world.Row.{Row}
use Rattle.spec_plan.specs.declared.part.Part.{Part}
use Rattle.spec_plan.specs.declared.part.Part.TheVariants.{Goals, Sequence, Fallback, Condition, Action}
use Rattle.spec_plan.specs.Forests.{Forest, Empty, Tree, Ancestor, ancestors, count, is_sequence}
use Rattle.spec_plan.specs.Achievers.{row_threatens}
use Rattle.plan_tree.proofs.Counted.{one_of}
use Rattle.spec_plan.specs.Conflicts.{Pair, actions, conflicts, conflicts_with, first_condition, head_of, heads, heads_before, heads_in, outer_of, own_actions}
use Rattle.spec_plan.specs.Raising.{can_move, moved_in, raised, swap_at}
use Rattle.spec_plan.specs.Settling.{first_conflict}
use Rattle.plan_search.proofs.Alike.{AncestorsPaired, Alike, IsRooted, Marks, Paired, Same, ancestors_paired, marks_alike, paired_alike, same_marks}
use Rattle.plan_search.proofs.AlikeGrown.{changed_paired, changed_rooted}
use Rattle.plan_search.proofs.Nearer.{raised_many}
use Rattle.plan_search.proofs.Pairwise.{AllPaired, OptionPaired, all_map_paired, append_paired, choice_paired, filter_paired, find_paired, first_paired, flat_paired, map_paired, other_none, other_some}

-- ---- Heads and actions

abbrev ElementOf : {X : Type 0} → List X → Type 0
ElementOf {X} xs = X

-- the type of heads, which its crate keeps to itself
abbrev Head : Type 0
Head = ElementOf (heads Empty)

module _ (P : ℕ → ℕ → Type 0) where
  -- of the same row, at keys of which this holds
  abbrev HeadsPaired : Head → Head → Type 0
  HeadsPaired n m = P n.key m.key × (n.row ≡ m.row)

  condition_paired : (key other : ℕ) (part : Part) (below under rest others : Forest) → P key other → AllPaired HeadsPaired (first_condition (Tree key part below rest)) (first_condition (Tree other part under others))
  condition_paired key other (Condition row) below under rest others holds = ((holds, refl), tt)
  condition_paired key other Goals below under rest others holds = tt
  condition_paired key other (Sequence row) below under rest others holds = tt
  condition_paired key other Fallback below under rest others holds = tt
  condition_paired key other (Action row) below under rest others holds = tt

  first_condition_paired : (f g : Forest) → Paired P f g → AllPaired HeadsPaired (first_condition f) (first_condition g)
  first_condition_paired Empty Empty p = tt
  first_condition_paired (Tree key part below rest) (Tree other second under others) (holds, is, lower, later) =
      subst (λ (x : Part). AllPaired HeadsPaired (first_condition (Tree key part below rest)) (first_condition (Tree other x under others))) is (condition_paired key other part below under rest others holds)
  first_condition_paired Empty (Tree other second under others) p = absurd p
  first_condition_paired (Tree key part below rest) Empty p = absurd p

  head_paired : (key other : ℕ) (part : Part) (below under : Forest) → P key other → Paired P below under → AllPaired HeadsPaired (head_of key part below) (head_of other part under)
  head_paired key other (Condition row) below under holds lower = ((holds, refl), tt)
  head_paired key other Fallback below under holds lower = first_condition_paired below under lower
  head_paired key other Goals below under holds lower = tt
  head_paired key other (Sequence row) below under holds lower = tt
  head_paired key other (Action row) below under holds lower = tt

  heads_paired : (f g : Forest) → Paired P f g → AllPaired HeadsPaired (heads f) (heads g)
  heads_paired Empty Empty p = tt
  heads_paired (Tree key part below rest) (Tree other second under others) (holds, is, lower, later) =
      append_paired HeadsPaired (head_of key part below) (head_of other second under) (heads rest) (heads others)
      (subst (λ (x : Part). AllPaired HeadsPaired (head_of key part below) (head_of other x under)) is (head_paired key other part below under holds lower)) (heads_paired rest others later)
  heads_paired Empty (Tree other second under others) p = absurd p
  heads_paired (Tree key part below rest) Empty p = absurd p

  heads_before_paired : (up over : List Ancestor) → AllPaired (AncestorsPaired P) up over → AllPaired HeadsPaired (heads_before up) (heads_before over)
  heads_before_paired [] [] both = tt
  heads_before_paired (a ∷ up) (b ∷ over) (one, outer) =
      append_paired HeadsPaired (heads_before up) (heads_before over) (heads_in a) (heads_in b) (heads_before_paired up over outer)
      (choice_paired (AllPaired HeadsPaired) (is_sequence a.part) (is_sequence b.part) (heads a.before) [] (heads b.before) [] (ap is_sequence one.1) (heads_paired a.before b.before one.2) tt)
  heads_before_paired [] (b ∷ over) both = absurd both
  heads_before_paired (a ∷ up) [] both = absurd both

  own_paired : (key other : ℕ) (part : Part) (xs ys : List Head) → P key other → AllPaired HeadsPaired xs ys → AllPaired HeadsPaired (own_actions key part xs) (own_actions other part ys)
  own_paired key other (Action row) xs ys holds lower = ((holds, refl), tt)
  own_paired key other Goals xs ys holds lower = lower
  own_paired key other (Sequence row) xs ys holds lower = lower
  own_paired key other Fallback xs ys holds lower = lower
  own_paired key other (Condition row) xs ys holds lower = lower

  actions_paired : (f g : Forest) → Paired P f g → AllPaired HeadsPaired (actions f) (actions g)
  actions_paired Empty Empty p = tt
  actions_paired (Tree key part below rest) (Tree other second under others) (holds, is, lower, later) =
      append_paired HeadsPaired (own_actions key part (actions below)) (own_actions other second (actions under)) (actions rest) (actions others)
      (subst (λ (x : Part). AllPaired HeadsPaired (own_actions key part (actions below)) (own_actions other x (actions under))) is
      (own_paired key other part (actions below) (actions under) holds (actions_paired below under lower)))
      (actions_paired rest others later)
  actions_paired Empty (Tree other second under others) p = absurd p
  actions_paired (Tree key part below rest) Empty p = absurd p

  outer_paired : (up over : List Ancestor) → AllPaired (AncestorsPaired P) up over → AllPaired (AncestorsPaired P) (outer_of up) (outer_of over)
  outer_paired [] [] both = tt
  outer_paired (a ∷ up) (b ∷ over) both = both.1
  outer_paired [] (b ∷ over) both = absurd both
  outer_paired (a ∷ up) [] both = absurd both

-- ---- Conflicts

module _ (rows : List Row) (f g : Forest) (same : Same f g) where
  abbrev P : ℕ → ℕ → Type 0
  P key other = Marks key other f g

  abbrev PairsPaired : Pair → Pair → Type 0
  PairsPaired p q = P p.0 q.0 × P p.1 q.1

  with_paired : (n m : Head) (earlier before : List Head) → HeadsPaired P n m → AllPaired (HeadsPaired P) earlier before → AllPaired PairsPaired (conflicts_with rows n earlier) (conflicts_with rows m before)
  with_paired n m earlier before own both =
      all_map_paired (HeadsPaired P) PairsPaired (λ (h : Head). (n.key, h.key)) (λ (h : Head). (m.key, h.key))
      (filter (λ (h : Head). row_threatens rows n.row h.row) earlier) (filter (λ (h : Head). row_threatens rows m.row h.row) before)
      (λ (x y : Head) one. (own.0, one.0))
      (filter_paired (HeadsPaired P) (λ (h : Head). row_threatens rows n.row h.row) (λ (h : Head). row_threatens rows m.row h.row) earlier before
      (λ (x y : Head) one. ap (λ (r : ℕ). row_threatens rows r x.row) own.1 ∙ ap (λ (r : ℕ). row_threatens rows m.row r) one.1) both)

  conflicts_paired : AllPaired PairsPaired (conflicts rows f) (conflicts rows g)
  conflicts_paired =
      flat_paired (HeadsPaired P) PairsPaired (λ (n : Head). conflicts_with rows n (heads_before (outer_of (ancestors n.key f)))) (λ (n : Head). conflicts_with rows n (heads_before (outer_of (ancestors n.key g)))) (actions f) (actions g)
      (λ (n m : Head) own. with_paired n m (heads_before (outer_of (ancestors n.key f))) (heads_before (outer_of (ancestors m.key g))) own
      (heads_before_paired P (outer_of (ancestors n.key f)) (outer_of (ancestors m.key g))
      (outer_paired P (ancestors n.key f) (ancestors m.key g) (ancestors_paired P n.key m.key f g own.0 (same_marks f g same)))))
      (actions_paired P f g (same_marks f g same))

  first_conflict_paired : OptionPaired PairsPaired (first_conflict rows f) (first_conflict rows g)
  first_conflict_paired = first_paired PairsPaired (conflicts rows f) (conflicts rows g) conflicts_paired

pub conflict_alike : (rows : List Row) (f g : Forest) (p : Pair) → Same f g → first_conflict rows f ≡ Some p →
    (q : Pair) × (first_conflict rows g ≡ Some q) × Marks p.0 q.0 f g × Marks p.1 q.1 f g
conflict_alike rows f g p same is =
    let other = other_some (PairsPaired rows f g same) (first_conflict rows f) (first_conflict rows g) p (first_conflict_paired rows f g same) is in
    (other.0, other.1, other.2.0, other.2.1)

pub conflict_none : (rows : List Row) (f g : Forest) → Same f g → first_conflict rows f ≡ None → first_conflict rows g ≡ None
conflict_none rows f g same is = other_none (PairsPaired rows f g same) (first_conflict rows f) (first_conflict rows g) (first_conflict_paired rows f g same) is

-- ---- Raises

count_alike : (f g : Forest) → Alike f g → count f ≡ count g
count_alike Empty Empty a = refl
count_alike (Tree key part below rest) (Tree other second under others) a = ap (λ (n : ℕ). 1 + n) (count_alike rest others a.2)
count_alike Empty (Tree other second under others) a = absurd a
count_alike (Tree key part below rest) Empty a = absurd a

swap_paired : (P : ℕ → ℕ → Type 0) (place : ℕ) (f g : Forest) → Paired P f g → Paired P (swap_at place f) (swap_at place g)
swap_paired P zero Empty Empty p = tt
swap_paired P zero (Tree a x below Empty) (Tree b y under Empty) p = p
swap_paired P zero (Tree a x below (Tree c z deeper rest)) (Tree b y under (Tree d w lower others)) (holds, is, inside, (more, same, within, later)) = (more, same, within, (holds, is, inside, later))
swap_paired P zero (Tree a x below Empty) (Tree b y under (Tree d w lower others)) p = absurd p.3
swap_paired P zero (Tree a x below (Tree c z deeper rest)) (Tree b y under Empty) p = absurd p.3
swap_paired P (suc place) Empty Empty p = tt
swap_paired P (suc place) (Tree a x below rest) (Tree b y under others) (holds, is, inside, later) = (holds, is, inside, swap_paired P place rest others later)
swap_paired P place Empty (Tree b y under others) p = absurd p
swap_paired P place (Tree a x below rest) Empty p = absurd p

module _ (s r : ℕ) (f g : Forest) (same : Same f g) (marks : Marks s r f g) where
  abbrev Own : ℕ → ℕ → Type 0
  Own key other = (key == s) ≡ (other == r)

  abbrev Both : ℕ → ℕ → Type 0
  Both key other = Marks key other f g

  moves_alike : (a b : Ancestor) → AncestorsPaired Both a b → can_move a ≡ can_move b
  moves_alike a b both =
      ap (λ (x : Part). is_sequence x && nat_lt 0 (count a.before)) both.1
      ∙ ap (λ (n : ℕ). is_sequence b.part && nat_lt 0 n) (count_alike a.before b.before (paired_alike Both a.before b.before both.2))

  moved_paired : (a b : Ancestor) → AncestorsPaired Both a b → Paired Own (moved_in a f) (moved_in b g)
  moved_paired a b both =
      let many = count_alike a.before b.before (paired_alike Both a.before b.before both.2) in
      changed_paired Own Own a.key b.key (λ (part : Part). swap_at (count a.before - 1)) (λ (part : Part). swap_at (count b.before - 1))
      (λ (part : Part) (u v : Forest) p q. subst (λ (n : ℕ). Paired Own (swap_at (count a.before - 1) u) (swap_at (n - 1) v)) many (swap_paired Own (count a.before - 1) u v p))
      f g both.0 marks marks

  raised_paired : OptionPaired (Marks s r) (raised s f) (raised r g)
  raised_paired =
      map_paired (AncestorsPaired Both) (Marks s r) (λ (a : Ancestor). moved_in a f) (λ (b : Ancestor). moved_in b g) (find can_move (ancestors s f)) (find can_move (ancestors r g)) moved_paired
      (find_paired (AncestorsPaired Both) can_move can_move (ancestors s f) (ancestors r g) moves_alike (ancestors_paired Both s r f g marks (same_marks f g same)))

-- the root stays
raised_rooted : (s : ℕ) (f next : Forest) → IsRooted f → raised s f ≡ Some next → IsRooted next
raised_rooted s f next root is =
    elim (find can_move (ancestors s f)) as (λ (o : Option Ancestor). option_map (λ (a : Ancestor). moved_in a f) o ≡ Some next → IsRooted next) [
      | None ↦ λ e. absurd (cc e)
      | Some a ↦ λ e.
          let same : moved_in a f ≡ next = cc e in
          subst IsRooted same (changed_rooted a.key (λ (part : Part). swap_at (count a.before - 1)) f root)
    ] is

pub raised_same : (s r : ℕ) (f g next : Forest) → Same f g → Marks s r f g → raised s f ≡ Some next →
    (other : Forest) × (raised r g ≡ Some other) × Same next other × Marks s r next other
raised_same s r f g next same marks is =
    let now = other_some (Marks s r) (raised s f) (raised r g) next (raised_paired s r f g same marks) is in (
      now.0,
      now.1,
      record {
        alike = marks_alike s r next now.0 now.2;
        apart = record { once = λ key. let few = same.apart.once key in let kept = raised_many (λ k x. one_of k key) s f next same.apart.once is in omega (arith, few, kept) };
        others_apart = record { once = λ key. let few = same.others_apart.once key in let kept = raised_many (λ k x. one_of k key) r g now.0 same.others_apart.once now.1 in omega (arith, few, kept) };
        rooted = raised_rooted s f next same.rooted is;
      },
      now.2,
    )

pub raised_none : (s r : ℕ) (f g : Forest) → Same f g → Marks s r f g → raised s f ≡ None → raised r g ≡ None
raised_none s r f g same marks is = other_none (Marks s r) (raised s f) (raised r g) (raised_paired s r f g same marks) is
