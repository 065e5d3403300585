-- The pairs of the leaves of a term are those of its first node and of its children in order, and those of a leaf and later
-- ones are parted by the steps that lead to it.
use Rattle.std.proofs.Common.{◌≡◌, ◌⊎◌, inl, inr, ℕ, zero, suc, ◌+◌, ◌-◌, ◌<◌, ◌≤◌, List, [], ◌∷◌, ◌++◌, map, take, drop, length, get_or, nat_lt, cond, Bool, true, false, Result, Ok, Err, OnOk, refl, sym, ap, subst, ◌∙◌, arith}
use Rattle.std.specs.List.{Contains}
use Rattle.std.proofs.Math.Seq.{take-append_seam, take-length}
use Rattle.std.proofs.lemmas.Bool.{cases_lt, cond_both, cond-true, cond-false, le-ltb, lt-ltb, ltb-false, ltb-true}
use Rattle.std.specs.List.Sorted.{IsPartitionPoint, IsPartitionedBy}
use Rattle.std.proofs.lemmas.List.{append-nil, append_assoc, length-append}
use Rattle.spec_exclusive.specs.declared.meeting.Meeting.{Meeting}
use Rattle.spec_exclusive.specs.declared.pair.Pair.{Pair}
use Rattle.spec_exclusive.specs.Meetings.{meeting_at, meetings}
use Rattle.spec_exclusive.specs.Pairs.{may_meet, pair_of, pairs_among, pairs_with}
use Rattle.spec_tree.specs.declared.term.Kind.{Kind}
use Rattle.spec_tree.specs.declared.term.Term.{Term, out-Term, fold_out-Term}
use Rattle.spec_tree.specs.Terms.{node_count}
use Rattle.tree_dead.proofs.Marked.{count_of_node}
use Rattle.tree_exclusive.specs.declared.pairs.Found.{Found}
use Rattle.tree_exclusive.specs.declared.steps.Step.{Step}
use Rattle.tree_exclusive.specs.Steps.{IsFound, Rising, Ways, below, beyond, by_steps, pairs_from, steps_after, steps_below, ways, ways_of_node}
use Rattle.tree_exclusive.proofs.Ways.{same, with_same}

-- ---- The leaves before a uid, and those after it

pub parted : (end : ℕ) (xs : List ℕ) → below end xs ++ beyond end xs ≡ xs
parted end [] = refl
parted end (x ∷ xs) = by (parted end xs) (nat_lt x end)
  where
    by : below end xs ++ beyond end xs ≡ xs → (b : Bool) → cond b (x ∷ below end xs) [] ++ cond b (beyond end xs) (x ∷ xs) ≡ x ∷ xs
    by rest true = ap (λ (ys : List ℕ). x ∷ ys) rest
    by rest false = refl

module _ (end further : ℕ) (more : end ≤ further) where
  pub below_further : (xs : List ℕ) → below further xs ≡ below end xs ++ below further (beyond end xs)
  below_further [] = refl
  below_further (x ∷ xs) = by (below_further xs) (nat_lt x end) refl
    where
      by : below further xs ≡ below end xs ++ below further (beyond end xs) → (b : Bool) → nat_lt x end ≡ b →
          below further (x ∷ xs) ≡ cond b (x ∷ below end xs) [] ++ below further (cond b (beyond end xs) (x ∷ xs))
      by rest true e =
          cond-true (nat_lt x further) (x ∷ below further xs) [] (lt-ltb x further (omega (arith, ltb-true x end e, more)))
          ∙ ap (λ (ys : List ℕ). x ∷ ys) rest
      by rest false e = refl

  pub beyond_further : (xs : List ℕ) → beyond further (beyond end xs) ≡ beyond further xs
  beyond_further [] = refl
  beyond_further (x ∷ xs) = by (beyond_further xs) (nat_lt x end) refl
    where
      by : beyond further (beyond end xs) ≡ beyond further xs → (b : Bool) → nat_lt x end ≡ b → beyond further (cond b (beyond end xs) (x ∷ xs)) ≡ beyond further (x ∷ xs)
      by rest true e =
          rest
          ∙ sym (cond-true (nat_lt x further) (beyond further xs) (x ∷ xs) (lt-ltb x further (omega (arith, ltb-true x end e, more))))
      by rest false e = refl

pub beyond_rises : (least end : ℕ) (xs : List ℕ) → Rising least xs → Rising end (beyond end xs)
beyond_rises least end [] rising = tt
beyond_rises least end (x ∷ xs) rising =
    cond_both (nat_lt x end) (beyond end xs) (x ∷ xs) (λ (ys : List ℕ). Rising end ys)
    (λ e. beyond_rises (x + 1) end xs rising.1)
    (λ e. (ltb-false x end e, rising.1))

pub below_rises : (least end : ℕ) (xs : List ℕ) → Rising least xs → Rising least (below end xs)
below_rises least end [] rising = tt
below_rises least end (x ∷ xs) rising =
    cond_both (nat_lt x end) (x ∷ below end xs) [] (λ (ys : List ℕ). Rising least ys)
    (λ e. (rising.0, below_rises (x + 1) end xs rising.1))
    (λ e. tt)

pub rises_from : (least lower : ℕ) (xs : List ℕ) → lower ≤ least → Rising least xs → Rising lower xs
rises_from least lower [] low rising = tt
rises_from least lower (x ∷ xs) low rising = (omega (arith, low, rising.0), rising.1)

pub none_below : (least end : ℕ) (xs : List ℕ) → end ≤ least → Rising least xs → below end xs ≡ []
none_below least end [] low rising = refl
none_below least end (x ∷ xs) low rising = cond-false (nat_lt x end) (x ∷ below end xs) [] (le-ltb x end (omega (arith, low, rising.0)))

pub all_beyond : (least end : ℕ) (xs : List ℕ) → end ≤ least → Rising least xs → beyond end xs ≡ xs
all_beyond least end [] low rising = refl
all_beyond least end (x ∷ xs) low rising = cond-false (nat_lt x end) (beyond end xs) (x ∷ xs) (le-ltb x end (omega (arith, low, rising.0)))

-- ---- The place of the first one after a uid

pub not_after : (end : ℕ) (xs : List ℕ) (i d : ℕ) → i < length xs → end ≤ get_or xs i d → length (below end xs) ≤ i
not_after end [] i d within past = omega (arith, within)
not_after end (x ∷ xs) zero d within past = omega (arith, ap length (cond-false (nat_lt x end) (x ∷ below end xs) [] (le-ltb x end past)))
not_after end (x ∷ xs) (suc i) d within past =
    cond_both (nat_lt x end) (x ∷ below end xs) [] (λ (ys : List ℕ). length ys ≤ suc i)
    (λ e. omega (arith, not_after end xs i d (omega (arith, within)) past))
    (λ e. omega arith)

pub is_before : (least end : ℕ) (xs : List ℕ) (i d : ℕ) → Rising least xs → i < length xs → get_or xs i d < end → (least ≤ get_or xs i d) × (i < length (below end xs))
is_before least end [] i d rising within before = absurd (omega (arith, within))
is_before least end (x ∷ xs) zero d rising within before =
    (rising.0, omega (arith, ap length (cond-true (nat_lt x end) (x ∷ below end xs) [] (lt-ltb x end before))))
is_before least end (x ∷ xs) (suc i) d rising within before =
    let rest = is_before (x + 1) end xs i d rising.1 (omega (arith, within)) before in (
      omega (arith, rising.0, rest.0),
      omega (arith, rest.1, ap length (cond-true (nat_lt x end) (x ∷ below end xs) [] (lt-ltb x end (omega (arith, rest.0, before))))),
    )

pub take_below : (end : ℕ) (xs : List ℕ) → take (length (below end xs)) xs ≡ below end xs
take_below end [] = refl
take_below end (x ∷ xs) = by (take_below end xs) (nat_lt x end)
  where
    by : take (length (below end xs)) xs ≡ below end xs → (b : Bool) → take (length (cond b (x ∷ below end xs) [])) (x ∷ xs) ≡ cond b (x ∷ below end xs) []
    by rest true = ap (λ (ys : List ℕ). x ∷ ys) rest
    by rest false = refl

pub drop_below : (end : ℕ) (xs : List ℕ) → drop (length (below end xs)) xs ≡ beyond end xs
drop_below end [] = refl
drop_below end (x ∷ xs) = by (drop_below end xs) (nat_lt x end)
  where
    by : drop (length (below end xs)) xs ≡ beyond end xs → (b : Bool) → drop (length (cond b (x ∷ below end xs) [])) (x ∷ xs) ≡ cond b (beyond end xs) (x ∷ xs)
    by rest true = rest
    by rest false = refl

pub is_below : (end : ℕ) (xs : List ℕ) (i d : ℕ) → i < length (below end xs) → get_or xs i d < end
is_below end [] i d within = absurd (omega (arith, within))
is_below end (x ∷ xs) i d within = by i (nat_lt x end) refl within (is_below end xs)
  where
    by : (i : ℕ) (b : Bool) → nat_lt x end ≡ b → i < length (cond b (x ∷ below end xs) []) → ((i d : ℕ) → i < length (below end xs) → get_or xs i d < end) → get_or (x ∷ xs) i d < end
    by zero true e within rest = ltb-true x end e
    by (suc i) true e within rest = rest i d (omega (arith, within))
    by i false e within rest = absurd (omega (arith, within))

pub few_below : (end : ℕ) (xs : List ℕ) → length (below end xs) + length (beyond end xs) ≡ length xs
few_below end xs = sym (length-append (below end xs) (beyond end xs)) ∙ ap length (parted end xs)

-- the number of leaves that a search by halves gives
pub partition_is : (least end : ℕ) (xs : List ℕ) (k : ℕ) → Rising least xs → k ≤ length xs → IsPartitionPoint (λ y. nat_lt y end ≡ true) (λ y. nat_lt y end ≡ false) xs k → k ≡ length (below end xs)
partition_is least end xs k rising within (before, after) = omega (arith, low k within before, high (cases_lt k (length xs)))
  where
    low : (k : ℕ) → k ≤ length xs → ((i d : ℕ) → 0 ≤ i → i < k → nat_lt (get_or xs i d) end ≡ true) → k ≤ length (below end xs)
    low zero within before = omega arith
    low (suc j) within before =
        let is : (least ≤ get_or xs j 0) × (j < length (below end xs)) =
        is_before least end xs j 0 rising (omega (arith, within)) (ltb-true (get_or xs j 0) end (before j 0 (omega arith) (omega arith))) in
        omega (arith, is.1)

    high : (k < length xs) ⊎ (length xs ≤ k) → length (below end xs) ≤ k
    high (inl less) = not_after end xs k 0 less (ltb-false (get_or xs k 0) end (after k 0 (omega arith) less))
    high (inr all) = omega (arith, all, few_below end xs)

-- leaves that rise are parted by a uid
pub rising_parts : (least end : ℕ) (xs : List ℕ) → Rising least xs → IsPartitionedBy (λ y. nat_lt y end) xs
rising_parts least end xs rising i j d low within before =
    let is : (least ≤ get_or xs j d) × (j < length (below end xs)) = is_before least end xs j d rising within (ltb-true (get_or xs j d) end before) in
    lt-ltb (get_or xs i d) end (is_below end xs i d (omega (arith, low, is.1)))

-- ---- The first hundred pairs

-- the first so many of some and of those after them
pub first_of_both : {A : Type 0} (n : ℕ) (xs ys : List A) → take n xs ++ take (n - length (take n xs)) ys ≡ take n (xs ++ ys)
first_of_both zero xs ys = refl
first_of_both (suc n) [] ys = let left : suc n - 0 ≡ suc n = omega arith in ap (λ (k : ℕ). take k ys) left
first_of_both (suc n) (x ∷ xs) ys =
    let left : suc n - suc (length (take n xs)) ≡ n - length (take n xs) = omega arith in
    ap (λ (k : ℕ). x ∷ (take n xs ++ take k ys)) left ∙ ap (λ (zs : List _). x ∷ zs) (first_of_both n xs ys)

-- one more is kept
pub one_kept : {A : Type 0} (xs ys rest all : List A) (x : A) → length xs < 100 → ys ≡ xs ++ (x ∷ []) → xs ++ take (100 - length xs) (x ∷ rest) ≡ all → ys ++ take (100 - length ys) rest ≡ all
one_kept xs ys rest all x few is known =
    let many : length ys ≡ length xs + 1 = ap length is ∙ length-append xs (x ∷ []) in
    let left : 100 - length xs ≡ suc (100 - length ys) = omega (arith, few, many) in
    ap (λ (zs : List _). zs ++ take (100 - length ys) rest) is
    ∙ append_assoc xs (x ∷ []) (take (100 - length ys) rest)
    ∙ ap (λ (k : ℕ). xs ++ take k (x ∷ rest)) (sym left)
    ∙ known

-- no more is kept
pub none_kept : {A : Type 0} (xs rest all : List A) → 100 ≤ length xs → xs ++ take (100 - length xs) rest ≡ all → xs ≡ all
none_kept xs rest all many known =
    let left : 100 - length xs ≡ 0 = omega (arith, many) in
    sym (append-nil xs) ∙ ap (λ (k : ℕ). xs ++ take k rest) (sym left) ∙ known

-- ---- A leaf and later ones

-- leaves that meet a leaf so are all pairs with it, or none is
pub alike : (meeting : Meeting) (u : ℕ) (later : List ℕ) → pairs_with (λ u v. meeting) u later ≡ cond (may_meet meeting) (map (λ v. pair_of u v meeting) later) []
alike meeting u [] = by (may_meet meeting)
  where
    by : (b : Bool) → pairs_with (λ u v. meeting) u [] ≡ cond b (map (λ v. pair_of u v meeting) []) []
    by true = refl
    by false = refl
alike meeting u (v ∷ later) = by (alike meeting u later) (may_meet meeting) refl
  where
    by : pairs_with (λ u v. meeting) u later ≡ cond (may_meet meeting) (map (λ v. pair_of u v meeting) later) [] → (b : Bool) → may_meet meeting ≡ b → cond (may_meet meeting) (pair_of u v meeting ∷ pairs_with (λ u v. meeting) u later) (pairs_with (λ u v. meeting) u later) ≡ cond b (pair_of u v meeting ∷ map (λ v. pair_of u v meeting) later) []
    by rest true e = cond-true (may_meet meeting) _ _ e ∙ ap (λ (ps : List Pair). pair_of u v meeting ∷ ps) (rest ∙ cond-true (may_meet meeting) _ _ e)
    by rest false e = cond-false (may_meet meeting) _ _ e ∙ rest ∙ cond-false (may_meet meeting) _ _ e

-- one more leaf among the later ones
pub with_one : (meeting : ℕ → ℕ → Meeting) (u v : ℕ) (m : Meeting) (later : List ℕ) (ps : List Pair) → meeting u v ≡ m → pairs_with meeting u later ≡ ps →
    pairs_with meeting u (v ∷ later) ≡ cond (may_meet m) (pair_of u v m ∷ ps) ps
with_one meeting u v m later ps is are =
    ap (λ (m : Meeting). cond (may_meet m) (pair_of u v m ∷ pairs_with meeting u later) (pairs_with meeting u later)) is
    ∙ ap (λ (ps : List Pair). cond (may_meet m) (pair_of u v m ∷ ps) ps) are

module _ (step : Step) (steps : List Step) (u : ℕ) where
  -- those after the child to which a step leads
  outside : (least : ℕ) (later : List ℕ) → step.end ≤ least → Rising least later → pairs_with (λ w. by_steps (step ∷ steps)) u later ≡ pairs_with (λ w v. step.meeting) u later
  outside least [] low rising = refl
  outside least (v ∷ later) low rising =
      with_one (λ w. by_steps (step ∷ steps)) u v step.meeting later (pairs_with (λ w v. step.meeting) u later)
      (cond-false (nat_lt v step.end) (by_steps steps v) step.meeting (le-ltb v step.end (omega (arith, low, rising.0))))
      (outside (v + 1) later (omega (arith, low, rising.0)) rising.1)

  -- later leaves are met by the steps below the first child that they are not in
  pub by_step : (least : ℕ) (later : List ℕ) → Rising least later →
      pairs_with (λ w. by_steps (step ∷ steps)) u later ≡ pairs_with (λ w. by_steps steps) u (below step.end later) ++ pairs_with (λ w v. step.meeting) u (beyond step.end later)
  by_step least [] rising = refl
  by_step least (v ∷ later) rising = by (by_step (v + 1) later rising.1) (nat_lt v step.end) refl
    where
      one : Meeting
      one = by_steps steps v

      inside : List Pair
      inside = pairs_with (λ w. by_steps steps) u (below step.end later)

      after : List Pair
      after = pairs_with (λ w v. step.meeting) u (beyond step.end later)

      kept : (b : Bool) → cond b (pair_of u v one ∷ (inside ++ after)) (inside ++ after) ≡ cond b (pair_of u v one ∷ inside) inside ++ after
      kept true = refl
      kept false = refl

      by : pairs_with (λ w. by_steps (step ∷ steps)) u later ≡ inside ++ after → (b : Bool) → nat_lt v step.end ≡ b →
          pairs_with (λ w. by_steps (step ∷ steps)) u (v ∷ later) ≡ pairs_with (λ w. by_steps steps) u (cond b (v ∷ below step.end later) []) ++ pairs_with (λ w v. step.meeting) u (cond b (beyond step.end later) (v ∷ later))
      by rest true e =
          with_one (λ w. by_steps (step ∷ steps)) u v one later (inside ++ after) (cond-true (nat_lt v step.end) one step.meeting e) rest
          ∙ kept (may_meet one)
      by rest false e = outside v (v ∷ later) (ltb-false v step.end e) (omega arith, rising.1)

-- ---- The first of some, and the others

-- all but the first
abbrev pub others : {A : Type 0} → List A → List A
others xs = take (length xs - 1) (drop 1 xs)

pub after_first : {A : Type 0} (x : A) (xs : List A) → others (x ∷ xs) ≡ xs
after_first x xs = let fewer : length (x ∷ xs) - 1 ≡ length xs = omega arith in ap (λ n. take n xs) fewer ∙ take-length xs

-- later leaves are met by the first step, and by the others
pub with_steps : (steps : List Step) (d : Step) (u : ℕ) (later : List ℕ) → 1 ≤ length steps → Rising 0 later →
    pairs_with (λ w. by_steps steps) u later
    ≡ pairs_with (λ w. by_steps (others steps)) u (below (get_or steps 0 d).end later) ++ pairs_with (λ w v. (get_or steps 0 d).meeting) u (beyond (get_or steps 0 d).end later)
with_steps [] d u later some rising = absurd (omega (arith, some))
with_steps (step ∷ steps) d u later some rising =
    by_step step steps u 0 later rising
    ∙ ap (λ (xs : List Step). pairs_with (λ w. by_steps xs) u (below step.end later) ++ pairs_with (λ w v. step.meeting) u (beyond step.end later)) (sym (after_first step steps))

-- no step leads on
pub no_steps : (steps : List Step) → length steps < 1 → steps ≡ []
no_steps [] few = refl
no_steps (step ∷ steps) few = absurd (omega (arith, few))

-- the pairs of a leaf that comes first
pub own_pairs : (steps : List Step) (uid : ℕ) (leaves : List ℕ) → 1 ≤ length leaves → get_or leaves 0 0 ≡ uid → Rising uid leaves →
    pairs_from (λ u. steps) (below (uid + 1) leaves) (beyond (uid + 1) leaves) ≡ pairs_with (λ w. by_steps steps) uid (others leaves)
own_pairs steps uid [] some is rising = absurd (omega (arith, some))
own_pairs steps uid (x ∷ xs) some is rising =
    let inside : nat_lt x (uid + 1) ≡ true = lt-ltb x (uid + 1) (omega (arith, is)) in
    let none : below (uid + 1) xs ≡ [] = none_below (x + 1) (uid + 1) xs (omega (arith, is)) rising.1 in
    let all : beyond (uid + 1) xs ≡ xs = all_beyond (x + 1) (uid + 1) xs (omega (arith, is)) rising.1 in
    ap (λ (us : List ℕ). pairs_from (λ u. steps) us (beyond (uid + 1) (x ∷ xs))) (cond-true (nat_lt x (uid + 1)) (x ∷ below (uid + 1) xs) [] inside ∙ ap (λ (us : List ℕ). x ∷ us) none)
    ∙ ap (λ (us : List ℕ). pairs_from (λ u. steps) (x ∷ []) us) (cond-true (nat_lt x (uid + 1)) (beyond (uid + 1) xs) (x ∷ xs) inside ∙ all)
    ∙ append-nil (pairs_with (λ w. by_steps steps) x xs)
    ∙ ap (λ (u : ℕ). pairs_with (λ w. by_steps steps) u xs) is
    ∙ ap (λ (us : List ℕ). pairs_with (λ w. by_steps steps) uid us) (sym (after_first x xs))

-- the last one leaves
pub popped : {A : Type 0} (xs ys : List A) (x : A) → ys ≡ xs ++ (x ∷ []) → take (length ys - 1) ys ≡ xs
popped xs ys x is =
    let many : length ys - 1 ≡ length xs = omega (arith, ap length is, length-append xs (x ∷ [])) in
    ap (λ (n : ℕ). take n ys) many ∙ ap (λ (zs : List _). take (length xs) zs) is ∙ take-append_seam xs (x ∷ [])

-- what follows from the value of an answer
pub on_ok : {A E : Type 0} {P Q : Type 0} (r : Result A E) → (P → Q) → OnOk r P → OnOk r Q
on_ok (Ok a) f p = f p
on_ok (Err e) f p = tt

-- ---- Leaves in order

pub from_append : (steps : ℕ → List Step) (us ws after : List ℕ) → pairs_from steps (us ++ ws) after ≡ pairs_from steps us (ws ++ after) ++ pairs_from steps ws after
from_append steps [] ws after = refl
from_append steps (u ∷ us) ws after =
    ap (λ (later : List ℕ). pairs_with (λ w. by_steps (steps w)) u later ++ pairs_from steps (us ++ ws) after) (append_assoc us ws after)
    ∙ ap (λ (ps : List Pair). pairs_with (λ w. by_steps (steps w)) u (us ++ (ws ++ after)) ++ ps) (from_append steps us ws after)
    ∙ sym (append_assoc (pairs_with (λ w. by_steps (steps w)) u (us ++ (ws ++ after))) (pairs_from steps us (ws ++ after)) (pairs_from steps ws after))

-- how a leaf and later ones meet depends on the steps to this leaf alone
pub same_with : (f g : ℕ → List Step) (u : ℕ) (later : List ℕ) → f u ≡ g u → pairs_with (λ w. by_steps (f w)) u later ≡ pairs_with (λ w. by_steps (g w)) u later
same_with f g u [] is = refl
same_with f g u (v ∷ later) is =
    with_one (λ w. by_steps (f w)) u v (by_steps (g u) v) later (pairs_with (λ w. by_steps (g w)) u later) (ap (λ (steps : List Step). by_steps steps v) is) (same_with f g u later is)

pub same_from : (f g : ℕ → List Step) (least end : ℕ) (xs after : List ℕ) → Rising least xs → ((u : ℕ) → least ≤ u → u < end → f u ≡ g u) →
    pairs_from f (below end xs) after ≡ pairs_from g (below end xs) after
same_from f g least end [] after rising is = refl
same_from f g least end (x ∷ xs) after rising is =
    by (same_from f g (x + 1) end xs after rising.1 (λ u low high. is u (omega (arith, rising.0, low)) high)) (nat_lt x end) refl
  where
    by : pairs_from f (below end xs) after ≡ pairs_from g (below end xs) after → (b : Bool) → nat_lt x end ≡ b → pairs_from f (cond b (x ∷ below end xs) []) after ≡ pairs_from g (cond b (x ∷ below end xs) []) after
    by rest true e =
        ap (λ (ps : List Pair). ps ++ pairs_from f (below end xs) after) (same_with f g x (below end xs ++ after) (is x rising.0 (ltb-true x end e)))
        ∙ ap (λ (ps : List Pair). pairs_with (λ w. by_steps (g w)) x (below end xs ++ after) ++ ps) rest
    by rest false e = refl

-- the leaves up to a uid, and then those up to a later one
pub in_turn : (f g h : ℕ → List Step) (least end further : ℕ) (xs : List ℕ) → end ≤ further → Rising least xs →
    ((u : ℕ) → least ≤ u → u < end → f u ≡ g u) → ((u : ℕ) → end ≤ u → u < further → f u ≡ h u) →
    pairs_from f (below further xs) (beyond further xs) ≡ pairs_from g (below end xs) (beyond end xs) ++ pairs_from h (below further (beyond end xs)) (beyond further (beyond end xs))
in_turn f g h least end further xs more rising first second =
    let rest : List ℕ = beyond end xs in
    ap (λ (ys : List ℕ). pairs_from f ys (beyond further xs)) (below_further end further more xs)
    ∙ ap (λ (ys : List ℕ). pairs_from f (below end xs ++ below further rest) ys) (sym (beyond_further end further more xs))
    ∙ from_append f (below end xs) (below further rest) (beyond further rest)
    ∙ ap (λ (ys : List ℕ). pairs_from f (below end xs) ys ++ pairs_from f (below further rest) (beyond further rest)) (parted further rest)
    ∙ ap (λ (ps : List Pair). ps ++ pairs_from f (below further rest) (beyond further rest)) (same_from f g least end xs rest rising first)
    ∙ ap (λ (ps : List Pair). pairs_from g (below end xs) rest ++ ps) (same_from f h end further rest (beyond further rest) (beyond_rises least end xs rising) second)

-- all leaves of a term, of which none comes after it
pub among : (t : Term) (least : ℕ) (leaves : List ℕ) → Rising least leaves → pairs_from (λ u. (ways t).steps 1 u) leaves [] ≡ pairs_among ((meetings t).meeting 1) leaves
among t least [] rising = refl
among t least (u ∷ us) rising =
    ap (λ (later : List ℕ). pairs_with (λ w. by_steps ((ways t).steps 1 w)) u later ++ pairs_from (λ w. (ways t).steps 1 w) us []) (append-nil us)
    ∙ ap (λ (ps : List Pair). ps ++ pairs_from (λ w. (ways t).steps 1 w) us [])
    (with_same (λ w. by_steps ((ways t).steps 1 w)) ((meetings t).meeting 1) u (u + 1) us (omega arith) rising.1 (λ v less. (same t).meets 1 u v less))
    ∙ ap (λ (ps : List Pair). pairs_with ((meetings t).meeting 1) u us ++ ps) (among t (u + 1) us rising.1)

-- all leaves come before a uid
pub all_below : (end : ℕ) (xs : List ℕ) → ((p : ℕ) → Contains xs p → p < end) → below end xs ≡ xs
all_below end [] before = refl
all_below end (x ∷ xs) before =
    cond-true (nat_lt x end) (x ∷ below end xs) [] (lt-ltb x end (before x (zero, omega arith, refl)))
    ∙ ap (λ (ys : List ℕ). x ∷ ys) (all_below end xs (λ p has. before p (suc has.0, omega (arith, has.1), has.2)))

pub none_beyond : (end : ℕ) (xs : List ℕ) → ((p : ℕ) → Contains xs p → p < end) → beyond end xs ≡ []
none_beyond end [] before = refl
none_beyond end (x ∷ xs) before =
    cond-true (nat_lt x end) (beyond end xs) (x ∷ xs) (lt-ltb x end (before x (zero, omega arith, refl)))
    ∙ none_beyond end xs (λ p has. before p (suc has.0, omega (arith, has.1), has.2))

-- the pairs of all leaves of a term that rise from 1
pub whole_pairs : (t : Term) (end : ℕ) (leaves : List ℕ) → Rising 1 leaves → ((p : ℕ) → Contains leaves p → p < end) →
    pairs_from (steps_after [] 1 t) (below end leaves) (beyond end leaves) ≡ pairs_among ((meetings t).meeting 1) leaves
whole_pairs t end leaves rising before =
    ap (λ (us : List ℕ). pairs_from (steps_after [] 1 t) us (beyond end leaves)) (all_below end leaves before)
    ∙ ap (λ (us : List ℕ). pairs_from (steps_after [] 1 t) leaves us) (none_beyond end leaves before)
    ∙ among t 1 leaves rising

-- ---- A node and its children

-- the steps to a node below some children, of which the first has this place and this uid, after those to their parent
abbrev pub steps_below_of : List Step → Kind → ℕ → ℕ → List Term → ℕ → List Step
steps_below_of outer kind place uid cs u = outer ++ steps_below kind place uid (map ways cs) u

-- .. to a node of the first child
pub first_child : (outer : List Step) (kind : Kind) (place uid u : ℕ) (c : Term) (cs : List Term) → u < uid + node_count c →
    steps_below_of outer kind place uid (c ∷ cs) u ≡ (outer ++ (record { end = uid + node_count c; meeting = meeting_at kind place } ∷ [])) ++ (ways c).steps uid u
first_child outer kind place uid u c cs less =
    ap (λ (n : ℕ). outer ++ cond (nat_lt u (uid + n)) (record { end = uid + n; meeting = meeting_at kind place } ∷ (ways c).steps uid u) (steps_below kind (place + 1) (uid + n) (map ways cs) u)) (same c).count
    ∙ ap (λ (steps : List Step). outer ++ steps) (cond-true (nat_lt u (uid + node_count c)) _ _ (lt-ltb u (uid + node_count c) less))
    ∙ sym (append_assoc outer (record { end = uid + node_count c; meeting = meeting_at kind place } ∷ []) ((ways c).steps uid u))

-- .. to one of those after it
pub next_child : (outer : List Step) (kind : Kind) (place uid u : ℕ) (c : Term) (cs : List Term) → uid + node_count c ≤ u →
    steps_below_of outer kind place uid (c ∷ cs) u ≡ steps_below_of outer kind (place + 1) (uid + node_count c) cs u
next_child outer kind place uid u c cs past =
    ap (λ (n : ℕ). outer ++ cond (nat_lt u (uid + n)) (record { end = uid + n; meeting = meeting_at kind place } ∷ (ways c).steps uid u) (steps_below kind (place + 1) (uid + n) (map ways cs) u)) (same c).count
    ∙ ap (λ (steps : List Step). outer ++ steps) (cond-false (nat_lt u (uid + node_count c)) _ _ (le-ltb u (uid + node_count c) past))

pub ways_of_term : (t : Term) (uid u : ℕ) (ts : List Term) → ts ≡ (out-Term t).children →
    (ways t).steps uid u ≡ cond (nat_lt uid u) (steps_below (out-Term t).kind 0 (uid + 1) (map ways ts) u) []
ways_of_term t uid u ts is =
    ap (λ (w : Ways). w.steps uid u) (fold_out-Term Ways ways_of_node t)
    ∙ ap (λ (xs : List Term). cond (nat_lt uid u) (steps_below (out-Term t).kind 0 (uid + 1) (map ways xs) u) []) (sym is)

-- the pairs of the leaves of a term and of those after it are the pairs of its first node, and those of its children
pub node_pairs : (outer : List Step) (t : Term) (uid : ℕ) (ts : List Term) (leaves : List ℕ) → ts ≡ (out-Term t).children → Rising uid leaves →
    let end : ℕ = uid + node_count t in
    let rest : List ℕ = beyond (uid + 1) leaves in
    pairs_from (steps_after outer uid t) (below end leaves) (beyond end leaves)
    ≡ pairs_from (λ u. outer) (below (uid + 1) leaves) rest ++ pairs_from (steps_below_of outer (out-Term t).kind 0 (uid + 1) ts) (below end rest) (beyond end rest)
node_pairs outer t uid ts leaves is rising =
    in_turn (steps_after outer uid t) (λ u. outer) (steps_below_of outer (out-Term t).kind 0 (uid + 1) ts) uid (uid + 1) (uid + node_count t) leaves
    (omega (arith, count_of_node t ts is)) rising
    (λ u low high. ap (λ (steps : List Step). outer ++ steps) (ways_of_term t uid u ts is ∙ cond-false (nat_lt uid u) _ _ (le-ltb uid u (omega (arith, high)))) ∙ append-nil outer)
    (λ u low high. ap (λ (steps : List Step). outer ++ steps) (ways_of_term t uid u ts is ∙ cond-true (nat_lt uid u) _ _ (lt-ltb uid u (omega (arith, low)))))

-- .. of some children are those of the first one, and those of the others
pub child_pairs : (outer : List Step) (kind : Kind) (place uid further : ℕ) (c : Term) (cs : List Term) (leaves : List ℕ) → uid + node_count c ≤ further → Rising uid leaves →
    let end : ℕ = uid + node_count c in
    let rest : List ℕ = beyond end leaves in
    pairs_from (steps_below_of outer kind place uid (c ∷ cs)) (below further leaves) (beyond further leaves)
    ≡ pairs_from (steps_after (outer ++ (record { end = end; meeting = meeting_at kind place } ∷ [])) uid c) (below end leaves) rest
    ++ pairs_from (steps_below_of outer kind (place + 1) end cs) (below further rest) (beyond further rest)
child_pairs outer kind place uid further c cs leaves more rising =
    in_turn (steps_below_of outer kind place uid (c ∷ cs)) (steps_after (outer ++ (record { end = uid + node_count c; meeting = meeting_at kind place } ∷ [])) uid c) (steps_below_of outer kind (place + 1) (uid + node_count c) cs)
    uid (uid + node_count c) further leaves more rising
    (λ u low high. first_child outer kind place uid u c cs high)
    (λ u low high. next_child outer kind place uid u c cs low)

-- no children are left
pub no_more_pairs : (steps : ℕ → List Step) (least end : ℕ) (leaves : List ℕ) → end ≤ least → Rising least leaves → pairs_from steps (below end leaves) (beyond end leaves) ≡ []
no_more_pairs steps least end leaves low rising = ap (λ (us : List ℕ). pairs_from steps us (beyond end leaves)) (none_below least end leaves low rising)

-- ---- What was found so far

-- these were found, after those found before, and those still to come make the whole
pub record FoundSoFar (before found : Found) (left all : List Pair) : Type 0 where
  pub so_far : (pairs : List Pair) → IsFound before pairs → List Pair
  pub are : (pairs : List Pair) (was : IsFound before pairs) → IsFound found (so_far pairs was)
  pub whole : (pairs : List Pair) (was : IsFound before pairs) → so_far pairs was ++ left ≡ pairs ++ all

-- at first nothing was found, or what stands before the others
pub found_first : (before found : Found) (first left all : List Pair) → ((pairs : List Pair) → IsFound before pairs → IsFound found (pairs ++ first)) → all ≡ first ++ left → FoundSoFar before found left all
found_first before found first left all is parts = record {
  so_far = λ pairs was. pairs ++ first;
  are = is;
  whole = λ pairs was. append_assoc pairs first left ∙ ap (λ (ps : List Pair). pairs ++ ps) (sym parts);
}

-- more was found
pub found_more : (before found found1 : Found) (more left left1 all : List Pair) → FoundSoFar before found left all → ((pairs : List Pair) → IsFound found pairs → IsFound found1 (pairs ++ more)) → left ≡ more ++ left1 → FoundSoFar before found1 left1 all
found_more before found found1 more left left1 all known is parts = record {
  so_far = λ pairs was. known.so_far pairs was ++ more;
  are = λ pairs was. is (known.so_far pairs was) (known.are pairs was);
  whole = λ pairs was. append_assoc (known.so_far pairs was) more left1 ∙ ap (λ (ps : List Pair). known.so_far pairs was ++ ps) (sym parts) ∙ known.whole pairs was;
}

-- nothing is left
pub found_all : (before found : Found) (left all : List Pair) → FoundSoFar before found left all → left ≡ [] → (pairs : List Pair) → IsFound before pairs → IsFound found (pairs ++ all)
found_all before found left all known none pairs was =
    subst (λ (ps : List Pair). IsFound found ps) (sym (append-nil (known.so_far pairs was)) ∙ ap (λ (ps : List Pair). known.so_far pairs was ++ ps) (sym none) ∙ known.whole pairs was) (known.are pairs was)
