-- Two leaves with listed IDs are a pair of those that may be held together, or they are never held together.
use Rattle.std.proofs.Common.{◌≡◌, ◌⊎◌, ⊎_elim, inl, inr, ℕ, zero, suc, ◌+◌, ◌<◌, ◌≤◌, List, [], ◌∷◌, ◌++◌, map, filter, length, nat_eq, Bool, true, false, ◌&&◌, not, refl, sym, ap, subst, ◌∙◌, arith}
use Rattle.std.specs.List.{Contains, flat_map, list_any}
use Rattle.std.proofs.lemmas.Bool.{cond_both, cond-true}
use Rattle.std.proofs.lemmas.List.{append_assoc, length-append}
use Rattle.std.proofs.lemmas.List.Elements.{Contains-append_left, Contains-append_right, filter-append}
use Rattle.std.proofs.lemmas.List.Sums.{sum_by-cons}
use Rattle.run_laws.proofs.Induction.{above, every_term, map_twice, node_means}
use Rattle.run_laws.proofs.Quenches.{size_is_count}
use Rattle.spec_dead.specs.Dead.{dead_nodes}
use Rattle.spec_exclusive.specs.declared.meeting.Meeting.{Meeting}
use Rattle.spec_exclusive.specs.declared.meeting.Meeting.TheVariants.{Never, Handover, Together}
use Rattle.spec_exclusive.specs.declared.pair.Pair.{Pair}
use Rattle.spec_exclusive.specs.Meetings.{meetings}
use Rattle.spec_exclusive.specs.Pairs.{all_listed, is_leaf, is_listed, listed_leaves, listed_marks, marked, may_meet, meeting_pairs, pair_of, pairs_among, pairs_with}
use Rattle.spec_run.specs.Sites.{Meaning, sizes}
use Rattle.spec_run.specs.Visit.{meaning}
use Rattle.spec_tree.specs.declared.term.Term.{Term, Term-F, fold-roll-Term}
use Rattle.spec_tree.specs.declared.term.Term.TheFolds.{map-Term}
use Rattle.spec_tree.specs.declared.term.Tree.{Tree}
use Rattle.spec_tree.specs.Terms.{node_count}
use Rattle.tree_exclusive.specs.Steps.{Rising, living_marked}
use Rattle.tree_exclusive.proofs.Words.{NeverIn}

-- ---- What is among the elements of a list

cases_in : {A : Type 0} (y x : A) (ys : List A) → Contains (y ∷ ys) x → (y ≡ x) ⊎ Contains ys x
cases_in y x ys (zero, within, is) = inl is
cases_in y x ys (suc k, within, is) = inr (k, omega (arith, within), is)

first_in : {A : Type 0} (x : A) (xs : List A) → Contains (x ∷ xs) x
first_in x xs = (zero, omega arith, refl)

later_in : {A : Type 0} (y x : A) (xs : List A) → Contains xs x → Contains (y ∷ xs) x
later_in y x xs has = (suc has.0, omega (arith, has.1), has.2)

none_in : {A : Type 0} (x : A) → Contains [] x → ⊥
none_in x has = omega (arith, has.1)

filter_in : {A : Type 0} (p : A → Bool) (xs : List A) (x : A) → Contains xs x → p x ≡ true → Contains (filter p xs) x
filter_in p [] x has keeps = absurd (none_in x has)
filter_in p (y ∷ ys) x has keeps = ⊎_elim
    (λ same. subst (λ (xs : List _). Contains xs x) (sym (cond-true (p y) (y ∷ filter p ys) (filter p ys) (ap p same ∙ keeps)))
    (subst (λ z. Contains (z ∷ filter p ys) x) (sym same) (first_in x (filter p ys))))
    (λ later. cond_both (p y) (y ∷ filter p ys) (filter p ys) (λ (xs : List _). Contains xs x) (λ _. later_in y x (filter p ys) (filter_in p ys x later keeps)) (λ _. filter_in p ys x later keeps))
    (cases_in y x ys has)

map_in : {A B : Type 0} (f : A → B) (xs : List A) (x : A) → Contains xs x → Contains (map f xs) (f x)
map_in f [] x has = absurd (none_in x has)
map_in f (y ∷ ys) x has = ⊎_elim
    (λ same. subst (λ z. Contains (f z ∷ map f ys) (f x)) (sym same) (first_in (f x) (map f ys)))
    (λ later. later_in (f y) (f x) (map f ys) (map_in f ys x later))
    (cases_in y x ys has)

-- ---- Leaves in rising order

rising_from : (least lower : ℕ) (xs : List ℕ) → lower ≤ least → Rising least xs → Rising lower xs
rising_from least lower [] low rising = tt
rising_from least lower (x ∷ xs) low rising = (omega (arith, low, rising.0), rising.1)

least_in : (least : ℕ) (xs : List ℕ) (x : ℕ) → Rising least xs → Contains xs x → least ≤ x
least_in least [] x rising has = absurd (none_in x has)
least_in least (y ∷ ys) x rising has = ⊎_elim
    (λ same. omega (arith, rising.0, same))
    (λ later. let above_y : y + 1 ≤ x = least_in (y + 1) ys x rising.1 later in omega (arith, rising.0, above_y))
    (cases_in y x ys has)

marked_rises : (uid : ℕ) (marks : List Bool) → Rising uid (marked uid marks)
marked_rises uid [] = tt
marked_rises uid (true ∷ marks) = (omega arith, marked_rises (uid + 1) marks)
marked_rises uid (false ∷ marks) = rising_from (uid + 1) uid (marked (uid + 1) marks) (omega arith) (marked_rises (uid + 1) marks)

filter_rises : (p : ℕ → Bool) (least : ℕ) (xs : List ℕ) → Rising least xs → Rising least (filter p xs)
filter_rises p least [] rising = tt
filter_rises p least (x ∷ xs) rising =
    cond_both (p x) (x ∷ filter p xs) (filter p xs) (λ (ys : List ℕ). Rising least ys)
    (λ _. (rising.0, filter_rises p (x + 1) xs rising.1))
    (λ _. rising_from (x + 1) least (filter p xs) (omega (arith, rising.0)) (filter_rises p (x + 1) xs rising.1))

marked_within : (uid : ℕ) (marks : List Bool) (p : ℕ) → Contains (marked uid marks) p → p < uid + length marks
marked_within uid [] p has = absurd (none_in p has)
marked_within uid (true ∷ marks) p has = ⊎_elim
    (λ same. omega (arith, same))
    (λ later. let rest : p < uid + 1 + length marks = marked_within (uid + 1) marks p later in omega (arith, rest))
    (cases_in uid p (marked (uid + 1) marks) has)
marked_within uid (false ∷ marks) p has = let rest : p < uid + 1 + length marks = marked_within (uid + 1) marks p has in omega (arith, rest)

-- there is a mark for each node
abbrev AsMany : List (List ℕ) → Term → Meaning → Type 0
AsMany ids t c = length (listed_marks ids t) ≡ c.size

module _ (ids : List (List ℕ)) {X : Type 0} (term : X → Term) (each : (c : X) → AsMany ids (term c) (meaning (term c))) where
  all_marks : (cs : List X) → length (flat_map (λ marks. marks) (map (λ c. listed_marks ids (term c)) cs)) ≡ sizes (map (λ c. meaning (term c)) cs)
  all_marks [] = refl
  all_marks (c ∷ cs) =
      length-append (listed_marks ids (term c)) (flat_map (λ marks. marks) (map (λ d. listed_marks ids (term d)) cs))
      ∙ ap (λ n. n + length (flat_map (λ marks. marks) (map (λ d. listed_marks ids (term d)) cs))) (each c)
      ∙ ap (λ n. (meaning (term c)).size + n) (all_marks cs)
      ∙ sym (sum_by-cons (λ (k : Meaning). k.size) (meaning (term c)) (map (λ d. meaning (term d)) cs))

  marks_of_terms : (node : Term-F X) → (is_leaf node.kind && is_listed ids node.id) ∷ flat_map (λ marks. marks) (map (λ c. listed_marks ids (term c)) node.children) ≡ listed_marks ids (above term node)
  marks_of_terms node =
      ap (λ (ms : List (List Bool)). (is_leaf node.kind && is_listed ids node.id) ∷ flat_map (λ marks. marks) ms) (map_twice term (listed_marks ids) node.children)
      ∙ sym (fold-roll-Term (List Bool) (λ n. (is_leaf n.kind && is_listed ids n.id) ∷ flat_map (λ marks. marks) n.children) (map-Term X Term term node))

  node_marks : (node : Term-F X) → AsMany ids (above term node) (node_means term node)
  node_marks node =
      let below : length (flat_map (λ marks. marks) (map (λ c. listed_marks ids (term c)) node.children)) ≡ sizes (map (λ c. meaning (term c)) node.children) = all_marks node.children in
      let one_more : suc (length (flat_map (λ marks. marks) (map (λ c. listed_marks ids (term c)) node.children))) ≡ 1 + sizes (map (λ c. meaning (term c)) node.children) = omega (arith, below) in
      ap length (sym (marks_of_terms node)) ∙ one_more

pub as_many : (ids : List (List ℕ)) (t : Term) → AsMany ids t (meaning t)
as_many ids = every_term (λ t c rules. AsMany ids t c) (λ X term each node. node_marks ids term each node)

pub many_marks : (ids : List (List ℕ)) (t : Term) → length (listed_marks ids t) ≡ node_count t
many_marks ids t = as_many ids t ∙ size_is_count t

-- ---- Pairs

module _ (meeting : ℕ → ℕ → Meeting) where
  with_in : (u v : ℕ) (later : List ℕ) → Contains later v → may_meet (meeting u v) ≡ true → Contains (pairs_with meeting u later) (pair_of u v (meeting u v))
  with_in u v later has meets =
      filter_in (λ (pair : Pair). may_meet pair.meeting) (map (λ uid. pair_of u uid (meeting u uid)) later) (pair_of u v (meeting u v)) (map_in (λ uid. pair_of u uid (meeting u uid)) later v has) meets

  -- two of some leaves in rising order that may meet are a pair
  among_in : (least : ℕ) (leaves : List ℕ) (u v : ℕ) → Rising least leaves → Contains leaves u → Contains leaves v → u < v → may_meet (meeting u v) ≡ true → Contains (pairs_among meeting leaves) (pair_of u v (meeting u v))
  among_in least [] u v rising has_u has_v less meets = absurd (none_in u has_u)
  among_in least (x ∷ xs) u v rising has_u has_v less meets = ⊎_elim
      (λ same. ⊎_elim
      (λ both. absurd (omega (arith, same, both, less)))
      (λ later. Contains-append_left (pairs_with meeting x xs) (pairs_among meeting xs) (pair_of u v (meeting u v))
      (subst (λ (y : ℕ). Contains (pairs_with meeting y xs) (pair_of u v (meeting u v))) (sym same) (with_in u v xs later meets)))
      (cases_in x v xs has_v))
      (λ first. ⊎_elim
      (λ same. let above_x : x + 1 ≤ u = least_in (x + 1) xs u rising.1 first in absurd (omega (arith, same, above_x, less)))
      (λ second. Contains-append_right (pairs_with meeting x xs) (pairs_among meeting xs) (pair_of u v (meeting u v)) (among_in (x + 1) xs u v rising.1 first second less meets))
      (cases_in x v xs has_v))
      (cases_in x u xs has_u)

-- ---- Leaves of a tree

-- a node is dead
abbrev pub is_dead : Tree → ℕ → Bool
is_dead tree uid = list_any (nat_eq uid) (dead_nodes tree)

-- what two leaves with listed IDs are, by how they may meet, if neither is dead
pub data Standing (tree : Tree) (u v : ℕ) : Type 0 where
  Dead : is_dead tree u ≡ true → Standing tree u v
  DeadToo : is_dead tree v ≡ true → Standing tree u v
  Living : is_dead tree u ≡ false → is_dead tree v ≡ false → Standing tree u v

pub standing : (tree : Tree) (u v : ℕ) → Standing tree u v
standing tree u v = by (is_dead tree u) (is_dead tree v) refl refl
  where
    by : (a b : Bool) → is_dead tree u ≡ a → is_dead tree v ≡ b → Standing tree u v
    by true b e f = Dead e
    by false true e f = DeadToo f
    by false false e f = Living e f

module _ (tree : Tree) (ids : List (List ℕ)) (u v : ℕ) (has_u : Contains (all_listed ids tree) u) (has_v : Contains (all_listed ids tree) v) (less : u < v) where
  abbrev pub meets : Meeting
  meets = (meetings tree.term).meeting 1 u v

  pub within : (1 ≤ u) × (v < 1 + (meaning tree.term).size)
  within = (
    least_in 1 (all_listed ids tree) u (marked_rises 1 (listed_marks ids tree.term)) has_u,
    omega (arith, marked_within 1 (listed_marks ids tree.term) v has_v, as_many ids tree.term),
  )

  -- where both live and may meet, they are a pair
  pub is_pair : is_dead tree u ≡ false → is_dead tree v ≡ false → may_meet meets ≡ true → Contains (meeting_pairs ids tree) (pair_of u v meets)
  is_pair lives_u lives_v may =
      among_in ((meetings tree.term).meeting 1) 1 (listed_leaves ids tree) u v
      (filter_rises (λ uid. not (is_dead tree uid)) 1 (all_listed ids tree) (marked_rises 1 (listed_marks ids tree.term)))
      (filter_in (λ uid. not (is_dead tree uid)) (all_listed ids tree) u has_u (ap not lives_u))
      (filter_in (λ uid. not (is_dead tree uid)) (all_listed ids tree) v has_v (ap not lives_v))
      less may

  -- where they are no pair, they never meet
  pub never_meets : is_dead tree u ≡ false → is_dead tree v ≡ false → ((meeting : Meeting) → Contains (meeting_pairs ids tree) (pair_of u v meeting) → ⊥) → NeverIn (meetings tree.term) (meaning tree.term).size 1 u v
  never_meets lives_u lives_v none = (within.0, less, within.1, by meets refl)
    where
      by : (m : Meeting) → meets ≡ m → meets ≡ Never
      by Never e = e
      by Handover e = absurd (none meets (is_pair lives_u lives_v (ap may_meet e)))
      by Together e = absurd (none meets (is_pair lives_u lives_v (ap may_meet e)))

  -- where they are no pair that may be together, they never meet, or one hands over to the other
  pub hands_over : is_dead tree u ≡ false → is_dead tree v ≡ false → (Contains (meeting_pairs ids tree) (pair_of u v Together) → ⊥) → (meets ≡ Never) ⊎ (meets ≡ Handover)
  hands_over lives_u lives_v none = by meets refl
    where
      by : (m : Meeting) → meets ≡ m → (meets ≡ Never) ⊎ (meets ≡ Handover)
      by Never e = inl e
      by Handover e = inr e
      by Together e = absurd (none (subst (λ (m : Meeting). Contains (meeting_pairs ids tree) (pair_of u v m)) e (is_pair lives_u lives_v (ap may_meet e))))

kept_in : (p : ℕ → Bool) (xs : List ℕ) (x : ℕ) → Contains (filter p xs) x → Contains xs x
kept_in p [] x has = has
kept_in p (y ∷ ys) x has =
    cond_both (p y) (y ∷ filter p ys) (filter p ys) (λ (zs : List ℕ). Contains zs x → Contains (y ∷ ys) x)
    (λ _ has. ⊎_elim (λ same. subst (λ (z : ℕ). Contains (z ∷ ys) x) (sym same) (first_in x ys)) (λ later. later_in y x ys (kept_in p ys x later)) (cases_in y x (filter p ys) has))
    (λ _ has. later_in y x ys (kept_in p ys x has))
    has

-- each leaf that is listed is a node of the tree
pub listed_within : (ids : List (List ℕ)) (tree : Tree) (p : ℕ) → Contains (listed_leaves ids tree) p → p < 1 + node_count tree.term
listed_within ids tree p has =
    omega (arith, marked_within 1 (listed_marks ids tree.term) p (kept_in (λ uid. not (is_dead tree uid)) (all_listed ids tree) p has), many_marks ids tree.term)

-- the leaves that are listed rise
pub listed_rise : (ids : List (List ℕ)) (tree : Tree) → Rising 1 (listed_leaves ids tree)
listed_rise ids tree = filter_rises (λ uid. not (is_dead tree uid)) 1 (all_listed ids tree) (marked_rises 1 (listed_marks ids tree.term))

-- ---- The leaves of a term

few_marked : (uid : ℕ) (marks : List Bool) → length (marked uid marks) ≤ length marks
few_marked uid [] = omega arith
few_marked uid (true ∷ marks) = omega (arith, few_marked (uid + 1) marks)
few_marked uid (false ∷ marks) = omega (arith, few_marked (uid + 1) marks)

few_kept : (p : ℕ → Bool) (xs : List ℕ) → length (filter p xs) ≤ length xs
few_kept p [] = omega arith
few_kept p (x ∷ xs) =
    cond_both (p x) (x ∷ filter p xs) (filter p xs) (λ (ys : List ℕ). length ys ≤ suc (length xs))
    (λ _. omega (arith, few_kept p xs))
    (λ _. omega (arith, few_kept p xs))

-- no more leaves are listed than there are nodes
pub few_leaves : (ids : List (List ℕ)) (dead : List ℕ) (uid : ℕ) (t : Term) → length (living_marked dead uid (listed_marks ids t)) ≤ node_count t
few_leaves ids dead uid t =
    let marks : List Bool = listed_marks ids t in
    omega (arith, few_kept (λ p. not (list_any (nat_eq p) dead)) (marked uid marks), few_marked uid marks, many_marks ids t)

marked_append : (uid next : ℕ) (ms ns : List Bool) → next ≡ uid + length ms → marked uid (ms ++ ns) ≡ marked uid ms ++ marked next ns
marked_append uid next [] ns is = ap (λ n. marked n ns) (omega (arith, is))
marked_append uid next (true ∷ ms) ns is = ap (λ (us : List ℕ). uid ∷ us) (marked_append (uid + 1) next ms ns (omega (arith, is)))
marked_append uid next (false ∷ ms) ns is = marked_append (uid + 1) next ms ns (omega (arith, is))

-- the leaves so far and those of one child more, followed by those of the others
pub leaves_more : (ids : List (List ℕ)) (dead before after all : List ℕ) (uid next : ℕ) (t : Term) (ts rest : List Term) → ts ≡ t ∷ rest → next ≡ uid + node_count t →
    after ≡ before ++ living_marked dead uid (listed_marks ids t) → before ++ living_marked dead uid (flat_map (λ marks. marks) (map (listed_marks ids) ts)) ≡ all →
    after ++ living_marked dead next (flat_map (λ marks. marks) (map (listed_marks ids) rest)) ≡ all
leaves_more ids dead before after all uid next t ts rest here is more known =
    let lives : ℕ → Bool = λ p. not (list_any (nat_eq p) dead) in
    let marks : List Bool = listed_marks ids t in
    let others : List Bool = flat_map (λ ms. ms) (map (listed_marks ids) rest) in
    let parts : living_marked dead uid (marks ++ others) ≡ living_marked dead uid marks ++ living_marked dead next others =
    ap (filter lives) (marked_append uid next marks others (is ∙ ap (λ n. uid + n) (sym (many_marks ids t)))) ∙ filter-append lives (marked uid marks) (marked next others) in
    ap (λ (us : List ℕ). us ++ living_marked dead next others) more
    ∙ append_assoc before (living_marked dead uid marks) (living_marked dead next others)
    ∙ ap (λ (us : List ℕ). before ++ us) (sym parts)
    ∙ ap (λ (xs : List Term). before ++ living_marked dead uid (flat_map (λ ms. ms) (map (listed_marks ids) xs))) (sym here)
    ∙ known
