-- What is counted over forests, and what changes of it.
use Rattle.std.proofs.Common.{◌≡◌, ◌≢◌, ℕ, suc, ◌+◌, ◌≤◌, ◌==◌, max, nat_eq, Bool, true, false, if◌then◌else◌, zero, List, [], ◌∷◌, ◌++◌, length, Option, Some, None, refl, ap, sym, ◌∙◌, subst, arith, ◌⊎◌, inl, inr}
use Rattle.std.specs.Option.{option_or}
use Rattle.std.proofs.lemmas.Bool.Decides.{nat_tests}
use Rattle.spec_plan.specs.declared.part.Part.{Part}
use Rattle.spec_plan.specs.declared.part.Part.TheVariants.{Goals, Sequence, Fallback, Condition, Action}
use Rattle.spec_plan.specs.Forests.{Forest, Empty, Tree, changed_below, joined, node_at, times, total}
use Rattle.plan_tree.specs.Sizes.{height, size, tops}
use Rattle.spec_plan.specs.Expansion.{grown, leaves, wrapped}

-- ---- One key

-- what a node counts of a key
abbrev pub one_of : ℕ → ℕ → ℕ
one_of key k = if key == k then 1 else 0

pub one_same : (key k : ℕ) → key ≡ k → one_of key k ≡ 1
one_same key k is = grind (arith, nat_tests, is)

pub one_other : (key k : ℕ) → key ≢ k → one_of key k ≡ 0
one_other key k differs = grind (arith, nat_tests, differs)

pub is_same : (key k : ℕ) → nat_eq key k ≡ true → key ≡ k
is_same key k hit = grind (arith, nat_tests, hit)

pub is_other : (key k : ℕ) → nat_eq key k ≡ false → key ≢ k
is_other key k miss here = absurd (grind (arith, nat_tests, miss, here))

pub test_same : (key k : ℕ) → key ≡ k → nat_eq key k ≡ true
test_same key k is = grind (arith, nat_tests, is)

pub test_other : (key k : ℕ) → key ≢ k → nat_eq key k ≡ false
test_other key k differs = grind (arith, nat_tests, differs)

pub chosen : {X : Type 0} (b : Bool) (one other : X) → b ≡ true → (if b then one else other) ≡ one
chosen b one other is = ap (λ (c : Bool). if c then one else other) is

pub skipped : {X : Type 0} (b : Bool) (one other : X) → b ≡ false → (if b then one else other) ≡ other
skipped b one other is = ap (λ (c : Bool). if c then one else other) is

pub zero_or : (n : ℕ) → (n ≡ 0) ⊎ (1 ≤ n)
zero_or zero = inl refl
zero_or (suc n) = inr (omega arith)

-- a test and what it says
pub tested : (key k : ℕ) → (nat_eq key k ≡ true) ⊎ (nat_eq key k ≡ false)
tested key k = elim (nat_eq key k) as (λ b. (b ≡ true) ⊎ (b ≡ false)) [ true ↦ inl refl | false ↦ inr refl ]

-- ---- Forests that lack a key

module _ (k key : ℕ) (part : Part) (below rest : Forest) where
  pub lacks_here : times k (Tree key part below rest) ≡ 0 → key ≢ k
  lacks_here none here = absurd (omega (arith, none, one_same key k here))

  pub lacks_below : times k (Tree key part below rest) ≡ 0 → times k below ≡ 0
  lacks_below none = omega (arith, none)

  pub lacks_rest : times k (Tree key part below rest) ≡ 0 → times k rest ≡ 0
  lacks_rest none = omega (arith, none)

  pub only_here : times k (Tree key part below rest) ≤ 1 → key ≡ k → (times k below ≡ 0) × (times k rest ≡ 0)
  only_here once here = let one : one_of key k ≡ 1 = one_same key k here in (omega (arith, once, one), omega (arith, once, one))

pub none_at : (k : ℕ) (f : Forest) → times k f ≡ 0 → node_at k f ≡ None
none_at k Empty none = refl
none_at k (Tree key part below rest) none =
    skipped (nat_eq key k) (Some (part, below)) (option_or (node_at k below) (node_at k rest)) (test_other key k (lacks_here k key part below rest none))
    ∙ ap (λ (o : Option (Part × Forest)). option_or o (node_at k rest)) (none_at k below (lacks_below k key part below rest none))
    ∙ none_at k rest (lacks_rest k key part below rest none)

module _ (p : ℕ) (change : Part → Forest → Forest) where
  pub changed_here : (key : ℕ) (part : Part) (below rest : Forest) → nat_eq key p ≡ true →
      changed_below p change (Tree key part below rest) ≡ Tree key part (change part below) rest
  changed_here key part below rest hit =
      chosen (nat_eq key p) (Tree key part (change part below) rest) (Tree key part (changed_below p change below) (changed_below p change rest)) hit

  pub changed_other : (key : ℕ) (part : Part) (below rest : Forest) → nat_eq key p ≡ false →
      changed_below p change (Tree key part below rest) ≡ Tree key part (changed_below p change below) (changed_below p change rest)
  changed_other key part below rest not =
      skipped (nat_eq key p) (Tree key part (change part below) rest) (Tree key part (changed_below p change below) (changed_below p change rest)) not

  pub unchanged : (f : Forest) → times p f ≡ 0 → changed_below p change f ≡ f
  unchanged Empty none = refl
  unchanged (Tree key part below rest) none =
      changed_other key part below rest (test_other key p (lacks_here p key part below rest none))
      ∙ ap (λ (g : Forest). Tree key part g (changed_below p change rest)) (unchanged below (lacks_below p key part below rest none))
      ∙ ap (λ (g : Forest). Tree key part below g) (unchanged rest (lacks_rest p key part below rest none))

-- ---- Sums

module _ (weight : ℕ → Part → ℕ) where
  pub total-joined : (f g : Forest) → total weight (joined f g) ≡ total weight f + total weight g
  total-joined Empty g = omega arith
  total-joined (Tree key part below rest) g = let more = total-joined rest g in omega (arith, more)

  pub total-wrapped : (k fallback : ℕ) (new f : Forest) (before others : List ℕ) → tops f ≡ before ++ k ∷ others →
      total weight (wrapped k fallback new f) ≡ total weight f + (weight fallback Fallback + total weight new)
  total-wrapped k fallback new Empty [] others is = absurd (cc is)
  total-wrapped k fallback new Empty (b ∷ before) others is = absurd (cc is)
  total-wrapped k fallback new (Tree key part below rest) [] others is =
      ap (total weight) (chosen (nat_eq key k) (Tree fallback Fallback (Tree key part below new) rest) (Tree key part below (wrapped k fallback new rest)) (test_same key k (cc is))) ∙ omega arith
  total-wrapped k fallback new (Tree key part below rest) (b ∷ before) others is =
      let later = total-wrapped k fallback new rest before others (cc is) in
      elim (tested key k) [
        | inl hit ↦ ap (total weight) (chosen (nat_eq key k) (Tree fallback Fallback (Tree key part below new) rest) (Tree key part below (wrapped k fallback new rest)) hit) ∙ omega arith
        | inr miss ↦ ap (total weight) (skipped (nat_eq key k) (Tree fallback Fallback (Tree key part below new) rest) (Tree key part below (wrapped k fallback new rest)) miss) ∙ omega (arith, later)
      ]

  pub total-changed : (p more : ℕ) (change : Part → Forest → Forest) (f : Forest) → times p f ≡ 1 →
      ((part : Part) (below : Forest) → node_at p f ≡ Some (part, below) → total weight (change part below) ≡ total weight below + more) →
      total weight (changed_below p change f) ≡ total weight f + more
  total-changed p more change Empty one grows = absurd (omega (arith, one))
  total-changed p more change (Tree key part below rest) one grows = elim (tested key p) [
    | inl hit ↦
        let e = grows part below (chosen (nat_eq key p) (Some (part, below)) (option_or (node_at p below) (node_at p rest)) hit) in
        ap (total weight) (changed_here p change key part below rest hit) ∙ omega (arith, e)
    | inr not ↦
        let none : one_of key p ≡ 0 = one_other key p (is_other key p not) in
        let deeper = skipped (nat_eq key p) (Some (part, below)) (option_or (node_at p below) (node_at p rest)) not in
        ap (total weight) (changed_other p change key part below rest not)
        ∙ elim (zero_or (times p below)) [
          | inl lacks ↦
              let same = unchanged p change below lacks in
              let e = total-changed p more change rest (omega (arith, one, none, lacks))
              (λ (x : Part) (g : Forest) found. grows x g (deeper ∙ ap (λ (o : Option (Part × Forest)). option_or o (node_at p rest)) (none_at p below lacks) ∙ found)) in
              ap (λ (g : Forest). weight key part + (total weight g + total weight (changed_below p change rest))) same ∙ omega (arith, e)
          | inr has ↦
              let lacks : times p rest ≡ 0 = omega (arith, one, none, has) in
              let same = unchanged p change rest lacks in
              let e = total-changed p more change below (omega (arith, one, none, lacks))
              (λ (x : Part) (g : Forest) found. grows x g (deeper ∙ ap (λ (o : Option (Part × Forest)). option_or o (node_at p rest)) found)) in
              ap (λ (g : Forest). weight key part + (total weight (changed_below p change below) + total weight g)) same ∙ omega (arith, e)
        ]
  ]

-- ---- Levels

pub height-joined : (f g : Forest) → height (joined f g) ≡ max (height f) (height g)
height-joined Empty g = omega arith
height-joined (Tree key part below rest) g = let more = height-joined rest g in omega (arith, more)

pub height-le_size : (f : Forest) → height f ≤ size f
height-le_size Empty = omega arith
height-le_size (Tree key part below rest) = let lower = height-le_size below in let later = height-le_size rest in omega (arith, lower, later)

pub height-wrapped : (k fallback : ℕ) (new f : Forest) → height new ≤ 2 → height (wrapped k fallback new f) ≤ height f + 2
height-wrapped k fallback new Empty low = omega arith
height-wrapped k fallback new (Tree key part below rest) low = elim (tested key k) [
  | inl hit ↦ subst (λ (g : Forest). height g ≤ height (Tree key part below rest) + 2)
      (sym (chosen (nat_eq key k) (Tree fallback Fallback (Tree key part below new) rest) (Tree key part below (wrapped k fallback new rest)) hit)) (omega (arith, low))
  | inr not ↦ let later = height-wrapped k fallback new rest low in
      subst (λ (g : Forest). height g ≤ height (Tree key part below rest) + 2)
      (sym (skipped (nat_eq key k) (Tree fallback Fallback (Tree key part below new) rest) (Tree key part below (wrapped k fallback new rest)) not)) (omega (arith, later))
]

pub height-grown : (part : Part) (k fallback : ℕ) (new f : Forest) → height new ≤ 2 → height (grown part k fallback new f) ≤ height f + 2
height-grown Fallback k fallback new f low = let e = height-joined f new in omega (arith, e, low)
height-grown Goals k fallback new f low = height-wrapped k fallback new f low
height-grown (Sequence row) k fallback new f low = height-wrapped k fallback new f low
height-grown (Condition row) k fallback new f low = height-wrapped k fallback new f low
height-grown (Action row) k fallback new f low = height-wrapped k fallback new f low

pub height-changed : (p : ℕ) (change : Part → Forest → Forest) (f : Forest) → ((part : Part) (below : Forest) → height (change part below) ≤ height below + 2) →
    height (changed_below p change f) ≤ height f + 2
height-changed p change Empty grows = omega arith
height-changed p change (Tree key part below rest) grows = elim (tested key p) [
  | inl hit ↦ let lower = grows part below in
      subst (λ (g : Forest). height g ≤ height (Tree key part below rest) + 2) (sym (changed_here p change key part below rest hit)) (omega (arith, lower))
  | inr not ↦ let lower = height-changed p change below grows in let later = height-changed p change rest grows in
      subst (λ (g : Forest). height g ≤ height (Tree key part below rest) + 2) (sym (changed_other p change key part below rest not)) (omega (arith, lower, later))
]

pub height-leaves : (keys : List ℕ) (parts : List Part) → height (leaves keys parts) ≤ 1
height-leaves [] parts = omega arith
height-leaves (key ∷ keys) [] = omega arith
height-leaves (key ∷ keys) (part ∷ parts) = let later = height-leaves keys parts in omega (arith, later)

pub size-leaves : (keys : List ℕ) (parts : List Part) → size (leaves keys parts) ≤ length parts
size-leaves [] parts = omega arith
size-leaves (key ∷ keys) [] = omega arith
size-leaves (key ∷ keys) (part ∷ parts) = let later = size-leaves keys parts in omega (arith, later)
