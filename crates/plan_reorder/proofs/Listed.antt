-- Lists: what comes first of them, and keys before a key.
use Rattle.std.proofs.Common.{◌≡◌, ℕ, suc, ◌+◌, ◌-◌, ◌<◌, ◌≤◌, ◌==◌, nat_eq, Bool, true, false, cond, List, [], ◌∷◌, ◌++◌, length, map, take, drop, get_or, Option, Some, None, refl, ap, sym, ◌∙◌, arith, add-one, drop-cons, inl, inr}
use Rattle.std.specs.Prelude.{option_map, slice_get}
use Rattle.std.specs.List.{filter, find, position_from}
use Rattle.std.specs.Option.{option_or}
use Rattle.std.proofs.lemmas.List.{drop_all}
use Rattle.slab.specs.Slab.{Slab}
use Rattle.plan_tree.specs.declared.node.Node.{Node}
use Rattle.plan_tree.specs.declared.rule.Rule.{Rule}
use Rattle.plan_tree.proofs.Counted.{chosen, skipped, tested}
use Rattle.plan_reorder.specs.Looked.{first_threat, keys_before, threat_at}

pub find-append : {X : Type 0} (test : X → Bool) (xs ys : List X) → find test (xs ++ ys) ≡ option_or (find test xs) (find test ys)
find-append test [] ys = refl
find-append test (x ∷ xs) ys = elim (test x) as (λ (b : Bool). cond b (Some x) (find test (xs ++ ys)) ≡ option_or (cond b (Some x) (find test xs)) (find test ys)) [
  | true ↦ refl
  | false ↦ find-append test xs ys
]

pub first_mapped : {X Y : Type 0} (make : X → Y) (test : X → Bool) (xs : List X) → slice_get (map make (filter test xs)) 0 ≡ option_map make (find test xs)
first_mapped make test [] = refl
first_mapped make test (x ∷ xs) = elim (test x) as (λ (b : Bool). slice_get (map make (cond b (x ∷ filter test xs) (filter test xs))) 0 ≡ option_map make (cond b (Some x) (find test xs))) [
  | true ↦ refl
  | false ↦ first_mapped make test xs
]

pub first-append : {X : Type 0} (xs ys : List X) → slice_get (xs ++ ys) 0 ≡ option_or (slice_get xs 0) (slice_get ys 0)
first-append [] ys = refl
first-append (x ∷ xs) ys = refl

pub before_from : (key i : ℕ) (xs : List ℕ) (j : ℕ) → position_from (λ (k : ℕ). k == key) i xs ≡ Some j → (i ≤ j) × (take (j - i) xs ≡ keys_before key xs)
before_from key i [] j is = absurd (cc is)
before_from key i (x ∷ xs) j is = elim (tested x key) [
  | inl hit ↦
      let e : Some i ≡ Some j = sym (ap (λ (b : Bool). cond b (Some i) (position_from (λ (k : ℕ). k == key) (i + 1) xs)) hit) ∙ is in
      let at : i ≡ j = cc e in
      let first : j - i ≡ 0 = omega (arith, at) in
      (omega (arith, at), ap (λ (n : ℕ). take n (x ∷ xs)) first ∙ sym (chosen (nat_eq x key) [] (x ∷ keys_before key xs) hit))
  | inr miss ↦
      let e : position_from (λ (k : ℕ). k == key) (i + 1) xs ≡ Some j = sym (ap (λ (b : Bool). cond b (Some i) (position_from (λ (k : ℕ). k == key) (i + 1) xs)) miss) ∙ is in
      let later = before_from key (i + 1) xs j e in
      let next : j - i ≡ suc (j - (i + 1)) = omega (arith, later.0) in
      (omega (arith, later.0), ap (λ (n : ℕ). take n (x ∷ xs)) next ∙ ap (λ (l : List ℕ). x ∷ l) later.1 ∙ sym (skipped (nat_eq x key) [] (x ∷ keys_before key xs) miss))
]

pub all_before_from : (key i : ℕ) (xs : List ℕ) → position_from (λ (k : ℕ). k == key) i xs ≡ None → xs ≡ keys_before key xs
all_before_from key i [] is = refl
all_before_from key i (x ∷ xs) is = elim (tested x key) [
  | inl hit ↦ absurd (cc (sym (ap (λ (b : Bool). cond b (Some i) (position_from (λ (k : ℕ). k == key) (i + 1) xs)) hit) ∙ is))
  | inr miss ↦
      let e = sym (ap (λ (b : Bool). cond b (Some i) (position_from (λ (k : ℕ). k == key) (i + 1) xs)) miss) ∙ is in
      ap (λ (l : List ℕ). x ∷ l) (all_before_from key (i + 1) xs e) ∙ sym (skipped (nat_eq x key) [] (x ∷ keys_before key xs) miss)
]

-- a search through some keys
module _ (rules : List Rule) (s : Slab Node) (action : ℕ) (keys : List ℕ) (i : ℕ) where
  module _ (within : i < length keys) where
    threat_here : first_threat rules s action (drop i keys) ≡ option_or (threat_at rules s action (get_or keys i 0)) (first_threat rules s action (drop (suc i) keys))
    threat_here = ap (first_threat rules s action) (drop-cons keys i 0 within)

    pub found_threat : (head : ℕ) → threat_at rules s action (get_or keys i 0) ≡ Some head → first_threat rules s action (drop i keys) ≡ Some head
    found_threat head is = threat_here ∙ ap (λ (o : Option ℕ). option_or o (first_threat rules s action (drop (suc i) keys))) is

    pub passed_threat : threat_at rules s action (get_or keys i 0) ≡ None → first_threat rules s action (drop (i + 1) keys) ≡ first_threat rules s action (drop i keys)
    passed_threat is = ap (λ (n : ℕ). first_threat rules s action (drop n keys)) (add-one i) ∙ sym (threat_here ∙ ap (λ (o : Option ℕ). option_or o (first_threat rules s action (drop (suc i) keys))) is)

  pub no_threat : length keys ≤ i → first_threat rules s action (drop i keys) ≡ None
  no_threat past = ap (first_threat rules s action) (drop_all i keys past)
