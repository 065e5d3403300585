-- A code needs no more slots than the slots that its names have.
use Rattle.std.proofs.Common.{◌≡◌, ℕ, ◌<◌, ◌≤◌, true, false, cond, List, [], ◌∷◌, ◌++◌, map, refl, sym, subst, inl, inr, arith}
use Rattle.std.specs.List.{All}
use Rattle.std.specs.Str.{bytes_eq}
use Rattle.std.proofs.lemmas.List.Elements.{All-nil, All-cons, All-head, All-tail, All-contains, All-weaker, Contains-append_cases}
use Rattle.std.proofs.lemmas.Slice.Eq.{bytes_eq-Decides}
use Rattle.spec_script.specs.declared.syntax.Expr.{Expr, ind-Expr, map-Expr, fold-roll-Expr}
use Rattle.spec_script.specs.declared.syntax.Expr.TheOpen.{Expr-F, Num, Lit, Look, Group, Unary, Binary, Choose}
use Rattle.script_code.specs.Sources.{IsListed, reach_of, reach_step, slot_of}
use Rattle.spec_script.specs.Scripts.{names_of, names_step}

-- the parts of a list of which something holds
pub All-left : {X : Type 0} (P : X → Type 0) (xs ys : List X) → All P (xs ++ ys) → All P xs
All-left P [] ys all = All-nil P
All-left P (x ∷ xs) ys all = All-cons P x xs (All-head P x (xs ++ ys) all) (All-left P xs ys (All-tail P x (xs ++ ys) all))

pub All-right : {X : Type 0} (P : X → Type 0) (xs ys : List X) → All P (xs ++ ys) → All P ys
All-right P [] ys all = all
All-right P (x ∷ xs) ys all = All-right P xs ys (All-tail P x (xs ++ ys) all)

module _ (n : ℕ) (names : List ℕ → ℕ) where
  abbrev IsBelow : List ℕ → Type 0
  IsBelow name = names name < n

  abbrev IsWithin : Expr → Type 0
  IsWithin e = All IsBelow (names_of e) → reach_of names e ≤ n

  -- a layer, where it holds of the parts
  within_at : (y : Expr-F ((e : Expr) × IsWithin e)) →
      All IsBelow (names_step (map-Expr Expr (List (List ℕ)) names_of (map-Expr ((e : Expr) × IsWithin e) Expr (λ e. e.0) y))) →
      reach_step names (map-Expr Expr ℕ (reach_of names) (map-Expr ((e : Expr) × IsWithin e) Expr (λ e. e.0) y)) ≤ n
  within_at (Num k) all = omega arith
  within_at (Lit t) all = omega arith
  within_at (Look name) all = omega (arith, All-head IsBelow name [] all)
  within_at (Group a) all = a.1 all
  within_at (Unary op a) all = a.1 all
  within_at (Binary op a b) all =
      omega (arith, a.1 (All-left IsBelow (names_of a.0) (names_of b.0) all), b.1 (All-right IsBelow (names_of a.0) (names_of b.0) all))
  within_at (Choose a b c) all =
      let front = All-left IsBelow (names_of a.0 ++ names_of b.0) (names_of c.0) all in
      omega (arith, a.1 (All-left IsBelow (names_of a.0) (names_of b.0) front), b.1 (All-right IsBelow (names_of a.0) (names_of b.0) front), c.1 (All-right IsBelow (names_of a.0 ++ names_of b.0) (names_of c.0) all))

  -- an expression needs no more slots than its names have
  pub reach_below : (e : Expr) → IsWithin e
  reach_below = ind-Expr IsWithin (λ x y is all.
      subst (λ k. k ≤ n) (sym (fold-roll-Expr ℕ (reach_step names) x))
      (subst (λ (z : Expr-F Expr). All IsBelow (names_step (map-Expr Expr (List (List ℕ)) names_of z)) → reach_step names (map-Expr Expr ℕ (reach_of names) z) ≤ n)
      is (within_at y) (subst (All IsBelow) (fold-roll-Expr (List (List ℕ)) names_step x) all)))

module _ (n : ℕ) where
  -- the slot of a name that is listed
  slot_below : (slots : List (List ℕ × ℕ)) (name : List ℕ) → All (λ pair. pair.1 < n) slots → IsListed slots name → slot_of slots name < n
  slot_below [] name all listed = absurd (omega (arith, listed.1))
  slot_below (p ∷ ps) name all listed =
      elim (Contains-append_cases (p.0 ∷ []) (map (λ (q : List ℕ × ℕ). q.0) ps) name listed) [
        | inl here ↦
            let same : name ≡ p.0 = All-contains (λ x. x ≡ p.0) (p.0 ∷ []) name (All-cons (λ x. x ≡ p.0) p.0 [] refl (All-nil (λ x. x ≡ p.0))) here in
            subst (λ b. cond b p.1 (slot_of ps name) < n) (sym ((bytes_eq-Decides p.0 name).1 (sym same))) (All-head (λ (q : List ℕ × ℕ). q.1 < n) p ps all)
        | inr there ↦
            elim (bytes_eq p.0 name) as (λ b. cond b p.1 (slot_of ps name) < n) [
              | true ↦ All-head (λ (q : List ℕ × ℕ). q.1 < n) p ps all
              | false ↦ slot_below ps name (All-tail (λ (q : List ℕ × ℕ). q.1 < n) p ps all) there
            ]
      ]

  -- an expression whose names are listed
  pub reach_within : (slots : List (List ℕ × ℕ)) → All (λ pair. pair.1 < n) slots → (e : Expr) → All (IsListed slots) (names_of e) → reach_of (slot_of slots) e ≤ n
  reach_within slots below e listed = reach_below n (slot_of slots) e (All-weaker (IsListed slots) (λ name. slot_of slots name < n) (λ name has. slot_below slots name below has) (names_of e) listed)
