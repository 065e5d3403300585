-- Work up to a limit.
use Rattle.std.proofs.Common.{◌≡◌, ℕ, zero, suc, ◌+◌, ◌*◌, ◌≤◌, ◌⊎◌, inl, inr, List, [], ◌∷◌, Option, Some, None, min, map, sum, refl, ap, ◌∙◌, arith}
use Rattle.std.proofs.Math.Nat.{mul-le-mul_left}
use Rattle.std.specs.Option.{option_to_list}
use Rattle.spec_tree.specs.declared.term.Kind.{Kind}
use Rattle.spec_tree.specs.declared.term.Kind.TheVariants.{RecoveryNode}
use Rattle.spec_tree.specs.declared.term.Term.{Term, out-Term, fold_out-Term}
use Rattle.spec_tree.specs.Terms.{once_more, times_of, work_of}

either : (a b : ℕ) → (a ≤ b) ⊎ (b ≤ a)
either zero b = inl (omega arith)
either (suc a) zero = inr (omega arith)
either (suc a) (suc b) = elim (either a b) [ inl h ↦ inl (omega arith) | inr h ↦ inr (omega arith) ]

-- with any work below, where this is the limit at least
above : (most t s more : ℕ) → most ≤ s → min most (1 + (t * most + more)) ≡ min most (1 + (t * s + more))
above most zero s more h = omega arith
above most (suc k) s more h =
    let o : 1 ≤ suc k = omega arith in
    omega (arith, mul-le-mul_left most o, mul-le-mul_left (suc k) h)

by_side : (most t s more : ℕ) → (s ≤ most) ⊎ (most ≤ s) → min most (1 + (t * min most s + more)) ≡ min most (1 + (t * s + more))
by_side most t s more (inl h) = let e : min most s ≡ s = omega arith in ap (λ (x : ℕ). min most (1 + (t * x + more))) e
by_side most t s more (inr h) = let e : min most s ≡ most = omega arith in ap (λ (x : ℕ). min most (1 + (t * x + more))) e ∙ above most t s more h

-- the work of a node, where the work below it and that of the child that is visited once more are known up to the limit
pub limited : (most t below s more o : ℕ) → below ≤ most → min most (below + 0) ≡ min most s → more ≡ min most o → min most (1 + (t * below + more)) ≡ min most (1 + (t * s + o))
limited most t below s more o small h once =
    let e : below ≡ min most s = omega arith in
    let same : min most (1 + (t * below + more)) ≡ min most (1 + (t * below + o)) = omega (arith, once) in
    same ∙ ap (λ (x : ℕ). min most (1 + (t * x + o))) e ∙ by_side most t s o (either s most)

-- ---- The child that is visited once more

-- the work of the first of these terms, up to the limit
abbrev pub first_work : ℕ → List Term → Option ℕ
first_work most [] = None
first_work most (term ∷ terms) = Some (min most (work_of term))

pub more_up_to : (kind : Kind) (most : ℕ) (terms : List Term) → once_more kind (option_to_list (first_work most terms)) ≡ min most (once_more kind (map work_of terms))
more_up_to RecoveryNode most [] = omega arith
more_up_to RecoveryNode most (term ∷ terms) = refl
more_up_to _ most terms = omega arith

pub work_of-term : (term : Term) → work_of term ≡ 1 + (times_of (out-Term term).kind (out-Term term).ports * sum (map work_of (out-Term term).children) + once_more (out-Term term).kind (map work_of (out-Term term).children))
work_of-term term = fold_out-Term ℕ (λ node. 1 + (times_of node.kind node.ports * sum node.children + once_more node.kind node.children)) term
