-- Neighbours that change places.
use Rattle.std.proofs.Common.{◌≡◌, ◌≢◌, ℕ, zero, suc, ◌-◌, ◌<◌, List, [], ◌∷◌, length, Option, refl, ap, sym, ◌∙◌, subst, arith, slice_set, slice_index_or}
use Rattle.slab.specs.Slab.{Slab}
use Rattle.plan_tree.specs.declared.node.Node.{Node}
use Rattle.spec_plan.specs.declared.part.Part.{Part}
use Rattle.spec_plan.specs.declared.part.Part.TheVariants.{Goals, Sequence, Fallback, Condition, Action}
use Rattle.spec_plan.specs.Forests.{Forest, Empty, Tree, Ancestor, count, times, total}
use Rattle.plan_tree.specs.Sizes.{height}
use Rattle.plan_tree.specs.Stands.{PartFits, PartsFit, Stands}
use Rattle.plan_tree.proofs.Counted.{total-changed}
use Rattle.plan_reorder.specs.Looked.{swapped}
use Rattle.spec_plan.specs.Raising.{moved_in, swap_at}

-- two stores swap neighbours
pub swapped_by_stores : (place : ℕ) (keys : List ℕ) → suc place < length keys →
    slice_set (slice_set keys place (slice_index_or keys (suc place) 0)) (suc place) (slice_index_or keys place 0) ≡ swapped place keys
swapped_by_stores zero [] within = absurd (omega (arith, within))
swapped_by_stores zero (a ∷ []) within = absurd (omega (arith, within))
swapped_by_stores zero (a ∷ b ∷ rest) within = refl
swapped_by_stores (suc place) [] within = absurd (omega (arith, within))
swapped_by_stores (suc place) (a ∷ rest) within = ap (λ (l : List ℕ). a ∷ l) (swapped_by_stores place rest (omega (arith, within)))

pub total-swap : (weight : ℕ → Part → ℕ) (place : ℕ) (f : Forest) → total weight (swap_at place f) ≡ total weight f
total-swap weight zero Empty = refl
total-swap weight zero (Tree a x below Empty) = refl
total-swap weight zero (Tree a x below (Tree b y under rest)) = omega arith
total-swap weight (suc place) Empty = refl
total-swap weight (suc place) (Tree a x below rest) = let later = total-swap weight place rest in omega (arith, later)

-- a move changes no sum
pub total-moved : (weight : ℕ → Part → ℕ) (a : Ancestor) (f : Forest) → times a.key f ≡ 1 → total weight (moved_in a f) ≡ total weight f
total-moved weight a f once =
    let place = count a.before - 1 in
    let all = total-changed weight a.key 0 (λ (part : Part). swap_at place) f once (λ (part : Part) (g : Forest) found. let same = total-swap weight place g in omega (arith, same)) in
    omega (arith, all)

pub height-swap : (place : ℕ) (f : Forest) → height (swap_at place f) ≡ height f
height-swap zero Empty = refl
height-swap zero (Tree a x below Empty) = refl
height-swap zero (Tree a x below (Tree b y under rest)) = omega arith
height-swap (suc place) Empty = refl
height-swap (suc place) (Tree a x below rest) = let later = height-swap place rest in omega (arith, later)

pub swap_fits : (rows place : ℕ) (f : Forest) → PartsFit rows f → PartsFit rows (swap_at place f)
swap_fits rows zero Empty fits = tt
swap_fits rows zero (Tree a x below Empty) fits = fits
swap_fits rows zero (Tree a x below (Tree b y under rest)) (one, lower, (other, deeper, later)) = (other, deeper, (one, lower, later))
swap_fits rows (suc place) Empty fits = tt
swap_fits rows (suc place) (Tree a x below rest) (one, lower, later) = (one, lower, swap_fits rows place rest later)

swap_some : (place : ℕ) (f : Forest) → f ≢ Empty → swap_at place f ≢ Empty
swap_some zero Empty some is = some refl
swap_some zero (Tree a x below Empty) some is = absurd (cc is)
swap_some zero (Tree a x below (Tree b y under rest)) some is = absurd (cc is)
swap_some (suc place) Empty some is = some refl
swap_some (suc place) (Tree a x below rest) some is = absurd (cc is)

swap_none : (place : ℕ) → swap_at place Empty ≡ Empty
swap_none zero = refl
swap_none (suc place) = refl

pub swap_own : (rows place : ℕ) (part : Part) (f : Forest) → PartFits rows part f → PartFits rows part (swap_at place f)
swap_own rows place Goals f some = swap_some place f some
swap_own rows place (Sequence row) f some = swap_some place f some
swap_own rows place Fallback f some = swap_some place f some
swap_own rows place (Condition row) f (within, none) = (within, ap (swap_at place) none ∙ swap_none place)
swap_own rows place (Action row) f (within, none) = (within, ap (swap_at place) none ∙ swap_none place)

-- trees that stand side by side still stand when two of them change places
pub swap_stands : (s : Slab Node) (place : ℕ) (parent : Option ℕ) (keys : List ℕ) (f : Forest) → Stands s parent keys f → Stands s parent (swapped place keys) (swap_at place f)
swap_stands s zero parent keys Empty is = subst (λ (ks : List ℕ). Stands s parent (swapped zero ks) Empty) (sym is) refl
swap_stands s zero parent keys (Tree a x u Empty) (children, others, is, keeps, below, none) =
    subst (λ (ks : List ℕ). Stands s parent (swapped zero ks) (Tree a x u Empty)) (sym (is ∙ ap (λ (l : List ℕ). a ∷ l) none)) (children, [], refl, keeps, below, refl)
swap_stands s zero parent keys (Tree a x u (Tree b y v rest)) (children, others, is, keeps, below, (later, more, next, holds, under, left)) =
    subst (λ (ks : List ℕ). Stands s parent (swapped zero ks) (Tree b y v (Tree a x u rest))) (sym (is ∙ ap (λ (l : List ℕ). a ∷ l) next))
    (later, a ∷ more, refl, holds, under, (children, more, refl, keeps, below, left))
swap_stands s (suc place) parent keys Empty is = subst (λ (ks : List ℕ). Stands s parent (swapped (suc place) ks) Empty) (sym is) refl
swap_stands s (suc place) parent keys (Tree a x u rest) (children, others, is, keeps, below, right) =
    subst (λ (ks : List ℕ). Stands s parent (swapped (suc place) ks) (Tree a x u (swap_at place rest))) (sym is)
    (children, swapped place others, refl, keeps, below, swap_stands s place parent others rest right)
