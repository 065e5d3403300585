-- Two lists of attributes are the same where their names and values are.
use Rattle.std.proofs.Common.{◌≡◌, ℕ, Bool, true, false, List, refl, ap}
use Rattle.std.proofs.Common.{ap₂}
use Rattle.std.specs.Prelude.{◌&&◌}
use Rattle.std.specs.Bool.{Decides}
use Rattle.std.specs.Cmp.Derive.{both_true}
use Rattle.std.specs.Cmp.Lexicographic.{pointwise}
use Rattle.std.specs.Str.{bytes_eq}
use Rattle.std.proofs.lemmas.Slice.Eq.{bytes_eq-Decides, slice_eq-Decides}
use Rattle.spec_tree_file.specs.Attributes.{Attributes}

both : (x y : Bool) → (x && y) ≡ true → (x ≡ true) × (y ≡ true)
both true y h = (refl, h)
both false y h = absurd (cc)

one : (a b : List ℕ × List ℕ) → Decides (bytes_eq a.0 b.0 && bytes_eq a.1 b.1) (a ≡ b)
one (a, s) (b, t) = (
  λ h. let p = both (bytes_eq a b) (bytes_eq s t) h in ap₂ (λ (x y : List ℕ). (x, y)) ((bytes_eq-Decides a b).0 p.0) ((bytes_eq-Decides s t).0 p.1),
  λ e. both_true ((bytes_eq-Decides a b).1 (ap (λ (p : List ℕ × List ℕ). p.0) e)) ((bytes_eq-Decides s t).1 (ap (λ (p : List ℕ × List ℕ). p.1) e)),
)

pub same_attributes : (xs ys : Attributes) (r : Bool) → r ≡ pointwise (λ (a b : List ℕ × List ℕ). bytes_eq a.0 b.0 && bytes_eq a.1 b.1) xs ys → r ≡ true → xs ≡ ys
same_attributes xs ys r is = (slice_eq-Decides one xs ys r is).0
