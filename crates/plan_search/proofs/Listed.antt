-- A filter by either of two tests that agree.
use Rattle.std.proofs.Common.{◌≡◌, Bool, cond, List, [], ◌∷◌, refl, ap, ◌∙◌}
use Rattle.std.specs.List.{AllByRecursion, filter}

pub filter_same : {X : Type 0} (P : X → Type 0) (test other : X → Bool) (xs : List X) → ((x : X) → P x → test x ≡ other x) → AllByRecursion P xs → filter test xs ≡ filter other xs
filter_same P test other [] same p = refl
filter_same {X = X} P test other (x ∷ xs) same p =
    ap (λ (b : Bool). cond b (x ∷ filter test xs) (filter test xs)) (same x p.0)
    ∙ ap (λ (ys : List X). cond (other x) (x ∷ ys) ys) (filter_same P test other xs same p.1)
