-- A vector that was lent as a slice and changed.
use Rattle.std.proofs.Common.{◌≡◌, ℕ, List, ◌++◌, length, take, drop, ap, ◌∙◌, append-nil, arith}
use Rattle.std.proofs.lemmas.List.{drop_all, take_all}

-- it has the items of the slice
pub written_back : {X : Type 0} (n : ℕ) (new old : List X) → length new ≡ n → length old ≡ n → take n (new ++ drop (length new) old) ≡ new
written_back n new old as_new as_old =
    ap (λ (l : List _). take n (new ++ l)) (drop_all (length new) old (omega (arith, as_new, as_old))) ∙ ap (take n) (append-nil new) ∙ take_all n new (omega (arith, as_new))
