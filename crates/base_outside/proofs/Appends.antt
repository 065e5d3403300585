-- Appending one piece after another.
use Rattle.std.proofs.Common.{ℕ, ◌+◌, ◌-◌, length, Result, Ok, Err, List, [], ◌++◌, Option, Some, None, refl, ap, sym, subst, ◌∙◌, append_assoc, append-nil, take, drop}
use Rattle.std.specs.Result.{result_unwrap_or}
use Rattle.std.proofs.Math.Seq.{take-add}
use Rattle.std.proofs.lemmas.List.{take-append-drop, take_rest}
use Rattle.std.specs.Io.KnownBytes.{WriteAppends}
use Rattle.spec_outside.specs.Appending.{Appended, AppendedPrefix}

-- nothing was appended
pub Appended-nil : (a : Option (List ℕ)) → Appended a a []
Appended-nil None = tt
Appended-nil (Some old) = ap Some (sym (append-nil old))

-- one piece and then another
pub Appended-trans : (a b c : Option (List ℕ)) (x y : List ℕ) → Appended a b x → Appended b c y → Appended a c (x ++ y)
Appended-trans None b c x y p q = tt
Appended-trans (Some old) b c x y p q =
    let q' : Appended (Some (old ++ x)) c y = subst (λ (z : Option (List ℕ)). Appended z c y) p q in
    q' ∙ ap Some (append_assoc old x y)

-- what a writer of std takes in one turn, where a failure takes nothing
pub Appended-of_WriteAppends : {E : Type 0} (a b : Option (List ℕ)) (r : Result ℕ E) (x : List ℕ) → WriteAppends a b r x → Appended a b (take (result_unwrap_or r 0) x)
Appended-of_WriteAppends None b r x p = tt
Appended-of_WriteAppends (Some old) None (Ok n) x p = absurd p
Appended-of_WriteAppends (Some old) None (Err e) x p = absurd p
Appended-of_WriteAppends (Some old) (Some new) (Ok n) x p = ap Some p
Appended-of_WriteAppends (Some old) (Some new) (Err e) x p = ap Some (p ∙ sym (append-nil old))

-- the first bytes of a piece, and some of the rest
pub Appended-more : (a b c : Option (List ℕ)) (x : List ℕ) (i n : ℕ)
    → Appended a b (take i x) → Appended b c (take n (take (length x - i) (drop i x))) → Appended a c (take (i + n) x)
Appended-more a b c x i n p q =
    let rest : Appended b c (take n (drop i x)) = subst (λ (z : List ℕ). Appended b c (take n z)) (take_rest x i) q in
    subst (λ (z : List ℕ). Appended a c z) (sym (take-add i n x)) (Appended-trans a b c (take i x) (take n (drop i x)) p rest)

-- a prefix of nothing
pub AppendedPrefix-nothing : (a : Option (List ℕ)) (x : List ℕ) → AppendedPrefix a a x
AppendedPrefix-nothing a x = record { front = []; rest = x; parts = refl; appended = Appended-nil a }

-- the whole piece is a prefix of it
pub AppendedPrefix-whole : (a b : Option (List ℕ)) (x : List ℕ) → Appended a b x → AppendedPrefix a b x
AppendedPrefix-whole a b x p = record { front = x; rest = []; parts = sym (append-nil x); appended = p }

-- the first bytes of a piece are a prefix of it
pub AppendedPrefix-taken : (a b : Option (List ℕ)) (x : List ℕ) (n : ℕ) → Appended a b (take n x) → AppendedPrefix a b x
AppendedPrefix-taken a b x n p = record { front = take n x; rest = drop n x; parts = sym (take-append-drop n x); appended = p }

-- a prefix of a piece is a prefix of a longer one
pub AppendedPrefix-longer : (a b : Option (List ℕ)) (x rest : List ℕ) → AppendedPrefix a b x → AppendedPrefix a b (x ++ rest)
AppendedPrefix-longer a b x rest p =
    record {
      front = p.front;
      rest = p.rest ++ rest;
      parts = ap (λ (z : List ℕ). z ++ rest) p.parts ∙ append_assoc p.front p.rest rest;
      appended = p.appended;
    }

-- a whole piece and then a prefix of another
pub AppendedPrefix-after : (a b c : Option (List ℕ)) (x y : List ℕ) → Appended a b x → AppendedPrefix b c y → AppendedPrefix a c (x ++ y)
AppendedPrefix-after a b c x y p q =
    record {
      front = x ++ q.front;
      rest = q.rest;
      parts = ap (λ (z : List ℕ). x ++ z) q.parts ∙ sym (append_assoc x q.front q.rest);
      appended = Appended-trans a b c x q.front p q.appended;
    }

-- the first bytes of a piece, and a prefix of the rest
pub AppendedPrefix-more : (a b c : Option (List ℕ)) (x : List ℕ) (n : ℕ)
    → Appended a b (take n x) → AppendedPrefix b c (take (length x - n) (drop n x)) → AppendedPrefix a c x
AppendedPrefix-more a b c x n p q =
    let rest : AppendedPrefix b c (drop n x) = subst (λ (z : List ℕ). AppendedPrefix b c z) (take_rest x n) q in
    subst (λ (z : List ℕ). AppendedPrefix a c z) (take-append-drop n x) (AppendedPrefix-after a b c (take n x) (drop n x) p rest)

-- the facts by which a text is written piece by piece
pub ruleset appending = (Appended-nil, Appended-trans, AppendedPrefix-nothing, AppendedPrefix-whole, AppendedPrefix-longer, AppendedPrefix-after)
