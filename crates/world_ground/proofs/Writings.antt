-- A text that is written piece by piece.
use Rattle.std.proofs.Common.{◌≡◌, ℕ, zero, suc, ◌==◌, true, List, [], ◌∷◌, ◌++◌, length, take, drop, Option, refl, sym, ◌∙◌, ap, subst, append_assoc, append-nil, arith}
use Rattle.spec_outside.specs.Appending.{Appended, AppendedPrefix}
use Rattle.base_outside.proofs.Appends.{Appended-nil, Appended-trans, AppendedPrefix-after, AppendedPrefix-longer}
use Rattle.world_ground.specs.Writing.{IsUnderway}

pub nothing_written : (text rest : List ℕ) (old : Option (List ℕ)) → rest ≡ text → IsUnderway text rest old old
nothing_written text rest old is = record { said = []; parts = sym is; appended = Appended-nil old }

longer : (text said rest line after : List ℕ) → text ≡ said ++ rest → rest ≡ line ++ after → text ≡ (said ++ line) ++ after
longer text said rest line after parts is = parts ∙ ap (λ (t : List ℕ). said ++ t) is ∙ sym (append_assoc said line after)

-- after one more piece
pub next_underway : (text rest line after : List ℕ) (old mid new : Option (List ℕ)) → rest ≡ line ++ after → IsUnderway text rest old mid → Appended mid new line → IsUnderway text after old new
next_underway text rest line after old mid new is u one =
    record {
      said = u.said ++ line;
      parts = longer text u.said rest line after u.parts is;
      appended = Appended-trans old mid new u.said line u.appended one;
    }

-- where a piece is not written whole
pub stopped : (text rest line after : List ℕ) (old mid new : Option (List ℕ)) → rest ≡ line ++ after → IsUnderway text rest old mid → AppendedPrefix mid new line → AppendedPrefix old new text
stopped text rest line after old mid new is u one =
    subst (λ (t : List ℕ). AppendedPrefix old new t) (sym (longer text u.said rest line after u.parts is))
    (AppendedPrefix-longer old new (u.said ++ line) after (AppendedPrefix-after old mid new u.said line u.appended one))

none_left : (rest : List ℕ) → (length rest == 0) ≡ true → rest ≡ []
none_left [] h = refl
none_left (b ∷ rest) h = absurd (grind arith)

-- where nothing is left
pub all_written : (text rest : List ℕ) (old now : Option (List ℕ)) → (length rest == 0) ≡ true → IsUnderway text rest old now → Appended old now text
all_written text rest old now none u =
    let whole : text ≡ u.said = u.parts ∙ ap (λ (t : List ℕ). u.said ++ t) (none_left rest none) ∙ append-nil u.said in
    subst (λ (t : List ℕ). Appended old now t) (sym whole) u.appended

joined : (n : ℕ) (xs : List ℕ) → xs ≡ take n xs ++ drop n xs
joined zero xs = refl
joined (suc n) [] = refl
joined (suc n) (x ∷ xs) = ap (λ (t : List ℕ). x ∷ t) (joined n xs)

-- a text that is cut in two
pub cut_at : (n : ℕ) (rest line after : List ℕ) → line ≡ take n rest → after ≡ drop n rest → rest ≡ line ++ after
cut_at n rest line after front back =
    joined n rest ∙ ap (λ (t : List ℕ). t ++ drop n rest) (sym front) ∙ ap (λ (t : List ℕ). line ++ t) (sym back)
