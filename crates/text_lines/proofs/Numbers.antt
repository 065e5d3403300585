-- A word, followed by the label of a number.
use Rattle.std.proofs.Common.{◌≡◌, ℕ, ◌+◌, ◌≤◌, List, [], ◌∷◌, ◌++◌, length, take, drop, ap, sym, ◌∙◌, append_assoc, length-append, arith}
use Rattle.std.proofs.lemmas.List.{take-append-drop, take-append-le}
use Rattle.std.proofs.Math.Seq.{take-append-add}
use Rattle.std.specs.Fmt.{decimal}

-- the bytes before a place, followed by a prefix of those that were copied from there on
front_and_some :
    (new front piece : List ℕ) (start len : ℕ) → length front ≡ start → len ≤ length piece → take (start + length piece) new ≡ front ++ piece →
    take (start + len) new ≡ front ++ take len piece
front_and_some new front piece start len at within written =
    let end = start + length piece in
    let fits : start + len ≤ length (take end new) = omega (arith, ap length written, length-append front piece) in
    ap (λ (z : List ℕ). take (start + len) z) (sym (take-append-drop end new))
    ∙ take-append-le (start + len) (take end new) (drop end new) fits
    ∙ ap (λ (z : List ℕ). take (start + len) z) written
    ∙ ap (λ (n : ℕ). take (n + len) (front ++ piece)) (sym at)
    ∙ take-append-add front piece len

-- after what was there the word was copied, and after it the whole room of a label
pub labelled :
    (new old before word room label : List ℕ) (start len n : ℕ) → length before ≡ start → length word ≡ 4 → take (start + length word) old ≡ before ++ word →
    len ≤ length room → take (start + 4 + length room) new ≡ take (start + 4) old ++ room → take len room ≡ label → label ≡ 32 ∷ decimal n →
    take (start + 4 + len) new ≡ before ++ (word ++ 32 ∷ [] ++ decimal n)
labelled new old before word room label start len n there four first within written text is =
    let place : start + length word ≡ start + 4 = omega (arith, four) in
    let front = ap (λ k. take k old) (sym place) ∙ first in
    front_and_some new (before ++ word) room (start + 4) len (omega (arith, length-append before word)) within (written ∙ ap (λ (z : List ℕ). z ++ room) front)
    ∙ ap (λ (z : List ℕ). (before ++ word) ++ z) (text ∙ is)
    ∙ append_assoc before word (32 ∷ decimal n)
    ∙ ap (λ (z : List ℕ). before ++ z) (sym (append_assoc word (32 ∷ []) (decimal n)))
