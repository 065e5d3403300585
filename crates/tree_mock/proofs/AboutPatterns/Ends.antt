-- The ends of a text.
use Rattle.std.proofs.Common.{◌≡◌, ◌≤◌, ℕ, List, [], ◌∷◌, ◌++◌, Bool, true, false, ◌||◌, length, refl, ap, sym, ◌∙◌, append_assoc, arith}
use Rattle.spec_tree_file.specs.Patterns.{some_end}

-- this is an end of the text
abbrev pub End : List ℕ → List ℕ → Type 0
End text end = (before : List ℕ) × (text ≡ before ++ end)

or_true : (a b : Bool) → b ≡ true → (a || b) ≡ true
or_true true b h = refl
or_true false b h = h

pub some_end-here : (test : List ℕ → Bool) (text : List ℕ) → test text ≡ true → some_end test text ≡ true
some_end-here test [] h = h
some_end-here test (byte ∷ text) h = ap (λ (b : Bool). b || some_end test text) h

pub some_end-after : (test : List ℕ → Bool) (before end : List ℕ) → test end ≡ true → some_end test (before ++ end) ≡ true
some_end-after test [] end h = some_end-here test end h
some_end-after test (byte ∷ before) end h = or_true (test (byte ∷ (before ++ end))) (some_end test (before ++ end)) (some_end-after test before end h)

either : (a b : Bool) → (a || b) ≡ true → (a ≡ false → b ≡ true)
either true b h e = absurd (cc)
either false b h e = h

end_by : (test : List ℕ → Bool) (byte : ℕ) (text : List ℕ) (b : Bool) → test (byte ∷ text) ≡ b → (b ≡ false → (end : List ℕ) × End text end × (test end ≡ true)) → (end : List ℕ) × End (byte ∷ text) end × (test end ≡ true)
end_by test byte text true e later = (byte ∷ text, ([], refl), e)
end_by test byte text false e later = let found = later refl in (found.0, (byte ∷ found.1.0, ap (λ (t : List ℕ). byte ∷ t) found.1.1), found.2)

-- the end that passes
pub some_end-found : (test : List ℕ → Bool) (text : List ℕ) → some_end test text ≡ true → (end : List ℕ) × End text end × (test end ≡ true)
some_end-found test [] h = ([], ([], refl), h)
some_end-found test (byte ∷ text) h =
    end_by test byte text (test (byte ∷ text)) refl
    (λ none. some_end-found test text (either (test (byte ∷ text)) (some_end test text) h none))

-- an end of an end is an end
pub End-trans : (text end last : List ℕ) → End text end → End end last → End text last
End-trans text end last a b = (a.0 ++ b.0, a.1 ∙ ap (λ (t : List ℕ). a.0 ++ t) b.1 ∙ sym (append_assoc a.0 b.0 last))

-- of two ends of one text the one after more bytes is an end of the other
pub End-within : (a b x t : List ℕ) → a ++ x ≡ b ++ t → length b ≤ length a → End t x
End-within a [] x t h less = (a, sym h)
End-within [] (d ∷ b) x t h less = absurd (omega arith)
End-within (c ∷ a) (d ∷ b) x t h less = End-within a b x t (cc) (omega arith)
