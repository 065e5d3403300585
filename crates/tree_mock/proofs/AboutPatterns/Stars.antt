-- The test says what a pattern matches: a star stands for any text.
use Rattle.std.proofs.Common.{◌≡◌, ℕ, List, [], ◌∷◌, ◌++◌, Bool, true, false, ◌&&◌, nat_eq, refl, ap, sym, ◌∙◌, subst, arith}
use Rattle.std.specs.Prelude.{if◌then◌else◌}
use Rattle.std.proofs.lemmas.Bool.Decides.{nat_tests}
use Rattle.tree_mock.specs.Patterns.{Matches, filled, first, others}
use Rattle.spec_tree_file.specs.Patterns.{begins, is_star, matches, some_end}
use Rattle.tree_mock.proofs.AboutPatterns.Ends.{some_end-after, some_end-found}

left_half : (a b : Bool) → (a && b) ≡ true → a ≡ true
left_half true b h = refl
left_half false b h = absurd (cc)

right_half : (a b : Bool) → (a && b) ≡ true → b ≡ true
right_half true b h = h
right_half false b h = absurd (cc)

-- what a text begins with
pub begun : (byte : ℕ) (test : List ℕ → Bool) (text : List ℕ) → begins byte test text ≡ true → (rest : List ℕ) × (text ≡ byte ∷ rest) × (test rest ≡ true)
begun byte test [] h = absurd (cc)
begun byte test (other ∷ text) h =
    let e : nat_eq byte other ≡ true = left_half (nat_eq byte other) (test text) h in
    let same : other ≡ byte = grind (arith, nat_tests) in
    (text, ap (λ (c : ℕ). c ∷ text) same, right_half (nat_eq byte other) (test text) h)

filled_by : (byte : ℕ) (pattern text : List ℕ) (b : Bool) → is_star byte ≡ b → ((rest : List ℕ) → matches pattern rest ≡ true → Matches pattern rest)
    → (if b then some_end (matches pattern) text else begins byte (matches pattern) text) ≡ true → Matches (byte ∷ pattern) text
filled_by byte pattern text true star inner h =
    let found = some_end-found (matches pattern) text h in
    let below = inner found.0 found.2 in
    let texts = found.1.0 ∷ below.0 in (
      texts,
      ap (λ (b : Bool). if b then first texts ++ filled pattern (others texts) else byte ∷ filled pattern texts) star
          ∙ ap (λ (t : List ℕ). found.1.0 ++ t) below.1 ∙ sym found.1.1,
    )
filled_by byte pattern text false star inner h =
    let found = begun byte (matches pattern) text h in
    let below = inner found.0 found.2 in
    let texts = below.0 in (
      texts,
      ap (λ (b : Bool). if b then first texts ++ filled pattern (others texts) else byte ∷ filled pattern texts) star
          ∙ ap (λ (t : List ℕ). byte ∷ t) below.1 ∙ sym found.1,
    )

pub sound : (pattern text : List ℕ) → matches pattern text ≡ true → Matches pattern text
sound [] [] h = ([], refl)
sound [] (byte ∷ text) h = absurd (cc)
sound (byte ∷ pattern) text h = filled_by byte pattern text (is_star byte) refl (λ rest e. sound pattern rest e) h

pub itself : (byte : ℕ) (test : List ℕ → Bool) (text : List ℕ) → test text ≡ true → begins byte test (byte ∷ text) ≡ true
itself byte test text h =
    let e : nat_eq byte byte ≡ true = grind (arith, nat_tests) in
    ap (λ (b : Bool). b && test text) e ∙ h

matched_by : (byte : ℕ) (pattern : List ℕ) (texts : List (List ℕ)) (b : Bool) → is_star byte ≡ b → ((ts : List (List ℕ)) → matches pattern (filled pattern ts) ≡ true)
    → matches (byte ∷ pattern) (if b then first texts ++ filled pattern (others texts) else byte ∷ filled pattern texts) ≡ true
matched_by byte pattern texts true star inner =
    let text = first texts ++ filled pattern (others texts) in
    ap (λ (b : Bool). if b then some_end (matches pattern) text else begins byte (matches pattern) text) star
    ∙ some_end-after (matches pattern) (first texts) (filled pattern (others texts)) (inner (others texts))
matched_by byte pattern texts false star inner =
    let text = byte ∷ filled pattern texts in
    ap (λ (b : Bool). if b then some_end (matches pattern) text else begins byte (matches pattern) text) star
    ∙ itself byte (matches pattern) (filled pattern texts) (inner texts)

matches-filled : (pattern : List ℕ) (texts : List (List ℕ)) → matches pattern (filled pattern texts) ≡ true
matches-filled [] texts = refl
matches-filled (byte ∷ pattern) texts = matched_by byte pattern texts (is_star byte) refl (λ ts. matches-filled pattern ts)

pub complete : (pattern text : List ℕ) → Matches pattern text → matches pattern text ≡ true
complete pattern text h = subst (λ (t : List ℕ). matches pattern t ≡ true) h.1 (matches-filled pattern h.0)
