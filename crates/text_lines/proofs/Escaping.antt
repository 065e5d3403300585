-- A text that is escaped part by part.
use Rattle.std.proofs.Common.{◌≡◌, ℕ, Bool, true, List, [], ◌∷◌, ◌++◌, take, drop, length, refl, ap, sym, ◌∙◌, append_assoc, append-nil, arith}
use Rattle.std.proofs.lemmas.Bool.Decides.{nat_tests}
use Rattle.std.proofs.lemmas.Grind.{flat_map-append}
use Rattle.std.proofs.lemmas.List.{nil_from_length, take-append-drop}
use Rattle.std.proofs.lemmas.List.Sums.{prefix_len-le-length}
use Rattle.std.specs.List.{flat_map, list_all, prefix_len}
use Rattle.spec_output.specs.Lines.{quoted_byte}
use Rattle.spec_script.proofs.Bools.{both}
use Rattle.script_reader.proofs.Lexing.{list_all-prefix}
use Rattle.spec_tree.specs.PrintedTree.{escaped_byte}
use Rattle.text_lines.specs.Escaping.{is_plain_byte, is_plain_in_quotes}

pub ruleset prefixes = prefix_len-le-length

-- ---- Bytes that stand for themselves

pub plain_byte : (c : ℕ) → is_plain_byte c ≡ true → escaped_byte c ≡ c ∷ []
plain_byte c h = grind (arith, nat_tests)

pub plain_in_quotes : (c : ℕ) → is_plain_in_quotes c ≡ true → quoted_byte c ≡ c ∷ []
plain_in_quotes c h = grind (arith, nat_tests)

-- ---- Texts, where it is known which bytes stand for themselves, and what stands for each byte

module _ (is_plain : ℕ → Bool) (escaped : ℕ → List ℕ) (plain_byte_is : (c : ℕ) → is_plain c ≡ true → escaped c ≡ c ∷ []) where
  plain_text : (xs : List ℕ) → list_all is_plain xs ≡ true → flat_map escaped xs ≡ xs
  plain_text [] h = refl
  plain_text (x ∷ xs) h =
      let t = both (is_plain x) (list_all is_plain xs) h in
      ap (λ (z : List ℕ). z ++ flat_map escaped xs) (plain_byte_is x t.0) ∙ ap (λ (z : List ℕ). x ∷ z) (plain_text xs t.1)

  -- a text that is cut before its first byte that does not stand for itself
  pub record PlainCut (rest plain marked : List ℕ) : Type 0 where
    pub split : rest ≡ plain ++ marked
    pub same : flat_map escaped plain ≡ plain

  cut_here : (rest : List ℕ) (n : ℕ) → n ≡ prefix_len is_plain rest → PlainCut rest (take n rest) (drop n rest)
  cut_here rest n len = record {
    split = sym (take-append-drop n rest);
    same = plain_text (take n rest) (ap (λ (m : ℕ). list_all is_plain (take m rest)) len ∙ list_all-prefix is_plain rest);
  }

  pub plain_cut : (rest plain marked : List ℕ) (n : ℕ) → plain ≡ take n rest → marked ≡ drop n rest → n ≡ prefix_len is_plain rest → PlainCut rest plain marked
  plain_cut rest plain marked n front back len =
      let cut = cut_here rest n len in
      record {
        split = cut.split ∙ ap (λ (z : List ℕ). z ++ drop n rest) (sym front) ∙ ap (λ (z : List ℕ). plain ++ z) (sym back);
        same = ap (flat_map escaped) front ∙ cut.same ∙ sym front;
      }

  -- a part, and the byte after it
  pub part_escaped :
      (out rest plain marked more value : List ℕ) (c : ℕ) → PlainCut rest plain marked → marked ≡ c ∷ more → out ++ flat_map escaped rest ≡ value →
      ((out ++ plain) ++ escaped c) ++ flat_map escaped more ≡ value
  part_escaped out rest plain marked more value c cut is so_far =
      append_assoc (out ++ plain) (escaped c) (flat_map escaped more)
      ∙ append_assoc out plain (flat_map escaped (c ∷ more))
      ∙ ap (λ (z : List ℕ). out ++ (z ++ flat_map escaped (c ∷ more))) (sym cut.same)
      ∙ ap (λ (z : List ℕ). out ++ z) (sym (flat_map-append escaped plain (c ∷ more)))
      ∙ ap (λ (z : List ℕ). out ++ flat_map escaped (plain ++ z)) (sym is)
      ∙ ap (λ (z : List ℕ). out ++ flat_map escaped z) (sym cut.split)
      ∙ so_far

  -- the last part
  pub last_escaped : (out rest plain marked value : List ℕ) → PlainCut rest plain marked → length marked ≡ 0 → out ++ flat_map escaped rest ≡ value → out ++ plain ≡ value
  last_escaped out rest plain marked value cut none so_far =
      ap (λ (z : List ℕ). out ++ z) (sym cut.same)
      ∙ ap (λ (z : List ℕ). out ++ flat_map escaped z) (sym (cut.split ∙ ap (λ (z : List ℕ). plain ++ z) (nil_from_length marked none) ∙ append-nil plain))
      ∙ so_far
