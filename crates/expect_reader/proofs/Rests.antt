-- What follows the leaves at the front of a line is of a line's bytes.
use Rattle.std.proofs.Common.{◌≡◌, ℕ, Bool, true, false, ◌&&◌, ◌||◌, List, [], ◌∷◌, drop, Option, Some, None, cond, subst, nat_eq, nat_le}
use Rattle.std.specs.Prelude.{codes, option_and_then}
use Rattle.std.specs.List.{list_all, prefix_len, starts_with}
use Rattle.std.specs.Str.{is_utf8}
use Rattle.std.proofs.lemmas.Bool.{and_parts}
use Rattle.std.proofs.lemmas.List.Elements.{All-drop}
use Rattle.std.proofs.lemmas.List.Sums.{AllPass-from_list_all, list_all-from_AllPass}
use Rattle.spec_world.specs.Worlds.{is_name}
use Rattle.spec_world_file.specs.WorldFile.{after_backslash, after_word, after_x, digit_value, front_word, is_apart, is_gap, is_line_byte, text_to_quote, with_byte, with_digits, without_gap}
use Rattle.spec_expect.specs.declared.place.Pick.{Pick}
use Rattle.spec_expect.specs.declared.place.Pick.TheVariants.{ById}
use Rattle.spec_expect.specs.ExpectFile.{pick_at_front, pick_quoted, quoted_pick}
use Rattle.world_lines.proofs.Ascii.{line-after_word}

abbrev IsLine : List ℕ → Type 0
IsLine text = list_all is_line_byte text ≡ true

-- what follows, where there is something
abbrev Rest : {A : Type 0} → Option (A × List ℕ) → Type 0
Rest None = Unit {0}
Rest (Some found) = IsLine found.1

tail : (c : ℕ) (rest : List ℕ) → IsLine (c ∷ rest) → IsLine rest
tail c rest is = (and_parts (is_line_byte c) (list_all is_line_byte rest) is).1

kept : (n : ℕ) (text : List ℕ) → IsLine text → IsLine (drop n text)
kept n text is = list_all-from_AllPass is_line_byte (drop n text) (All-drop (λ b. is_line_byte b ≡ true) n text (AllPass-from_list_all is_line_byte text is))

rest_if : {A : Type 0} (b : Bool) (x y : Option (A × List ℕ)) → Rest x → Rest y → Rest (cond b x y)
rest_if true x y p q = p
rest_if false x y p q = q

rest_byte : (c : ℕ) (found : Option (List ℕ × List ℕ)) → Rest found → Rest (with_byte c found)
rest_byte c None is = tt
rest_byte c (Some found) is = is

rest_digits : (high low : Option ℕ) (found : Option (List ℕ × List ℕ)) → Rest found → Rest (with_digits high low found)
rest_digits None low found is = tt
rest_digits (Some high) None found is = tt
rest_digits (Some high) (Some low) found is = rest_byte _ found is

mutual
  quote_rest : (text : List ℕ) → IsLine text → Rest (text_to_quote text)
  quote_rest [] is = tt
  quote_rest (c ∷ rest) is =
      rest_if (nat_eq c 39) _ _ (tail c rest is)
      (rest_if (nat_eq c 92) _ _ (backslash_rest rest (tail c rest is))
      (rest_if (nat_le 32 c && nat_le c 126) _ _ (rest_byte c (text_to_quote rest) (quote_rest rest (tail c rest is))) tt))

  backslash_rest : (text : List ℕ) → IsLine text → Rest (after_backslash text)
  backslash_rest [] is = tt
  backslash_rest (c ∷ rest) is =
      rest_if (nat_eq c 39 || nat_eq c 92) _ _ (rest_byte c (text_to_quote rest) (quote_rest rest (tail c rest is)))
      (rest_if (nat_eq c 110) _ _ (rest_byte 10 (text_to_quote rest) (quote_rest rest (tail c rest is)))
      (rest_if (nat_eq c 120) _ _ (x_rest rest (tail c rest is)) tt))

  x_rest : (text : List ℕ) → IsLine text → Rest (after_x text)
  x_rest [] is = tt
  x_rest (high ∷ []) is = tt
  x_rest (high ∷ low ∷ rest) is =
      rest_digits (digit_value high) (digit_value low) (text_to_quote rest) (quote_rest rest (tail low rest (tail high (low ∷ rest) is)))

quoted_rest : (found : Option (List ℕ × List ℕ)) → Rest found → Rest (option_and_then pick_quoted found)
quoted_rest None is = tt
quoted_rest (Some found) is =
    rest_if (is_utf8 found.0 && is_apart found.1) (Some (quoted_pick found.0, without_gap found.1)) None (kept (prefix_len is_gap found.1) found.1 is) tt

front_rest : (text : List ℕ) → IsLine text → Rest (pick_at_front text)
front_rest text is =
    rest_if (starts_with nat_eq text (codes "'")) _ _ (quoted_rest (text_to_quote (drop 1 text)) (quote_rest (drop 1 text) (kept 1 text is)))
    (rest_if (is_name (front_word text)) (Some (ById (front_word text), after_word text)) None (line-after_word text is) tt)

pub pick_rest : (text : List ℕ) (pick : Pick) (rest : List ℕ) → list_all is_line_byte text ≡ true → pick_at_front text ≡ Some (pick, rest) → list_all is_line_byte rest ≡ true
pick_rest text pick rest is found = subst (λ (o : Option (Pick × List ℕ)). Rest o) found (front_rest text is)
