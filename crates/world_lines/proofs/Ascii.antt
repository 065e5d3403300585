-- The bytes of a line are ASCII, and so are those of each part of it.
use Rattle.std.proofs.Common.{◌≡◌, ℕ, zero, suc, ◌<◌, true, List, [], ◌∷◌, drop, get_or, sym, subst, arith, lit<}
use Rattle.std.specs.Str.{IsUtf8}
use Rattle.std.specs.List.{list_all, prefix_len, position_or_len}
use Rattle.std.proofs.lemmas.Str.{IsUtf8-from_ascii}
use Rattle.std.proofs.lemmas.Bool.Decides.{nat_tests}
use Rattle.std.proofs.lemmas.List.Elements.{All-drop}
use Rattle.std.proofs.lemmas.List.Sums.{AllPass-from_list_all, list_all-from_AllPass}
use Rattle.spec_script.proofs.Bools.{both}
use Rattle.spec_world_file.specs.WorldFile.{after_word, is_gap, is_line_byte}

small : (b : ℕ) → is_line_byte b ≡ true → b < 128
small b h = grind (arith, nat_tests)

ascii : (bs : List ℕ) → list_all is_line_byte bs ≡ true → (i : ℕ) → get_or bs i 0 < 128
ascii [] h i = lit< tt
ascii (b ∷ bs) h zero = small b (both (is_line_byte b) (list_all is_line_byte bs) h).0
ascii (b ∷ bs) h (suc i) = ascii bs (both (is_line_byte b) (list_all is_line_byte bs) h).1 i

pub IsUtf8-from_line : (bs : List ℕ) → list_all is_line_byte bs ≡ true → IsUtf8 bs
IsUtf8-from_line bs h = IsUtf8-from_ascii bs (ascii bs h)

kept : (n : ℕ) (bs : List ℕ) → list_all is_line_byte bs ≡ true → list_all is_line_byte (drop n bs) ≡ true
kept n bs h = list_all-from_AllPass is_line_byte (drop n bs) (All-drop (λ b. is_line_byte b ≡ true) n bs (AllPass-from_list_all is_line_byte bs h))

pub line-after_word : (bs : List ℕ) → list_all is_line_byte bs ≡ true → list_all is_line_byte (after_word bs) ≡ true
line-after_word bs h =
    let rest = drop (position_or_len is_gap bs) bs in
    kept (prefix_len is_gap rest) rest (kept (position_or_len is_gap bs) bs h)

pub line_once : (text rest : List ℕ) → rest ≡ after_word text → list_all is_line_byte text ≡ true → list_all is_line_byte rest ≡ true
line_once text rest is h = subst (λ (bs : List ℕ). list_all is_line_byte bs ≡ true) (sym is) (line-after_word text h)
