-- Where a text may be cut: before an ASCII byte, and after one.
use Rattle.std.proofs.Common.{◌≡◌, ℕ, ◌<◌, Bool, true, false, List, [], ◌∷◌, ◌++◌, length, get_or, take, drop, ap, sym, ◌∙◌, subst, arith}
use Rattle.std.proofs.lemmas.Bool.Decides.{nat_tests}
use Rattle.std.proofs.lemmas.List.{take-append-drop, length-append}
use Rattle.std.proofs.Math.Seq.{take-append_seam, drop-append_seam}
use Rattle.std.proofs.lemmas.Grind.{common_steps}
use Rattle.std.proofs.lemmas.List.Sums.{prefix_len-le-length, prefix_len_stops}
use Rattle.std.proofs.lemmas.Str.{IsUtf8-take, IsUtf8-drop, IsUtf8-past_char, IsCharBoundary-before_ascii, IsCharBoundary-after_ascii}
use Rattle.std.specs.Char.{is_ascii, encode_utf8}
use Rattle.std.specs.List.{prefix_len, list_all}
use Rattle.std.specs.Str.{IsUtf8, IsCharBoundary}
use Rattle.spec_script.specs.Identifiers.{is_white}
use Rattle.spec_script.proofs.Bools.{both}
use Rattle.spec_tree_file.specs.Marks.{is_name_rest, is_quote, is_value_byte}
use Rattle.spec_tree_file.specs.Elements.{is_text_byte}
use Rattle.spec_tree_file.specs.References.{is_plain_byte}
use Rattle.tree_elements.specs.Reading.{after_white, begins}
use Rattle.tree_elements.proofs.Prefixes.{taken}

-- bytes that do not pass are ASCII
abbrev pub StopsAtAscii : (ℕ → Bool) → Type 0
StopsAtAscii p = (c : ℕ) → p c ≡ false → c < 128

stops_before : (p : ℕ → Bool) (bs : List ℕ) → StopsAtAscii p → prefix_len p bs < length bs → get_or bs (prefix_len p bs) 0 < 128
stops_before p bs ascii h = ascii (get_or bs (prefix_len p bs) 0) (prefix_len_stops p bs 0 h)

boundary : (p : ℕ → Bool) (bs : List ℕ) → StopsAtAscii p → IsCharBoundary bs (prefix_len p bs)
boundary p bs ascii = (prefix_len-le-length p bs, λ h big. absurd (let k = stops_before p bs ascii h in omega arith))

-- a text may be cut before the first byte that does not pass a test, if each byte that is not ASCII passes it
pub cut_front : (p : ℕ → Bool) (bs : List ℕ) → StopsAtAscii p → IsUtf8 bs → IsUtf8 (take (prefix_len p bs) bs)
cut_front p bs ascii u = IsUtf8-take bs (prefix_len p bs) u (boundary p bs ascii)

pub cut_rest : (p : ℕ → Bool) (bs : List ℕ) → StopsAtAscii p → IsUtf8 bs → IsUtf8 (drop (prefix_len p bs) bs)
cut_rest p bs ascii u = IsUtf8-drop bs (prefix_len p bs) u (boundary p bs ascii)

-- a text goes on after an ASCII byte
pub cut_first : (c : ℕ) (bs : List ℕ) → c < 128 → IsUtf8 (c ∷ bs) → IsUtf8 bs
cut_first c bs small u =
    let h : 0 < length (c ∷ bs) = omega arith in
    IsUtf8-drop (c ∷ bs) 1 u (IsCharBoundary-after_ascii (c ∷ bs) 0 u h small)

-- bytes that pass are ASCII
abbrev pub PassesAscii : (ℕ → Bool) → Type 0
PassesAscii p = (c : ℕ) → p c ≡ true → c < 128

pub cut_all : (p : ℕ → Bool) (xs ys : List ℕ) → PassesAscii p → list_all p xs ≡ true → IsUtf8 (xs ++ ys) → IsUtf8 ys
cut_all p [] ys ascii h u = u
cut_all p (x ∷ xs) ys ascii h u =
    let t = both (p x) (list_all p xs) h in
    cut_all p xs ys ascii t.1 (cut_first x (xs ++ ys) (ascii x t.0) u)

pub text_stops : StopsAtAscii is_text_byte
text_stops c h = grind (arith, nat_tests)

pub name_stops : StopsAtAscii is_name_rest
name_stops c h = grind (arith, nat_tests)

pub plain_stops : StopsAtAscii is_plain_byte
plain_stops c h = grind (arith, nat_tests)

pub value_stops : (quote : ℕ) → quote < 128 → StopsAtAscii (is_value_byte quote)
value_stops quote small c h = grind (arith, nat_tests)

pub white_ascii : PassesAscii is_white
white_ascii c h = grind (arith, nat_tests)

pub cut_white : (bs : List ℕ) → IsUtf8 bs → IsUtf8 (after_white bs)
cut_white bs u =
    let n = prefix_len is_white bs in
    cut_all is_white (take n bs) (drop n bs) white_ascii (taken is_white bs) (subst IsUtf8 (sym (take-append-drop n bs)) u)

pub cut_following : (c : ℕ) (bs rest : List ℕ) → bs ≡ c ∷ rest → c < 128 → IsUtf8 bs → IsUtf8 rest
cut_following c bs rest is small u = cut_first c rest small (subst IsUtf8 is u)

passes_ascii : PassesAscii is_ascii
passes_ascii c h = grind (arith, nat_tests)

-- a text goes on after ASCII bytes that stand anywhere in it
pub cut_within : (body word rest : List ℕ) → 0 < length word → list_all is_ascii word ≡ true → IsUtf8 (body ++ (word ++ rest)) → IsUtf8 rest
cut_within body [] rest some h u = absurd (omega arith)
cut_within body (c ∷ cs) rest some h u =
    let bs = body ++ ((c ∷ cs) ++ rest) in
    let here : get_or bs (length body) 0 ≡ c = grind (arith, common_steps) in
    let small : c < 128 = passes_ascii c (both (is_ascii c) (list_all is_ascii cs) h).0 in
    let within : length body < length bs = omega (arith, length-append body ((c ∷ cs) ++ rest)) in
    let low : get_or bs (length body) 0 < 128 = omega arith in
    let cut : IsUtf8 (drop (length body) bs) = IsUtf8-drop bs (length body) u (IsCharBoundary-before_ascii bs (length body) within low) in
    cut_all is_ascii (c ∷ cs) rest passes_ascii h (subst IsUtf8 (drop-append_seam body ((c ∷ cs) ++ rest)) cut)

-- what stands before such a cut, where a call gave it
pub front_cut : (p : ℕ → Bool) (bs front : List ℕ) (n : ℕ) → StopsAtAscii p → IsUtf8 bs → front ≡ take n bs → n ≡ prefix_len p bs → IsUtf8 front
front_cut p bs front n ascii u is len = subst IsUtf8 (sym (is ∙ ap (λ (m : ℕ). take m bs) len)) (cut_front p bs ascii u)

pub rest_cut : (p : ℕ → Bool) (bs rest : List ℕ) (n : ℕ) → StopsAtAscii p → IsUtf8 bs → rest ≡ drop n bs → n ≡ prefix_len p bs → IsUtf8 rest
rest_cut p bs rest n ascii u is len = subst IsUtf8 (sym (is ∙ ap (λ (m : ℕ). drop m bs) len)) (cut_rest p bs ascii u)

-- a text ends before an ASCII byte, and goes on with it
pub cut_before : (front rest : List ℕ) → begins is_ascii rest ≡ true → IsUtf8 (front ++ rest) → IsUtf8 front × IsUtf8 rest
cut_before front [] h u = absurd (cc)
cut_before front (c ∷ cs) h u =
    let bs = front ++ (c ∷ cs) in
    let here : get_or bs (length front) 0 ≡ c = grind (arith, common_steps) in
    let small : c < 128 = passes_ascii c h in
    let within : length front < length bs = omega (arith, length-append front (c ∷ cs)) in
    let low : get_or bs (length front) 0 < 128 = omega arith in
    let edge = IsCharBoundary-before_ascii bs (length front) within low in (
      subst IsUtf8 (take-append_seam front (c ∷ cs)) (IsUtf8-take bs (length front) u edge),
      subst IsUtf8 (drop-append_seam front (c ∷ cs)) (IsUtf8-drop bs (length front) u edge),
    )

pub quote_ascii : (c : ℕ) → is_quote c ≡ true → c < 128
quote_ascii c h = grind (arith, nat_tests)

-- a text goes on after a byte order mark
pub cut_order_mark : (bs rest : List ℕ) → bs ≡ 0xEF ∷ 0xBB ∷ 0xBF ∷ rest → IsUtf8 bs → IsUtf8 rest
unfolding encode_utf8
cut_order_mark bs rest is u = IsUtf8-past_char bs rest 0xFEFF u is
