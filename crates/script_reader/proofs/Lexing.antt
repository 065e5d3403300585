-- Lemmas on tokens.
use Rattle.std.proofs.Common.{◌≡◌, ℕ, zero, suc, ◌<◌, ◌≤◌, ◌+◌, ◌-◌, ◌*◌, Bool, true, false, ◌&&◌, not, ◌==◌, subst, cond, List, [], ◌∷◌, length, get_or, take, drop, refl, ap, sym, ◌∙◌, arith, one-add, Result, Ok, length-drop}
use Rattle.std.proofs.lemmas.Bool.{eqb-true}
use Rattle.std.proofs.lemmas.List.{drop_more, drop-drop, get_or-drop}
use Rattle.std.proofs.lemmas.List.Sums.{prefix_len-le-length, prefix_len_stops}
use Rattle.std.specs.List.{prefix_len, list_all}
use Rattle.std.specs.Str.{IsUtf8, IsCharBoundary}
use Rattle.std.proofs.lemmas.Str.{IsUtf8-between, IsCharBoundary-after_ascii}
use Rattle.spec_script.specs.Identifiers.{is_white}
use Rattle.spec_script.specs.Tokens.{digit_value, read_on, token_at, read_then, read_tokens, Tokens}
use Rattle.spec_script.specs.declared.fault.ScriptFault.{ScriptFault}
use Rattle.spec_script.specs.declared.token.Token.{Token}

pub ruleset prefixes = prefix_len-le-length

front-step : (p : ℕ → Bool) (b : Bool) (c : ℕ) (cs : List ℕ) → p c ≡ b → list_all p (take (prefix_len p cs) cs) ≡ true → list_all p (take (cond b (1 + prefix_len p cs) 0) (c ∷ cs)) ≡ true
front-step p true c cs is all = rw (one-add (prefix_len p cs)) (ap (λ (b : Bool). b && list_all p (take (prefix_len p cs) cs)) is ∙ all)
front-step p false c cs is all = refl

-- each byte of the longest prefix that passes does pass
pub list_all-prefix : (p : ℕ → Bool) (bs : List ℕ) → list_all p (take (prefix_len p bs) bs) ≡ true
list_all-prefix p [] = refl
list_all-prefix p (c ∷ cs) = front-step p (p c) c cs refl (list_all-prefix p cs)

le-times : (n base : ℕ) → 1 ≤ base → n ≤ n * base
le-times n base h = grind arith

-- reading on makes no number smaller
pub le-read_on : (base n : ℕ) (ds : List ℕ) → 1 ≤ base → n ≤ read_on base n ds
le-read_on base n [] h = omega arith
le-read_on base n (d ∷ ds) h = omega (arith, le-read_on base (n * base + digit_value d) ds h, le-times n base h)

-- what belongs to the token before is skipped
pub read_past : (place within : ℕ) (bs : List ℕ) → within ≤ length bs → read_tokens place within bs ≡ read_tokens (place + within) 0 (drop within bs)
read_past place zero bs h = let e : place ≡ place + 0 = omega arith in ap (λ (p : ℕ). read_tokens p 0 bs) e
read_past place (suc within) [] h = absurd (omega arith)
read_past place (suc within) (c ∷ cs) h =
    let e : place + 1 + within ≡ place + suc within = omega arith in
    let small : within ≤ length cs = omega arith in
    read_past (place + 1) within cs small ∙ ap (λ (p : ℕ). read_tokens p 0 (drop within cs)) e

read_front : (place len c : ℕ) (cs : List ℕ) (t : Token) →
    is_white c ≡ false → token_at place (c ∷ cs) ≡ Ok (t, len) → 0 < len → len ≤ 1 + length cs →
    read_tokens place 0 (c ∷ cs) ≡ read_then place (Ok (t, len)) (λ n. read_tokens (place + len) 0 (drop (len - 1) cs))
read_front place len c cs t black is some all =
    let f : ℕ → Tokens = λ n. read_tokens (place + 1) (n - 1) cs in
    let small : len - 1 ≤ length cs = omega arith in
    let e : place + 1 + (len - 1) ≡ place + len = omega arith in
    let following : f len ≡ read_tokens (place + len) 0 (drop (len - 1) cs) = read_past (place + 1) (len - 1) cs small ∙ ap (λ (p : ℕ). read_tokens p 0 (drop (len - 1) cs)) e in
    ap (λ (b : Bool). cond b (read_tokens (place + 1) 0 cs) (read_then place (token_at place (c ∷ cs)) f)) black
    ∙ ap (λ (r : Result (Token × ℕ) ScriptFault). read_then place r f) is
    ∙ ap (λ (x : Tokens). let y : Tokens = record { tokens = (record { token = t; place = place }) ∷ x.tokens; fault = x.fault } in y) following

-- one more token
pub read_one : (text : List ℕ) (at len : ℕ) (t : Token) →
    at < length text → is_white (get_or text at 0) ≡ false → token_at at (drop at text) ≡ Ok (t, len) → 0 < len → at + len ≤ length text →
    read_tokens at 0 (drop at text) ≡ read_then at (Ok (t, len)) (λ n. read_tokens (at + len) 0 (drop (at + len) text))
read_one text at len t inside black is some all =
    let e = drop_more text at 0 inside in
    let room : len ≤ 1 + length (drop (at + 1) text) = omega (arith, length-drop (at + 1) text) in
    let n : at + 1 + (len - 1) ≡ at + len = omega arith in
    ap (λ (bs : List ℕ). read_tokens at 0 bs) e
    ∙ read_front at len (get_or text at 0) (drop (at + 1) text) t black (ap (λ (bs : List ℕ). token_at at bs) (sym e) ∙ is) some room
    ∙ ap (λ (bs : List ℕ). read_then at (Ok (t, len)) (λ n. read_tokens (at + len) 0 bs)) (drop-drop (len - 1) (at + 1) text ∙ ap (λ (k : ℕ). drop k text) n)

not-false : (b : Bool) → not b ≡ false → b ≡ true
not-false true h = refl
not-false false h = absurd (cc)

-- what stands between two quotes of a text is UTF-8
pub quoted_utf8 : (text bs : List ℕ) (at len : ℕ) → IsUtf8 text → at < length text → get_or text at 0 ≡ 39 →
    bs ≡ drop (at + 1) text → len ≡ prefix_len (λ c. not (c == 39)) bs → len < length bs → IsUtf8 (take len bs)
quoted_utf8 text bs at len utf8 inside quote is count less =
    let all : at + 1 + len < length text = omega (arith, length-drop (at + 1) text, ap (λ (xs : List ℕ). length xs) is) in
    let small : get_or text at 0 < 128 = omega arith in
    let stop : prefix_len (λ c. not (c == 39)) bs < length bs = omega arith in
    let last : get_or bs (prefix_len (λ c. not (c == 39)) bs) 0 ≡ 39 = eqb-true _ 39 (not-false _ (prefix_len_stops (λ c. not (c == 39)) bs 0 stop)) in
    let here : get_or bs len 0 ≡ 39 = ap (λ (k : ℕ). get_or bs k 0) count ∙ last in
    let there : get_or text (at + 1 + len) 0 ≡ 39 = sym (get_or-drop (at + 1) text len 0) ∙ ap (λ (xs : List ℕ). get_or xs len 0) (sym is) ∙ here in
    let far : IsCharBoundary text (at + 1 + len) = (omega arith, λ h big. absurd (omega arith)) in
    let cut = IsUtf8-between text (at + 1) (at + 1 + len) utf8 (omega arith) (IsCharBoundary-after_ascii text at utf8 inside small) far in
    let n : at + 1 + len - (at + 1) ≡ len = omega arith in
    subst IsUtf8 (ap (λ (k : ℕ). take k (drop (at + 1) text)) n ∙ ap (λ (xs : List ℕ). take len xs) (sym is)) cut
