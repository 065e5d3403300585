-- What the check of the tokens says is what the grammar says.
use Rattle.std.proofs.Common.{◌≡◌, ℕ, zero, suc, ◌≤◌, ◌+◌, ◌-◌, ◌==◌, ◌||◌, ℤ, Bool, true, false, cond, List, [], ◌∷◌, length, take, drop, Option, Some, None, Result, Ok, Err, refl, ap, sym, ◌∙◌, subst, inl, inr}
use Rattle.std.specs.List.{prefix_len, position_or_len}
use Rattle.spec_script.specs.declared.fault.ScriptFault.{ScriptFault}
use Rattle.spec_script.specs.declared.fault.ScriptFault.TheVariants.{TooLong, Syntax, RealNumber, NumberTooWide, TooNested}
use Rattle.spec_script.specs.declared.token.Token.{Token}
use Rattle.spec_script.specs.declared.token.Token.TheVariants.{Text}
use Rattle.spec_script.specs.declared.token.Placed.{Placed}
use Rattle.spec_script.specs.declared.stage.Verdict.{Verdict}
use Rattle.spec_script.specs.declared.stage.Verdict.TheVariants as verdict
use Rattle.std.specs.Char.{is_ascii_digit, is_ascii_hexdigit}
use Rattle.spec_script.specs.Identifiers.{is_white, is_identifier_start}
use Rattle.spec_script.specs.Tokens.{Tokens, number_in, word_at, decimal_end, hex_end, within, ended, decimal_at, hex_at, starts_hex, text_at, two_sign, one_sign, single, longest, sign_at, unquoted_at, token_at, read_then, read_tokens}
use Rattle.spec_script.specs.Reading.{bare, tokens_of, token_fault, Begins, StuckAt, Unfinished, FaultAfter, Faulty}
use Rattle.spec_script.specs.Spots.{Spot, run, LeadsNowhere, Leads, Checked, refused}
use Rattle.spec_script.proofs.Machine.{fine, nothing-begins}

-- the faults that a token may have
abbrev pub Lexical : ScriptFault → Type 0
Lexical TooLong = ⊥
Lexical (TooNested place) = ⊥
Lexical (Syntax place) = Unit {0}
Lexical (RealNumber place) = Unit {0}
Lexical (NumberTooWide place) = Unit {0}

abbrev LexicalAt : Result (Token × ℕ) ScriptFault → Type 0
LexicalAt (Ok found) = Unit {0}
LexicalAt (Err fault) = Lexical fault

abbrev LexicalEnd : Option ScriptFault → Type 0
LexicalEnd None = Unit {0}
LexicalEnd (Some fault) = Lexical fault

either : (b : Bool) (x y : Result (Token × ℕ) ScriptFault) → LexicalAt x → LexicalAt y → LexicalAt (cond b x y)
either true x y h k = h
either false x y h k = k

either-end : (b : Bool) (x y : Option ScriptFault) → LexicalEnd x → LexicalEnd y → LexicalEnd (cond b x y)
either-end true x y h k = h
either-end false x y h k = k

within-lexical : (place : ℕ) (value : Option ℤ) (len : ℕ) → LexicalAt (within place value len)
within-lexical place None len = tt
within-lexical place (Some n) len = tt

ended-lexical : (place : ℕ) (end : Option ScriptFault) (value : Option ℤ) (len : ℕ) → LexicalEnd end → LexicalAt (ended place end value len)
ended-lexical place None value len h = within-lexical place value len
ended-lexical place (Some fault) value len h = h

decimal_end-lexical : (place : ℕ) (bs : List ℕ) → LexicalEnd (decimal_end place bs)
decimal_end-lexical place [] = tt
decimal_end-lexical place (c ∷ cs) = either-end (c == 46 || c == 101 || c == 69) (Some (RealNumber place)) (cond (is_identifier_start c) (Some (Syntax place)) None) tt (either-end (is_identifier_start c) (Some (Syntax place)) None tt tt)

hex_end-lexical : (place : ℕ) (bs : List ℕ) → LexicalEnd (hex_end place bs)
hex_end-lexical place [] = tt
hex_end-lexical place (c ∷ cs) = either-end (is_identifier_start c) (Some (Syntax place)) None tt tt

single-lexical : (place : ℕ) (o : Option Token) → LexicalAt (single place o)
single-lexical place None = tt
single-lexical place (Some t) = tt

longest-lexical : (place c : ℕ) (o : Option Token) → LexicalAt (longest place c o)
longest-lexical place c None = single-lexical place (one_sign c)
longest-lexical place c (Some t) = tt

sign-lexical : (place : ℕ) (bs : List ℕ) → LexicalAt (sign_at place bs)
sign-lexical place [] = tt
sign-lexical place (c ∷ []) = single-lexical place (one_sign c)
sign-lexical place (c ∷ d ∷ cs) = longest-lexical place c (two_sign c d)

decimal-lexical : (place : ℕ) (bs : List ℕ) → LexicalAt (decimal_at place bs)
decimal-lexical place bs = ended-lexical place (decimal_end place (drop (prefix_len is_ascii_digit bs) bs)) (number_in 10 (take (prefix_len is_ascii_digit bs) bs)) (prefix_len is_ascii_digit bs) (decimal_end-lexical place (drop (prefix_len is_ascii_digit bs) bs))

hex-lexical : (place : ℕ) (bs : List ℕ) → LexicalAt (hex_at place bs)
hex-lexical place bs =
    let n = prefix_len is_ascii_hexdigit bs in
    either (n == 0) (Err (Syntax place)) (ended place (hex_end place (drop n bs)) (number_in 16 (take n bs)) (n + 2)) tt
    (ended-lexical place (hex_end place (drop n bs)) (number_in 16 (take n bs)) (n + 2) (hex_end-lexical place (drop n bs)))

unquoted-lexical : (place : ℕ) (bs : List ℕ) → LexicalAt (unquoted_at place bs)
unquoted-lexical place [] = tt
unquoted-lexical place (c ∷ cs) =
    either (is_ascii_digit c) (cond (starts_hex (c ∷ cs)) (hex_at place (drop 2 (c ∷ cs))) (decimal_at place (c ∷ cs))) (sign_at place (c ∷ cs))
    (either (starts_hex (c ∷ cs)) (hex_at place (drop 2 (c ∷ cs))) (decimal_at place (c ∷ cs)) (hex-lexical place (drop 2 (c ∷ cs))) (decimal-lexical place (c ∷ cs)))
    (sign-lexical place (c ∷ cs))

text-lexical : (place : ℕ) (bs : List ℕ) → LexicalAt (text_at place bs)
text-lexical place bs =
    let n = position_or_len (λ c. c == 39) bs in
    either (n == length bs) (Err (Syntax place)) (Ok (Text (take n bs), n + 2)) tt tt

token-lexical : (place : ℕ) (bs : List ℕ) → LexicalAt (token_at place bs)
token-lexical place [] = tt
token-lexical place (c ∷ cs) =
    either (is_identifier_start c) (Ok (word_at (c ∷ cs))) (cond (c == 39) (text_at place cs) (unquoted_at place (c ∷ cs))) tt
    (either (c == 39) (text_at place cs) (unquoted_at place (c ∷ cs)) (text-lexical place cs) (unquoted-lexical place (c ∷ cs)))

then-lexical : (place : ℕ) (r : Result (Token × ℕ) ScriptFault) (following : ℕ → Tokens) → LexicalAt r → ((len : ℕ) → LexicalEnd (following len).fault) → LexicalEnd (read_then place r following).fault
then-lexical place (Err fault) following h k = h
then-lexical place (Ok found) following h k = k found.1

blank-lexical : (b : Bool) (x y : Tokens) → LexicalEnd x.fault → LexicalEnd y.fault → LexicalEnd (cond b x y).fault
blank-lexical true x y h k = h
blank-lexical false x y h k = k

read-lexical : (place skip : ℕ) (bs : List ℕ) → LexicalEnd (read_tokens place skip bs).fault
read-lexical place skip [] = tt
read-lexical place (suc skip) (c ∷ cs) = read-lexical (place + 1) skip cs
read-lexical place zero (c ∷ cs) =
    blank-lexical (is_white c) (read_tokens (place + 1) 0 cs) (read_then place (token_at place (c ∷ cs)) (λ len. read_tokens (place + 1) (len - 1) cs))
    (read-lexical (place + 1) 0 cs)
    (then-lexical place (token_at place (c ∷ cs)) (λ len. read_tokens (place + 1) (len - 1) cs) (token-lexical place (c ∷ cs)) (λ len. read-lexical (place + 1) (len - 1) cs))

some-fault : {f g : ScriptFault} → ◌≡◌ {A = Option ScriptFault} (Some f) (Some g) → f ≡ g
some-fault h = cc

module _ (X : Type 0) (Is : List Token → X → Type 0) (high : X → List Placed → Option ℕ) (start : Spot)
    (begins : (ts : List Token) (spot : Spot) → run ts start ≡ Some spot → Begins Is ts)
    (all : (ts : List Token) (x : X) → Is ts x → fine (run ts start) ≡ true) where
  stuck-fault : (ts : List Placed) (place : ℕ) → LeadsNowhere start ts place → StuckAt Is ts place
  stuck-fault ts place l = record {
    front = l.front;
    token = l.token;
    rest = l.rest;
    at = l.at;
    begins = begins (bare l.front) l.spot l.led;
    stuck = nothing-begins Is start l.spot (bare l.front) l.token all l.led l.stuck;
  }

  unfinished : (ts : List Placed) → Leads start ts false → Unfinished Is ts
  unfinished ts l = record {
    begins = begins (bare ts) l.spot l.led;
    open_end = λ x is. (let e : false ≡ true = sym l.ends ∙ ap fine (sym l.led) ∙ all (bare ts) x is in absurd (cc));
  }

  token-faulty : (text : List ℕ) (fault : ScriptFault) → length text ≤ 4096 → Lexical fault → FaultAfter Is text fault → Faulty Is high text fault
  token-faulty text TooLong short h b = absurd h
  token-faulty text (TooNested place) short h b = absurd h
  token-faulty text (Syntax place) short h b = (short, inl b)
  token-faulty text (RealNumber place) short h b = (short, b)
  token-faulty text (NumberTooWide place) short h b = (short, b)

  following-faulty : (text : List ℕ) (end : Bool) (fault f : ScriptFault) → length text ≤ 4096 → Leads start (tokens_of text) end → token_fault text ≡ Some fault →
      ◌≡◌ {A = Option ScriptFault} (Some fault) (Some f) → Faulty Is high text f
  following-faulty text end fault f short l is h =
      let lexical : LexicalEnd (Some fault) = subst LexicalEnd is (read-lexical 0 0 text) in
      subst (Faulty Is high text) (some-fault h) (token-faulty text fault short lexical (record { begins = begins (bare (tokens_of text)) l.spot l.led; found = is }))

  by-fault : (text : List ℕ) (v : Verdict) (o : Option ScriptFault) (f : ScriptFault) → length text ≤ 4096 → Checked start (tokens_of text) v → token_fault text ≡ o → refused v o (length text) ≡ Some f → Faulty Is high text f
  by-fault text (verdict.Stuck place) o f short l is h = subst (Faulty Is high text) (some-fault h) (short, inr (inl (stuck-fault (tokens_of text) place l)))
  by-fault text verdict.Whole None f short l is h = absurd (cc)
  by-fault text verdict.Whole (Some fault) f short l is h = following-faulty text true fault f short l is h
  by-fault text verdict.Unfinished None f short l is h = subst (Faulty Is high text) (some-fault h) (short, inr (inr (is, unfinished (tokens_of text) l, refl)))
  by-fault text verdict.Unfinished (Some fault) f short l is h = following-faulty text false fault f short l is h

  -- what is refused has this fault
  pub refused-faulty : (text : List ℕ) (v : Verdict) (f : ScriptFault) → length text ≤ 4096 → Checked start (tokens_of text) v → refused v (token_fault text) (length text) ≡ Some f → Faulty Is high text f
  refused-faulty text v f short l h = by-fault text v (token_fault text) f short l refl h

-- what is not refused is whole
pub accepted : (start : Spot) (ts : List Placed) (v : Verdict) (o : Option ScriptFault) (end : ℕ) → Checked start ts v → refused v o end ≡ None → Leads start ts true × (o ≡ None)
accepted start ts (verdict.Stuck place) o end l h = absurd (cc)
accepted start ts verdict.Whole None end l h = (l, refl)
accepted start ts verdict.Whole (Some fault) end l h = absurd (cc)
accepted start ts verdict.Unfinished None end l h = absurd (cc)
accepted start ts verdict.Unfinished (Some fault) end l h = absurd (cc)
