-- The tokens of a script's text: the longest is taken, and white space separates them.
use Rattle.std.specs.Prelude.{ℕ, ℤ, pos, zero, suc, ◌+◌, ◌-◌, ◌*◌, ◌==◌, Bool, false, ◌||◌, ◌&&◌, nat_le, nat_lt, if◌then◌else◌, List, [], ◌∷◌, length, take, drop, codes, Option, Some, None, Result, Ok, Err}
use Rattle.std.specs.Char.{is_ascii_digit, is_ascii_hexdigit}
use Rattle.std.specs.List.{prefix_len, position_or_len}
use Rattle.std.specs.Str.{bytes_eq}
use Rattle.spec_script.specs.declared.fault.ScriptFault.{ScriptFault}
use Rattle.spec_script.specs.declared.fault.ScriptFault.TheVariants.{Syntax, RealNumber, NumberTooWide}
use Rattle.spec_script.specs.declared.syntax.BinOp.TheVariants.{Add, Sub, Mul, Div, And, Or, BitAnd, BitOr, BitXor, Compare}
use Rattle.spec_script.specs.declared.syntax.Cmp.TheVariants.{Equal, Differ, Less, AtMost, More, AtLeast}
use Rattle.spec_script.specs.declared.token.Token.{Token}
use Rattle.spec_script.specs.declared.token.Token.TheVariants.{Number, Text, Word, Operator, Bang, Tilde, Question, Colon, Open, Close, Semicolon, Creates, Assigns, Changes}
use Rattle.spec_script.specs.declared.token.Placed.{Placed}
use Rattle.spec_script.specs.Identifiers.{is_white, is_identifier_start, is_identifier_continue}

-- the value of a digit, hexadecimal ones in either case
abbrev pub digit_value : ℕ → ℕ
digit_value c =
    if nat_le 48 c && nat_le c 57 then c - 48
    else (if nat_le 65 c && nat_le c 70 then c - 65 + 10
    else (if nat_le 97 c && nat_le c 102 then c - 97 + 10 else 0))

-- the number that digits spell to this base, after this number
abbrev pub read_on : ℕ → ℕ → List ℕ → ℕ
read_on base n [] = n
read_on base n (c ∷ cs) = read_on base (n * base + digit_value c) cs

-- the number that digits spell, if it is at most 9223372036854775807
abbrev pub number_in : ℕ → List ℕ → Option ℤ
number_in base digits = if nat_lt (read_on base 0 digits) 9223372036854775808 then Some (pos (read_on base 0 digits)) else None

-- `true` and `false` are numbers, and every other word is a name
abbrev pub word_token : List ℕ → Token
word_token word = if bytes_eq word (codes "true") then Number (pos 1) else (if bytes_eq word (codes "false") then Number (pos 0) else Word word)

-- the word at the front, and its length
abbrev pub word_at : List ℕ → Token × ℕ
word_at bytes = (word_token (take (prefix_len is_identifier_continue bytes) bytes), prefix_len is_identifier_continue bytes)

-- the fault of decimal digits that these bytes follow
abbrev pub decimal_end : ℕ → List ℕ → Option ScriptFault
decimal_end place [] = None
decimal_end place (c ∷ cs) = if c == 46 || c == 101 || c == 69 then Some (RealNumber place) else (if is_identifier_start c then Some (Syntax place) else None)

-- the fault of hexadecimal digits that these bytes follow
abbrev pub hex_end : ℕ → List ℕ → Option ScriptFault
hex_end place [] = None
hex_end place (c ∷ cs) = if is_identifier_start c then Some (Syntax place) else None

-- the number, if its value is no fault
abbrev pub within : ℕ → Option ℤ → ℕ → Result (Token × ℕ) ScriptFault
within place None len = Err (NumberTooWide place)
within place (Some n) len = Ok (Number n, len)

-- the number, if its end and its value are no fault
abbrev pub ended : ℕ → Option ScriptFault → Option ℤ → ℕ → Result (Token × ℕ) ScriptFault
ended place (Some fault) value len = Err fault
ended place None value len = within place value len

-- the decimal number at the front
abbrev pub decimal_at : ℕ → List ℕ → Result (Token × ℕ) ScriptFault
decimal_at place bytes =
    let n = prefix_len is_ascii_digit bytes in
    ended place (decimal_end place (drop n bytes)) (number_in 10 (take n bytes)) n

-- the hexadecimal number at the front, of which these are the bytes after `0x`
abbrev pub hex_at : ℕ → List ℕ → Result (Token × ℕ) ScriptFault
hex_at place bytes =
    let n = prefix_len is_ascii_hexdigit bytes in
    if n == 0 then Err (Syntax place) else ended place (hex_end place (drop n bytes)) (number_in 16 (take n bytes)) (n + 2)

-- whether `0x` or `0X` stands at the front
abbrev pub starts_hex : List ℕ → Bool
starts_hex [] = false
starts_hex (c ∷ []) = false
starts_hex (c ∷ d ∷ cs) = c == 48 && (d == 120 || d == 88)

-- the text in single quotes of which these are the bytes after the first quote
abbrev pub text_at : ℕ → List ℕ → Result (Token × ℕ) ScriptFault
text_at place bytes =
    let n = position_or_len (λ c. c == 39) bytes in
    if n == length bytes then Err (Syntax place) else Ok (Text (take n bytes), n + 2)

-- the signs of two bytes
abbrev pub two_sign : ℕ → ℕ → Option Token
two_sign c d =
    if c == 58 && d == 61 then Some Creates
    else (if c == 43 && d == 61 then Some (Changes Add)
    else (if c == 45 && d == 61 then Some (Changes Sub)
    else (if c == 42 && d == 61 then Some (Changes Mul)
    else (if c == 47 && d == 61 then Some (Changes Div)
    else (if c == 38 && d == 38 then Some (Operator And)
    else (if c == 124 && d == 124 then Some (Operator Or)
    else (if c == 61 && d == 61 then Some (Operator (Compare Equal))
    else (if c == 33 && d == 61 then Some (Operator (Compare Differ))
    else (if c == 60 && d == 61 then Some (Operator (Compare AtMost))
    else (if c == 62 && d == 61 then Some (Operator (Compare AtLeast))
    else None))))))))))

-- the signs of one byte
abbrev pub one_sign : ℕ → Option Token
one_sign c =
    if c == 61 then Some Assigns
    else (if c == 43 then Some (Operator Add)
    else (if c == 45 then Some (Operator Sub)
    else (if c == 42 then Some (Operator Mul)
    else (if c == 47 then Some (Operator Div)
    else (if c == 38 then Some (Operator BitAnd)
    else (if c == 124 then Some (Operator BitOr)
    else (if c == 94 then Some (Operator BitXor)
    else (if c == 60 then Some (Operator (Compare Less))
    else (if c == 62 then Some (Operator (Compare More))
    else (if c == 33 then Some Bang
    else (if c == 126 then Some Tilde
    else (if c == 63 then Some Question
    else (if c == 58 then Some Colon
    else (if c == 40 then Some Open
    else (if c == 41 then Some Close
    else (if c == 59 then Some Semicolon
    else None))))))))))))))))

-- a sign of one byte, or a fault
abbrev pub single : ℕ → Option Token → Result (Token × ℕ) ScriptFault
single place None = Err (Syntax place)
single place (Some t) = Ok (t, 1)

-- a sign of two bytes, else one of the first byte alone
abbrev pub longest : ℕ → ℕ → Option Token → Result (Token × ℕ) ScriptFault
longest place c None = single place (one_sign c)
longest place c (Some t) = Ok (t, 2)

-- the sign at the front: the longer one is taken
abbrev pub sign_at : ℕ → List ℕ → Result (Token × ℕ) ScriptFault
sign_at place [] = Err (Syntax place)
sign_at place (c ∷ []) = single place (one_sign c)
sign_at place (c ∷ d ∷ cs) = longest place c (two_sign c d)

-- the number or the sign at the front
abbrev pub unquoted_at : ℕ → List ℕ → Result (Token × ℕ) ScriptFault
unquoted_at place [] = Err (Syntax place)
unquoted_at place (c ∷ cs) =
    if is_ascii_digit c then (if starts_hex (c ∷ cs) then hex_at place (drop 2 (c ∷ cs)) else decimal_at place (c ∷ cs)) else sign_at place (c ∷ cs)

-- the token at the front and its length, or its fault, with its place
abbrev pub token_at : ℕ → List ℕ → Result (Token × ℕ) ScriptFault
token_at place [] = Err (Syntax place)
token_at place (c ∷ cs) =
    if is_identifier_start c then Ok (word_at (c ∷ cs))
    else (if c == 39 then text_at place cs else unquoted_at place (c ∷ cs))

-- tokens with their places, and the fault that ends them, if any
pub record Tokens : Type 0 where
  pub tokens : List Placed
  pub fault : Option ScriptFault

-- a token before those that are read after it, or the fault with which reading ends
abbrev pub read_then : ℕ → Result (Token × ℕ) ScriptFault → (ℕ → Tokens) → Tokens
read_then place (Err fault) following = record { tokens = []; fault = Some fault }
read_then place (Ok found) following = record { tokens = (record { token = found.0; place = place }) ∷ (following found.1).tokens; fault = (following found.1).fault }

-- the tokens of some bytes, of which the first few belong to a token before them
abbrev pub read_tokens : ℕ → ℕ → List ℕ → Tokens
read_tokens place within [] = record { tokens = []; fault = None }
read_tokens place (suc within) (c ∷ cs) = read_tokens (place + 1) within cs
read_tokens place zero (c ∷ cs) =
    if is_white c then read_tokens (place + 1) 0 cs
    else read_then place (token_at place (c ∷ cs)) (λ len. read_tokens (place + 1) (len - 1) cs)
