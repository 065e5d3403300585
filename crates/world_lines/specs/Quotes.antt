-- The bytes of a quoted text, one after the other.
use Rattle.std.specs.Prelude.{◌≡◌, ℕ, ◌+◌, ◌*◌, ◌<◌, nat_eq, if◌then◌else◌, List, [], ◌∷◌, ◌++◌, length, Option, Some, None, option_map}
use Rattle.spec_world_file.specs.WorldFile.{after_backslash, text_to_quote, with_byte}

-- the byte of two hexadecimal digits
abbrev pub byte_of : Option ℕ → Option ℕ → Option ℕ
byte_of (Some high) (Some low) = Some (16 * high + low)
byte_of _ _ = None

-- some bytes before a text and what follows the text
abbrev pub prefixed : List ℕ → Option (List ℕ × List ℕ) → Option (List ℕ × List ℕ)
prefixed front = option_map (λ found. (front ++ found.0, found.1))

-- what is left of a text in which no further byte stands: its last quote, or nothing that ends it
abbrev pub ended : List ℕ → Option (List ℕ × List ℕ)
ended [] = None
ended (c ∷ rest) = if nat_eq c 39 then Some ([], rest) else None

-- a byte stands after a backslash, or none
abbrev pub EscapeAtFront : List ℕ → Option (ℕ × List ℕ) → Type 0
EscapeAtFront text None = after_backslash text ≡ None
EscapeAtFront text (Some (b, rest)) = (after_backslash text ≡ with_byte b (text_to_quote rest)) × (length rest < length text)

-- a byte stands at the front of what is quoted, or none
abbrev pub ByteAtFront : List ℕ → Option (ℕ × List ℕ) → Type 0
ByteAtFront text None = text_to_quote text ≡ ended text
ByteAtFront text (Some (b, rest)) = (text_to_quote text ≡ with_byte b (text_to_quote rest)) × (length rest < length text)
