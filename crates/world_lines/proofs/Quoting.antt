-- A quoted text, byte by byte.
use Rattle.std.proofs.Common.{◌≡◌, ℕ, List, [], ◌∷◌, ◌++◌, Option, Some, None, refl, sym, ap, ◌∙◌}
use Rattle.std.proofs.lemmas.List.{append_assoc}
use Rattle.spec_world_file.specs.WorldFile.{text_to_quote, with_byte}
use Rattle.world_lines.specs.Quotes.{prefixed}

-- no bytes before a text change nothing
pub prefixed-nil : (o : Option (List ℕ × List ℕ)) → prefixed [] o ≡ o
prefixed-nil None = refl
prefixed-nil (Some found) = refl

prefixed-byte : (front : List ℕ) (b : ℕ) (o : Option (List ℕ × List ℕ)) → prefixed front (with_byte b o) ≡ prefixed (front ++ b ∷ []) o
prefixed-byte front b None = refl
prefixed-byte front b (Some found) = ap (λ (bytes : List ℕ). Some (bytes, found.1)) (sym (append_assoc front (b ∷ []) found.0))

-- a byte goes from the text to those before it
pub next_byte : (front rest more : List ℕ) (b : ℕ) (all : Option (List ℕ × List ℕ)) → text_to_quote rest ≡ with_byte b (text_to_quote more) → prefixed front (text_to_quote rest) ≡ all → prefixed (front ++ b ∷ []) (text_to_quote more) ≡ all
next_byte front rest more b all is so_far = sym (prefixed-byte front b (text_to_quote more)) ∙ ap (prefixed front) (sym is) ∙ so_far
