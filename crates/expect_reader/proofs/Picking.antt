-- A quoted text that was read tells leaves where it is UTF-8 and stands apart.
use Rattle.std.proofs.Common.{◌≡◌, ℕ, Bool, true, false, ◌&&◌, List, Option, Some, None, refl, ap, ◌∙◌, if◌then◌else◌}
use Rattle.std.specs.Str.{IsUtf8, is_utf8}
use Rattle.std.proofs.lemmas.Str.{IsUtf8-from_is_utf8, is_utf8-from_IsUtf8}
use Rattle.spec_world_file.specs.WorldFile.{is_apart, without_gap}
use Rattle.spec_expect.specs.declared.place.Pick.{Pick}
use Rattle.spec_expect.specs.ExpectFile.{pick_quoted, quoted_pick}

abbrev made : List ℕ → List ℕ → Option (Pick × List ℕ)
made bytes rest = Some (quoted_pick bytes, without_gap rest)

pub picked : (bytes rest : List ℕ) → IsUtf8 bytes → is_apart rest ≡ true → pick_quoted (bytes, rest) ≡ Some (quoted_pick bytes, without_gap rest)
picked bytes rest utf8 apart =
    ap (λ (b : Bool). if b && is_apart rest then made bytes rest else None) (is_utf8-from_IsUtf8 bytes utf8)
    ∙ ap (λ (b : Bool). if b then made bytes rest else None) apart

and_off : (b : Bool) → (b && false) ≡ false
and_off true = refl
and_off false = refl

pub not_apart : (bytes rest : List ℕ) → is_apart rest ≡ false → pick_quoted (bytes, rest) ≡ None
not_apart bytes rest off = ap (λ (b : Bool). if b then made bytes rest else None) (ap (λ (b : Bool). is_utf8 bytes && b) off ∙ and_off (is_utf8 bytes))

pub not_text : (bytes rest : List ℕ) → (IsUtf8 bytes → ⊥) → pick_quoted (bytes, rest) ≡ None
not_text bytes rest faulty = by (is_utf8 bytes) refl where
  by : (b : Bool) → is_utf8 bytes ≡ b → pick_quoted (bytes, rest) ≡ None
  by true e = absurd (faulty (IsUtf8-from_is_utf8 bytes e))
  by false e = ap (λ (b : Bool). if b && is_apart rest then made bytes rest else None) e
