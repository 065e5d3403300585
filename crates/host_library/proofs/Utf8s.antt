-- Whether bytes are UTF-8, as a test.
use Rattle.std.proofs.Common.{◌≡◌, ℕ, Bool, true, false, ◌&&◌, List, length, refl, sym}
use Rattle.std.specs.Prelude.{IsUtf8, nat_le}
use Rattle.std.specs.Str.{is_utf8}
use Rattle.std.proofs.lemmas.Str.{IsUtf8-from_is_utf8, is_utf8-from_IsUtf8}
use Rattle.spec_tree.specs.Limits.{most_text_bytes}
use Rattle.host_library.specs.Events.{text_fits}

pub is_so : (bytes : List ℕ) → IsUtf8 bytes → true ≡ is_utf8 bytes
is_so bytes so = sym (is_utf8-from_IsUtf8 bytes so)

tested : (bytes : List ℕ) (b : Bool) → is_utf8 bytes ≡ b → (IsUtf8 bytes → ⊥) → false ≡ b
tested bytes true so wrong = absurd (wrong (IsUtf8-from_is_utf8 bytes so))
tested bytes false so wrong = refl

pub is_not : (bytes : List ℕ) → (IsUtf8 bytes → ⊥) → false ≡ is_utf8 bytes
is_not bytes wrong = tested bytes (is_utf8 bytes) refl wrong

both : (first second : Bool) → first && second ≡ true → second ≡ true
both true second so = so
both false second so = absurd (cc)

-- the text of an output
pub fitting : (text : List ℕ) → text_fits text ≡ true → IsUtf8 text
fitting text fits = IsUtf8-from_is_utf8 text (both (nat_le (length text) most_text_bytes) (is_utf8 text) fits)
