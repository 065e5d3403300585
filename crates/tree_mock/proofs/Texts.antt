-- The value of a JSON text is read of bytes that are UTF-8 alone.
use Rattle.std.proofs.Common.{◌≡◌, ℕ, List, Bool, true, false, None, refl, ap}
use Rattle.std.specs.Prelude.{IsUtf8, if◌then◌else◌}
use Rattle.std.specs.Str.{is_utf8}
use Rattle.std.proofs.lemmas.Str.{IsUtf8-from_is_utf8, is_utf8-from_IsUtf8}
use Rattle.serde_json.specs.Read.{read}
use Rattle.spec_tree_file.specs.RuleFiles.{json_of}

pub json_of-utf8 : (bytes : List ℕ) → IsUtf8 bytes → json_of bytes ≡ read bytes
json_of-utf8 bytes utf8 = ap (λ (b : Bool). if b then read bytes else None) (is_utf8-from_IsUtf8 bytes utf8)

none_by : (bytes : List ℕ) (b : Bool) → is_utf8 bytes ≡ b → (IsUtf8 bytes → read bytes ≡ None) → (if b then read bytes else None) ≡ None
none_by bytes true e none = none (IsUtf8-from_is_utf8 bytes e)
none_by bytes false e none = refl

pub json_of-none : (bytes : List ℕ) → (IsUtf8 bytes → read bytes ≡ None) → json_of bytes ≡ None
json_of-none bytes none = none_by bytes (is_utf8 bytes) refl none
