-- Where the bytes of a name stand.
use Rattle.std.specs.Prelude.{ℕ, List, Option, Some, None, take}

-- the long text, or so many bytes of a short room where there is none
abbrev pub text_of : ℕ → List ℕ → Option (List ℕ) → List ℕ
text_of len short (Some long) = long
text_of len short None = take len short
