-- The attributes of an element by their names.
use Rattle.std.specs.Prelude.{ℕ, List, Option}
use Rattle.std.specs.Map.{lookup}
use Rattle.std.specs.Str.{bytes_eq}

-- the names and the values of the attributes of an element, in their order
abbrev pub Attributes : Type 0
Attributes = List (List ℕ × List ℕ)

-- the value of the attribute of this name
abbrev pub value_of : List ℕ → Attributes → Option (List ℕ)
value_of name attributes = lookup (bytes_eq name) attributes
