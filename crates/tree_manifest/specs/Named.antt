-- The table of the names of attributes.
use Rattle.std.specs.Prelude.{◌≡◌, ℕ, List, is_some}
use Rattle.std.specs.Borrow.{Bor}
use Rattle.std.specs.List.{list_any}
use Rattle.std.specs.Str.{bytes_eq}
use Rattle.spec_tree_file.specs.Attributes.{Attributes, value_of}

-- a name is among these keys exactly where an attribute has it
abbrev pub HaveNames : List (Bor (List ℕ)) → Attributes → Type 0
HaveNames keys attributes = (name : List ℕ) → list_any (λ key. bytes_eq name key.now) keys ≡ is_some (value_of name attributes)
