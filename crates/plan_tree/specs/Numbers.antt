-- The numbers and the rows of nodes.
use Rattle.std.specs.Prelude.{◌≡◌, ℕ, ◌+◌, Some, Result, Ok, Err, slice_get}
use Rattle.std.specs.Option.{option_and_then}
use Rattle.spec_plan.specs.Forests.{Forest, part_at}
use Rattle.plan_tree.specs.Sizes.{keys_of, size}
use Rattle.spec_plan.specs.Achievers.{row_in}

-- the node of this key has this row
abbrev pub IsRowAt : Forest → ℕ → ℕ → Type 0
IsRowAt tree key row = option_and_then row_in (part_at key tree) ≡ Some row

-- the key of the node with this number, from 0 on, or what is left of the number after all nodes
abbrev pub Numbered : Forest → ℕ → Result ℕ ℕ → Type 0
Numbered f number (Ok key) = slice_get (keys_of f) number ≡ Some key
Numbered f number (Err left) = number ≡ left + size f
