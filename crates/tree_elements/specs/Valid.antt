-- Elements that the reader makes.
use Rattle.std.specs.Prelude.{ℕ, ◌≤◌, List, length}
use Rattle.spec_tree_file.specs.declared.element.Element.{Element}
use Rattle.spec_tree_file.specs.Elements.{Spells}

-- the element is what some tree file spells that is not too long
abbrev pub IsValid : Element → Type 0
IsValid e = (bytes : List ℕ) × (length bytes ≤ 1048576) × Spells bytes e
