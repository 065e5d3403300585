-- The world of a tree that is served without one, as the code answers it.
use Rattle.std.specs.Prelude.{◌≡◌, ◌≤◌, ◌<◌, ℕ, nat_le, List, length, true, false, ◌&&◌, Vec, Option, Result, Ok, Err}
use Rattle.std.specs.Global.{Global}
use Rattle.std.specs.List.{list_all}
use Rattle.cli_refusals.specs.declared.refusal.Refusal.{Refusal}
use Rattle.cli_refusals.specs.declared.refusal.Refusal.TheVariants as refusal
use Rattle.spec_program.specs.declared.tree_fault.TreeFault.TheVariants as fault
use Rattle.spec_program.specs.TreeFiles.{TreeReads}
use Rattle.spec_serve.specs.Rows.{is_small_row, told_world, too_many}
use Rattle.spec_tree.specs.declared.term.Term.{Term}
use Rattle.spec_tree.specs.declared.term.Tree.{Tree}
use Rattle.spec_tree_file.specs.declared.element.Element.{Element}
use Rattle.spec_tree_file.specs.Elements.{Spells}
use Rattle.spec_tree_file.specs.ElementFaults.{ElementFaultOf}
use Rattle.spec_tree.specs.Limits.{most_made_ports, most_made_rows}
use Rattle.spec_world.specs.declared.world.Row.{Row}
use Rattle.spec_world.specs.declared.world.RowSort.{RowSort}
use Rattle.spec_world.specs.declared.world.World.{World}
use Rattle.spec_world.specs.Worlds.{outs_told}
use Rattle.spec_world_file.specs.declared.world_fault.WorldFault.{WorldFault}

-- the world, or what is beyond its limits, is that of the elements which the bytes of a tree file spell
abbrev pub MadeOf : List ℕ → Term → Result World WorldFault → Type 0
MadeOf bytes term made = (e : Element) × Spells bytes e × (made ≡ told_world e term)

-- a file of these bytes reads as this tree, with some main tree that is asked for, or none
abbrev pub IsTreeOf : List ℕ → Tree → Type 0
IsTreeOf bytes tree = (main : Option (List ℕ)) × TreeReads main bytes (Ok tree)

-- this is answered for the world of a tree of a file of these bytes; want of memory may come anywhere
abbrev pub ToldWorld : Result World Refusal → List ℕ → Term → Type 0
ToldWorld (Ok world) bytes term = MadeOf bytes term (Ok world)
ToldWorld (Err (refusal.World f)) bytes term = MadeOf bytes term (Err f)
ToldWorld (Err (refusal.Tree (fault.Elements f))) bytes term = ElementFaultOf bytes f
ToldWorld (Err refusal.NoMemory) bytes term = Unit {0}
ToldWorld (Err _) bytes term = ⊥

-- this is answered for how a row answers: it, or that it is beyond the limits
abbrev pub SortGives : Result RowSort Refusal → RowSort → Type 0
SortGives (Ok sort) wanted = (sort ≡ wanted) × (length (outs_told wanted) ≤ most_made_ports)
SortGives (Err fault) wanted = (fault ≡ refusal.World too_many) × (most_made_ports < length (outs_told wanted))

-- this is answered for a row: it, or that it is beyond the limits; want of memory may come anywhere
abbrev pub RowGives : Result Row Refusal → Row → Type 0
RowGives (Ok row) wanted = (row ≡ wanted) × (is_small_row wanted ≡ true)
RowGives (Err refusal.NoMemory) wanted = Unit {0}
RowGives (Err fault) wanted = (fault ≡ refusal.World too_many) × (is_small_row wanted ≡ false)

-- these are answered for rows: them, or that there are too many or one is beyond the limits
abbrev pub RowsGive : Result (Vec Row Global) Refusal → List Row → Type 0
RowsGive (Ok rows) wanted = (rows.items ≡ wanted) × (length wanted ≤ most_made_rows) × (list_all is_small_row wanted ≡ true)
RowsGive (Err refusal.NoMemory) wanted = Unit {0}
RowsGive (Err fault) wanted = (fault ≡ refusal.World too_many) × ((nat_le (length wanted) most_made_rows && list_all is_small_row wanted) ≡ false)

-- this is answered for a world
abbrev pub WorldGives : Result World Refusal → Result World WorldFault → Type 0
WorldGives (Ok world) wanted = wanted ≡ Ok world
WorldGives (Err (refusal.World fault)) wanted = wanted ≡ Err fault
WorldGives (Err refusal.NoMemory) wanted = Unit {0}
WorldGives (Err _) wanted = ⊥
