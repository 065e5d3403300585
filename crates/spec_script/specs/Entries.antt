-- Values by slot: what cells and looks mean, and what a slot gives.
use Rattle.std.specs.Prelude.{ℕ, List, Option, Some, None, Result, Ok, Err, slice_index_or}
use Rattle.spec_script.specs.declared.value.Value.{Value}
use Rattle.spec_script.specs.declared.value.Value.TheVariants.{Int, Text}
use Rattle.spec_script.specs.declared.cells.Seen.{Seen}
use Rattle.spec_script.specs.declared.fault.ExecFault.{ExecFault}
use Rattle.spec_script.specs.declared.fault.ExecFault.TheVariants.{NoEntry, Mixed}
use Rattle.spec_script.specs.declared.cells.Seen.TheVariants as seen

-- the value of an entry that is there
abbrev pub present : ℕ → Option Value → Result Value ExecFault
present slot (Some value) = Ok value
present slot None = Err (NoEntry slot)

-- the value of a slot's entry
abbrev pub entry_of : List (Option Value) → ℕ → Result Value ExecFault
entry_of entries slot = present slot (slice_index_or entries slot None)

-- the number that is seen
abbrev pub seen_number : ℕ → Seen → Result Value ExecFault
seen_number slot (seen.Int n) = Ok (Int n)
seen_number slot seen.Text = Err Mixed
seen_number slot seen.Absent = Err (NoEntry slot)

-- what looking at a slot gives
abbrev pub look_of : List Seen → ℕ → Result Value ExecFault
look_of sights slot = seen_number slot (slice_index_or sights slot seen.Absent)
