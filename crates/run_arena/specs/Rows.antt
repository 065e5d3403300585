-- The rows of a world by their IDs and made ready, and the leaves of a tree by their drivers.
use Rattle.std.specs.Prelude.{◌≡◌, ℕ, ◌+◌, true, List, [], ◌∷◌, Option, Some, None, length, slice_get, slice_index_or, slice_set, bytes_eq}
use Rattle.std.specs.List.{IsDistinct}
use Rattle.spec_world.specs.declared.world.Fact.{Fact}
use Rattle.spec_world.specs.declared.world.Out.{Out}
use Rattle.spec_world.specs.declared.world.Row.{Row}
use Rattle.spec_world.specs.declared.world.RowSort.{RowSort}
use Rattle.spec_world.specs.declared.world.RowSort.TheVariants.{Told}
use Rattle.spec_world.specs.Worlds.{is_told, outs_told, ports_written}
use Rattle.spec_run.specs.Drivers.{kind_of_row}
use Rattle.base_tables.specs.DriverCalls.{kind_of_way}
use Rattle.spec_run.specs.Leaf.{rule_of}
use Rattle.spec_run.specs.Leaves.{row_of}
use Rattle.run_driver.specs.declared.row.ReadyRow.{ReadyRow}
use Rattle.run_driver.specs.Places.{CanBeReady}
use Rattle.run_driver.specs.Ready.{ready_told}
use Rattle.run_driver.specs.Rules.{rule}

-- the row of the number that was found
abbrev pub row_by : List Row → Option ℕ → Option Row
row_by rows (Some number) = slice_get rows number
row_by rows None = None

-- each ID has the number of its row
abbrev pub Finds : List Row → (List ℕ → Option ℕ) → Type 0
Finds rows number = (id : List ℕ) → row_by rows (number id) ≡ row_of rows id

-- the names of a row's outputs: those for which values may be told, or those that it works out
abbrev pub names_by : RowSort → List Out → List (List ℕ)
names_by (Told names) outs = names
names_by _ outs = ports_written outs

abbrev pub output_names : Row → List (List ℕ)
output_names row = names_by row.sort row.outs

-- a row whose leaves are told what they answer works no output out, and no two values are told for the same name
pub record TellsEachOnce (row : Row) : Type 0 where
  pub bare : is_told row.sort ≡ true → row.outs ≡ []
  pub distinct : IsDistinct bytes_eq (outs_told row.sort)

-- this is what is ready of a row over these facts
pub record IsReadyRow (facts : List Fact) (row : Row) (ready : ReadyRow) : Type 0 where
  pub can : CanBeReady facts row
  pub once : TellsEachOnce row
  pub told : ready_told ready.sort ≡ outs_told row.sort
  pub kind : kind_of_way (rule ready).way ≡ kind_of_row row
  pub many : ready.facts ≡ length facts
  pub rule : rule ready ≡ rule_of facts row

-- these are what is ready of rows, one for each
abbrev pub AreReady : List Fact → List Row → List ReadyRow → Type 0
AreReady facts [] [] = Unit {0}
AreReady facts (row ∷ rows) (ready ∷ all) = IsReadyRow facts row ready × AreReady facts rows all
AreReady facts _ _ = ⊥

-- one leaf more is counted at the driver at a place
abbrev pub counted_at : Option ℕ → List ℕ → List ℕ
counted_at (Some place) counts = slice_set counts place (slice_index_or counts place 0 + 1)
counted_at None counts = counts
