-- What the reader keeps: facts and rows under their names, and a row that is not finished.
use Rattle.std.specs.Prelude.{◌≡◌, ◌≤◌, ℕ, length, Vec}
use Rattle.std.specs.Global.{Global}
use Rattle.indexmap.specs.IndexMap.{IndexMap, values}
use Rattle.spec_world.specs.Worlds.{names_of_facts, ids_of_rows}
use Rattle.spec_world.specs.declared.world.Fact.{Fact}
use Rattle.spec_world.specs.declared.world.Row.{Row}
use Rattle.world_draft.specs.Tables.{names_in}

-- facts stand under their names, and there are not too many
pub record FactsKept {S : Type 0} (facts : IndexMap (Vec ℕ Global) Fact S) : Type 0 where
  pub named : names_in facts ≡ names_of_facts (values facts)
  pub few : length (values facts) ≤ 1024

-- rows stand under their IDs, and there are not too many
pub record RowsKept {S : Type 0} (rows : IndexMap (Vec ℕ Global) Row S) : Type 0 where
  pub named : names_in rows ≡ ids_of_rows (values rows)
  pub few : length (values rows) ≤ 1024
