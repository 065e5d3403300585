-- Worlds that can be run: as valid worlds are, but the IDs of their rows and the names of inputs and outputs may be any texts,
-- and there may be as many as rows have that are made for a tree.
use Rattle.std.specs.Prelude.{◌≡◌, ℕ, ◌≤◌, false, if◌then◌else◌, IsTrue, List, length}
use Rattle.std.specs.List.{All, IsDistinct}
use Rattle.std.specs.List.Sorted.{IsNonDecreasingBy}
use Rattle.std.specs.Str.{bytes_eq}
use Rattle.spec_tree.specs.Limits.{most_effects, most_events, most_facts, most_goals, most_made_ports, most_made_rows, most_needs, most_outputs, most_ports, most_runners}
use Rattle.spec_tree.specs.Numbers.{is_int}
use Rattle.spec_world.specs.declared.world.Fact.{Fact}
use Rattle.spec_world.specs.declared.world.Row.{Row}
use Rattle.spec_world.specs.declared.world.RowSort.{RowSort}
use Rattle.spec_world.specs.declared.world.RowSort.TheVariants.{Told}
use Rattle.spec_world.specs.declared.world.World.{World}
use Rattle.spec_world.specs.Worlds.{AreNames, AreNumbers, IsBare, IsComparisonIn, IsExprOver, IsValidEvent, IsValidSet, IsValidSort, facts_set, ids_of_rows, is_modelled, is_told, names_of_facts, ports_written}

-- at most so many texts, no two of them the same
pub record AreTexts (most : ℕ) (texts : List (List ℕ)) : Type 0 where
  pub few : length texts ≤ most
  pub distinct : IsDistinct bytes_eq texts

-- how a row answers
abbrev pub IsRunnableSort : List Fact → List (List ℕ) → RowSort → Type 0
IsRunnableSort facts ports (Told outs) = AreTexts most_made_ports outs
IsRunnableSort facts ports sort = IsValidSort facts ports sort

-- the most input ports of a row that answers so: the rows that are made for a tree are told what they answer
abbrev pub most_ports_of : RowSort → ℕ
most_ports_of sort = if is_told sort then most_made_ports else most_ports

-- a row among the facts and the rows of a world
pub record IsRunnableRow (facts : List Fact) (rows : List Row) (row : Row) : Type 0 where
  pub ports : AreTexts (most_ports_of row.sort) row.ports
  pub sort : IsRunnableSort facts row.ports row.sort
  pub needs : AreNumbers most_needs row.needs
  pub needed : All (IsComparisonIn rows) row.needs
  pub sets : AreNumbers most_effects (facts_set row.sets)
  pub effects : All (IsValidSet facts) row.sets
  pub outs : AreTexts most_outputs (ports_written row.outs)
  pub outputs : All (λ out. IsExprOver row.ports (names_of_facts facts) out.expr) row.outs
  pub bare : is_modelled row.sort ≡ false → IsBare row

-- a world whose rows can be run; all else is as in a valid world
pub record IsRunnableWorld (w : World) : Type 0 where
  pub facts : AreNames most_facts (names_of_facts w.facts)
  pub openings : All (λ fact. IsTrue (is_int fact.opening)) w.facts
  pub ids : AreTexts most_made_rows (ids_of_rows w.rows)
  pub rows : All (IsRunnableRow w.facts w.rows) w.rows
  pub goals : AreNumbers most_goals w.goals
  pub wanted : All (IsComparisonIn w.rows) w.goals
  pub some_runner : 1 ≤ w.runners
  pub few_runners : w.runners ≤ most_runners
  pub few_events : length w.events ≤ most_events
  pub events : All (IsValidEvent w.facts w.runners) w.events
  pub in_order : IsNonDecreasingBy (λ event. event.at) w.events
