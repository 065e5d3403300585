-- The tests and the templates of a world.
use Rattle.std.specs.Prelude.{ℕ, suc, ◌&&◌, Bool, true, false, not, if◌then◌else◌, List, [], ◌∷◌, Option, Some, None}
use Rattle.spec_world.specs.declared.world.Row.{Row}
use Rattle.spec_world.specs.declared.world.RowSort.{RowSort}
use Rattle.spec_world.specs.declared.world.RowSort.TheVariants.{Is, When, Timed, Replay, Gate}
use Rattle.spec_world.specs.Worlds.{is_condition}
use Rattle.spec_plan.specs.declared.domain.Test.{Test}
use Rattle.spec_plan.specs.declared.domain.Template.{Template}

-- the test of a condition that compares a fact
abbrev pub test_in : RowSort → Option Test
test_in (Is fact op value) = Some (record { fact = fact; op = op; value = value })
test_in _ = None

abbrev pub is_empty : {X : Type 0} → List X → Bool
is_empty [] = true
is_empty (x ∷ xs) = false

-- a template is an action without input ports that has an effect
abbrev pub is_template : Row → Bool
is_template row = not (is_condition row.sort) && is_empty row.ports && not (is_empty row.sets)

-- the templates among some rows, the first of which has this number
abbrev pub templates_from : ℕ → List Row → List Template
templates_from number [] = []
templates_from number (row ∷ rows) =
    if is_template row then record { row = number } ∷ templates_from (suc number) rows else templates_from (suc number) rows

-- the templates of a world in the order of its rows
abbrev pub templates_of : List Row → List Template
templates_of rows = templates_from 0 rows
