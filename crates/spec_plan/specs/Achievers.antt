-- What planning needs of the rows of a world, by their numbers.
use Rattle.std.specs.Prelude.{ℕ, Option, Some, None, Bool, false, List, [], slice_get}
use Rattle.spec_plan.specs.declared.part.Part.{Part}
use Rattle.spec_plan.specs.declared.part.Part.TheVariants.{Sequence, Condition, Action}
use Rattle.std.specs.Option.{option_and_then, option_map_or}
use Rattle.spec_world.specs.declared.world.Row.{Row}
use Rattle.spec_world.specs.declared.world.Set.{Set}
use Rattle.spec_plan.specs.declared.domain.Test.{Test}
use Rattle.spec_plan.specs.Effects.{achieves, threatens}
use Rattle.spec_plan.specs.Templates.{test_in}

-- the row of a node, if it has one
abbrev pub row_in : Part → Option ℕ
row_in (Sequence row) = Some row
row_in (Condition row) = Some row
row_in (Action row) = Some row
row_in _ = None

-- the test of the condition of this row
abbrev pub test_of : List Row → ℕ → Option Test
test_of rows row = option_and_then (λ (found : Row). test_in found.sort) (slice_get rows row)

-- the rows of the conditions that an action needs
abbrev pub needs_of : List Row → ℕ → List ℕ
needs_of rows row = option_map_or (λ (found : Row). found.needs) (slice_get rows row) []

-- the effects of an action
abbrev pub effects_of : List Row → ℕ → List Set
effects_of rows row = option_map_or (λ (found : Row). found.sets) (slice_get rows row) []

-- whether the action of the second row may turn the condition of the first one true
abbrev pub row_achieves : List Row → ℕ → ℕ → Bool
row_achieves rows condition action = option_map_or (λ (test : Test). achieves test (effects_of rows action)) (test_of rows condition) false

-- whether it may turn the condition false
abbrev pub row_threatens : List Row → ℕ → ℕ → Bool
row_threatens rows action condition = option_map_or (λ (test : Test). threatens (effects_of rows action) test) (test_of rows condition) false
