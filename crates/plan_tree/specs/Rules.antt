-- The rule of a row, and the rows that achieve a test.
use Rattle.std.specs.Prelude.{false, List}
use Rattle.std.specs.List.{filter}
use Rattle.std.specs.Option.{option_map_or}
use Rattle.spec_world.specs.declared.world.Row.{Row}
use Rattle.spec_plan.specs.declared.domain.Test.{Test}
use Rattle.spec_plan.specs.declared.domain.Template.{Template}
use Rattle.spec_plan.specs.Effects.{achieves}
use Rattle.spec_plan.specs.Templates.{templates_of, test_in}
use Rattle.plan_tree.specs.declared.rule.Rule.{Rule}
use Rattle.spec_plan.specs.Achievers.{effects_of}

-- what is kept of a row
abbrev pub rule_of : Row → Rule
rule_of row = record { test = test_in row.sort; needs = row.needs; effects = row.sets }

-- the templates that achieve the condition of a row, in order
abbrev pub achievers_of : List Row → Row → List Template
achievers_of rows row = filter (λ (t : Template). option_map_or (λ (test : Test). achieves test (effects_of rows t.row)) (test_in row.sort) false) (templates_of rows)
