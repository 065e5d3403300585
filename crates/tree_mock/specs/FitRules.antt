-- Which rules can be run.
use Rattle.std.specs.Prelude.{◌≤◌}
use Rattle.std.specs.List.{AllByRecursion}
use Rattle.spec_tree.specs.Limits.{longest_duration}
use Rattle.spec_tree.specs.Trees.{ScriptFits}
use Rattle.spec_tree_file.specs.declared.mock_rules.Configuration.{Configuration}
use Rattle.spec_tree_file.specs.declared.mock_rules.Rules.{Rules}

-- the delay of a configuration is a duration, and its script is one that its own text reads as
pub record ConfigurationFits (configuration : Configuration) : Type 0 where
  pub async_delay : configuration.async_delay ≤ longest_duration
  pub post_script : ScriptFits configuration.post_script

-- rules that can be run, as a file says them
abbrev pub RulesFit : Rules → Type 0
RulesFit rules = AllByRecursion ConfigurationFits rules.configurations
