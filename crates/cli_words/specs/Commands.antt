-- What contracts see of the commands that the code reads.
use Rattle.std.specs.Prelude.{ℕ, ◌≤◌}
use Rattle.std.specs.Option.{option_copied}
use Rattle.spec_tree.specs.Limits.{most_leaves}
use Rattle.spec_program.specs.Words.{Command, Tick, Live, Load, Check, Dead, Exclusive, Plan, Mock, MockPrint, Ground, GroundPlan, Expect}
use Rattle.cli_words.specs.declared.words.Command.{Command as Read}
use Rattle.cli_words.specs.declared.words.Command.TheVariants as read

-- the command with its names
abbrev pub command_seen : Read → Command
command_seen (read.Tick tree world main) = Tick tree.now world.now (option_copied main)
command_seen (read.Live tree world rounds main) = Live tree.now world.now rounds (option_copied main)
command_seen (read.Load leaves) = Load leaves
command_seen (read.Check tree main) = Check tree.now (option_copied main)
command_seen (read.Dead tree main) = Dead tree.now (option_copied main)
command_seen (read.Exclusive tree ids main) = Exclusive tree.now ids.now (option_copied main)
command_seen (read.Plan world expand ticks period) = Plan world.now expand ticks period
command_seen (read.Mock tree world rules main) = Mock tree.now world.now rules.now (option_copied main)
command_seen (read.MockPrint tree rules main) = MockPrint tree.now rules.now (option_copied main)
command_seen (read.Ground world) = Ground world.now
command_seen (read.Expect tree world expect main) = Expect tree.now world.now expect.now (option_copied main)
command_seen (read.GroundPlan world expand ticks period) = GroundPlan world.now expand ticks period

-- the limits of a plan
abbrev pub AreLimits : ℕ → ℕ → ℕ → Type 0
AreLimits expand ticks period = (expand ≤ 120) × (1 ≤ ticks) × (ticks ≤ 10000) × (period ≤ 1000000)

-- the numbers of a command are in their ranges: a load has no more leaves than its files can hold
abbrev pub IsInRange : Command → Type 0
IsInRange (Load leaves) = leaves ≤ most_leaves
IsInRange (Plan world expand ticks period) = AreLimits expand ticks period
IsInRange (GroundPlan world expand ticks period) = AreLimits expand ticks period
IsInRange _ = Unit {0}
