-- Rows made ready, as the rules that they stand for, and the facts that they look at.
use Rattle.std.specs.Prelude.{ℕ, ◌+◌, max, Bool, List, [], Option, Some, None, option_map}
use Rattle.spec_script.specs.Entries.{look_of}
use Rattle.script_code.specs.Codes.{formula}
use Rattle.spec_run.specs.Leaf.{Number, Test, Way, Tests, Lasts, LastsBy, Replays, Waits, Heeds, Obeys, is_told_way, sights, as_number, truth_of, comparison}
use Rattle.run_driver.specs.declared.expression.ReadyExpr.{ReadyExpr}
use Rattle.run_driver.specs.declared.sort.ReadySort.{ReadySort}
use Rattle.run_driver.specs.declared.sort.ReadySort.TheVariants as sort

-- what an expression gives
abbrev pub ready_number : ReadyExpr → Number
ready_number e inputs facts = as_number ((formula e.code).value (look_of (sights inputs facts)))

-- whether it is true
abbrev pub ready_test : ReadyExpr → Test
ready_test e inputs facts = truth_of (ready_number e inputs facts)

-- how a row answers
abbrev pub ready_way : ReadySort → Way
ready_way (sort.Is fact op value) = Tests (comparison fact op value)
ready_way (sort.When test) = Tests (ready_test test)
ready_way (sort.Timed ms fails) = Lasts ms (option_map ready_test fails)
ready_way (sort.TimedBy length fails) = LastsBy (ready_number length) (option_map ready_test fails)
ready_way (sort.Replay ms outcomes) = Replays ms outcomes
ready_way (sort.Gate test) = Waits (ready_test test)
ready_way sort.Sensed = Heeds
ready_way (sort.Told outs) = Obeys

-- whether its leaves are told what they answer
abbrev pub is_ready_told : ReadySort → Bool
is_ready_told sort = is_told_way (ready_way sort)

-- the outputs for which a leaf may be told a value
abbrev pub ready_told : ReadySort → List (List ℕ)
ready_told (sort.Told outs) = outs
ready_told _ = []

-- how many places an expression looks at: each of its places is less than this
abbrev pub expr_reach : ReadyExpr → ℕ
expr_reach e = (formula e.code).reach

abbrev pub fails_reach : Option ReadyExpr → ℕ
fails_reach None = 0
fails_reach (Some e) = expr_reach e

abbrev pub sort_reach : ReadySort → ℕ
sort_reach (sort.Is fact op value) = 8 + fact + 1
sort_reach (sort.When test) = expr_reach test
sort_reach (sort.Timed ms fails) = fails_reach fails
sort_reach (sort.TimedBy length fails) = max (expr_reach length) (fails_reach fails)
sort_reach (sort.Replay ms outcomes) = 0
sort_reach (sort.Gate test) = expr_reach test
sort_reach sort.Sensed = 0
sort_reach (sort.Told outs) = 0
