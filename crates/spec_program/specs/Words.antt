-- The words of the command line.
use Rattle.std.specs.Prelude.{ℕ, nat_le, ℤ, pos, List, [], ◌∷◌, codes, Bool, true, false, ◌&&◌, ◌||◌, Option, Some, None, is_none, option_and_then, option_map, if◌then◌else◌}
use Rattle.std.specs.Str.{bytes_eq}
use Rattle.spec_program.specs.declared.exit.Exit.{Exit}
use Rattle.spec_program.specs.declared.exit.Exit.TheVariants as exit
use Rattle.spec_program.specs.declared.options.Options.{Options}
use Rattle.spec_program.specs.declared.options.Options.TheVariants as takes
use Rattle.spec_tree.specs.Limits.{most_leaves, most_rounds}
use Rattle.spec_tree.specs.Numbers.{int_in}

-- ---- Options

-- the value that options, each a name and a value after it, give to this name
abbrev pub value_of : List ℕ → List (List ℕ) → Option (List ℕ)
value_of name [] = None
value_of name (one ∷ []) = None
value_of name (other ∷ value ∷ options) = if bytes_eq other name then Some value else value_of name options

-- whether no option has this name
unfoldable pub is_unset : List ℕ → List (List ℕ) → Bool
is_unset name options = is_none (value_of name options)

-- whether words are options in any order, whose names pass this test, each at most once
abbrev pub are_options : (List ℕ → Bool) → List (List ℕ) → Bool
are_options is_name [] = true
are_options is_name (one ∷ []) = false
are_options is_name (name ∷ value ∷ options) = is_name name && is_unset name options && are_options is_name options

-- ---- Commands

-- a command: its files, how many rounds, and the main tree where it names one; how many leaves a load has; or how many
-- sequences a plan may add, how many ticks a run of it may have, and the time from one tick to the next
pub data Command : Type 0 where
  Tick : (tree world : List ℕ) (main : Option (List ℕ)) → Command
  Live : (tree world : List ℕ) (rounds : ℕ) (main : Option (List ℕ)) → Command
  Load : (leaves : ℕ) → Command
  Check : (tree : List ℕ) (main : Option (List ℕ)) → Command
  Dead : (tree : List ℕ) (main : Option (List ℕ)) → Command
  Exclusive : (tree : List ℕ) (ids : List (List ℕ)) (main : Option (List ℕ)) → Command
  Plan : (world : List ℕ) (expand ticks period : ℕ) → Command
  Mock : (tree world rules : List ℕ) (main : Option (List ℕ)) → Command
  MockPrint : (tree rules : List ℕ) (main : Option (List ℕ)) → Command
  Ground : (world : List ℕ) → Command
  Expect : (tree world expect : List ℕ) (main : Option (List ℕ)) → Command
  GroundPlan : (world : List ℕ) (expand ticks period : ℕ) → Command

-- the options of a command: the ID of the main tree, for some also a number of ticks, and for a plan its limits
unfoldable pub is_option : Options → List ℕ → Bool
is_option takes.Main name = bytes_eq name (codes "--main")
is_option takes.Rounds name = bytes_eq name (codes "--main") || bytes_eq name (codes "--ticks")
is_option takes.Limits name = bytes_eq name (codes "--expand") || bytes_eq name (codes "--ticks") || bytes_eq name (codes "--period")

-- a number in this range
abbrev pub in_range : ℕ → ℕ → Option ℤ → Option ℕ
in_range least most (Some (pos n)) = if nat_le least n && nat_le n most then Some n else None
in_range least most _ = None

-- a number from 1 to this one
abbrev pub as_count : ℕ → Option ℤ → Option ℕ
as_count most number = in_range 1 most number

-- the number in this range, written canonically, that is the value of an option, or this one where the option is not written
abbrev pub number_or : ℕ → ℕ → ℕ → Option (List ℕ) → Option ℕ
number_or default least most None = Some default
number_or default least most (Some word) = in_range least most (int_in word)

-- the number from 1 to `most_rounds` that the option `--ticks` gives, written canonically
unfoldable pub rounds_in : List (List ℕ) → Option ℕ
rounds_in options = option_and_then (λ word. as_count most_rounds (int_in word)) (value_of (codes "--ticks") options)

-- `TREE WORLD [--main ID]`
abbrev pub tick_of : List (List ℕ) → Option Command
tick_of (tree ∷ world ∷ options) =
    if are_options (is_option takes.Main) options then Some (Tick tree world (value_of (codes "--main") options)) else None
tick_of _ = None

-- `TREE WORLD --ticks N [--main ID]`
abbrev pub live_of : List (List ℕ) → Option Command
live_of (tree ∷ world ∷ options) =
    if are_options (is_option takes.Rounds) options
    then option_map (λ rounds. Live tree world rounds (value_of (codes "--main") options)) (rounds_in options)
    else None
live_of _ = None

-- `N`, a number from 1 to `most_leaves`, written canonically
abbrev pub load_of : List (List ℕ) → Option Command
load_of (word ∷ []) = option_map Load (as_count most_leaves (int_in word))
load_of _ = None

-- `[--main ID]`: the ID where it is given
abbrev pub main_in : List (List ℕ) → Option (Option (List ℕ))
main_in options = if are_options (is_option takes.Main) options then Some (value_of (codes "--main") options) else None

-- options without `--strict`, which has no value and stands before or after the other one
abbrev pub without_strict : List (List ℕ) → List (List ℕ)
without_strict (flag ∷ []) = if bytes_eq flag (codes "--strict") then [] else flag ∷ []
without_strict (first ∷ second ∷ third ∷ []) =
    if bytes_eq first (codes "--strict") then second ∷ third ∷ []
    else if bytes_eq third (codes "--strict") then first ∷ second ∷ []
    else first ∷ second ∷ third ∷ []
without_strict options = options

-- `TREE [--main ID] [--strict]`, which is answered alike with `--strict` and without
abbrev pub check_of : List (List ℕ) → Option Command
check_of (tree ∷ options) = option_map (Check tree) (main_in (without_strict options))
check_of _ = None

-- `TREE [--main ID]`
abbrev pub dead_of : List (List ℕ) → Option Command
dead_of (tree ∷ options) = option_map (Dead tree) (main_in options)
dead_of _ = None

-- the words before the first `--main`, and those from it on
abbrev pub before_main : List (List ℕ) → List (List ℕ)
before_main [] = []
before_main (word ∷ words) = if bytes_eq word (codes "--main") then [] else word ∷ before_main words

abbrev pub from_main : List (List ℕ) → List (List ℕ)
from_main [] = []
from_main (word ∷ words) = if bytes_eq word (codes "--main") then word ∷ words else from_main words

-- a tree, some IDs and the main tree
abbrev pub exclusive_with : List ℕ → List (List ℕ) → Option (Option (List ℕ)) → Option Command
exclusive_with tree (id ∷ ids) (Some main) = Some (Exclusive tree (id ∷ ids) main)
exclusive_with tree _ _ = None

-- `TREE ID ID.. [--main ID]`: one ID or more, up to the first word `--main`
abbrev pub exclusive_of : List (List ℕ) → Option Command
exclusive_of (tree ∷ words) = exclusive_with tree (before_main words) (main_in (from_main words))
exclusive_of _ = None

-- what the options say of the limits of a plan
abbrev pub expand_in : List (List ℕ) → Option ℕ
expand_in options = number_or 100 0 120 (value_of (codes "--expand") options)

abbrev pub ticks_in : List (List ℕ) → Option ℕ
ticks_in options = number_or 1000 1 10000 (value_of (codes "--ticks") options)

abbrev pub period_in : List (List ℕ) → Option ℕ
period_in options = number_or 100 0 1000000 (value_of (codes "--period") options)

-- a file with these limits
abbrev pub limited : List ℕ → Option ℕ → Option ℕ → Option ℕ → Option (List ℕ × ℕ × ℕ × ℕ)
limited world (Some expand) (Some ticks) (Some period) = Some (world, expand, ticks, period)
limited world _ _ _ = None

-- `WORLD [--expand N] [--ticks N] [--period MS]`: the file, and the limits
abbrev pub limited_words : List (List ℕ) → Option (List ℕ × ℕ × ℕ × ℕ)
limited_words (world ∷ options) =
    if are_options (is_option takes.Limits) options then limited world (expand_in options) (ticks_in options) (period_in options) else None
limited_words _ = None

abbrev pub plan_of : List (List ℕ) → Option Command
plan_of words = option_map (λ l. Plan l.0 l.1 l.2 l.3) (limited_words words)

abbrev pub ground_plan_of : List (List ℕ) → Option Command
ground_plan_of words = option_map (λ l. GroundPlan l.0 l.1 l.2 l.3) (limited_words words)

-- `WORLD`
abbrev pub ground_of : List (List ℕ) → Option Command
ground_of (world ∷ []) = Some (Ground world)
ground_of _ = None

-- `TREE WORLD RULES [--main ID]`
abbrev pub mock_run_of : List (List ℕ) → Option Command
mock_run_of (tree ∷ world ∷ rules ∷ options) = option_map (Mock tree world rules) (main_in options)
mock_run_of _ = None

-- `TREE RULES [--main ID]`
abbrev pub mock_print_of : List (List ℕ) → Option Command
mock_print_of (tree ∷ rules ∷ options) = option_map (MockPrint tree rules) (main_in options)
mock_print_of _ = None

-- `TREE WORLD EXPECT [--main ID]`
abbrev pub expect_of : List (List ℕ) → Option Command
expect_of (tree ∷ world ∷ expect ∷ options) = option_map (Expect tree world expect) (main_in options)
expect_of _ = None

-- those words, after `--print` the latter
abbrev pub mock_of : List (List ℕ) → Option Command
mock_of (word ∷ words) = if bytes_eq word (codes "--print") then mock_print_of words else mock_run_of (word ∷ words)
mock_of _ = None

-- the commands by their first words, each with what it makes of the words after it
abbrev pub commands : List (List ℕ × (List (List ℕ) → Option Command))
commands =
    (codes "tick", tick_of) ∷ (codes "live", live_of) ∷ (codes "load", load_of) ∷ (codes "check", check_of) ∷ (codes "dead", dead_of)
    ∷ (codes "plan", plan_of) ∷ (codes "mock", mock_of)
    ∷ (codes "ground", ground_of) ∷ (codes "gplan", ground_plan_of) ∷ (codes "exclusive", exclusive_of) ∷ (codes "expect", expect_of) ∷ []

abbrev pub command_among : List (List ℕ × (List (List ℕ) → Option Command)) → List ℕ → List (List ℕ) → Option Command
command_among [] word words = None
command_among (row ∷ rows) word words = if bytes_eq word row.0 then row.1 words else command_among rows word words

-- the command that the words are, or none
abbrev pub command_of : List (List ℕ) → Option Command
command_of [] = None
command_of (word ∷ words) = command_among commands word words

-- ---- Serving

-- what is served: a tree file, a world file where there is one, and the main tree where it is named
pub record Served : Type 0 where
  pub tree : List ℕ
  pub world : Option (List ℕ)
  pub main : Option (List ℕ)

-- a tree, in a world where there is one, with these options
abbrev pub served : List ℕ → Option (List ℕ) → List (List ℕ) → Option Served
served tree world options =
    if are_options (is_option takes.Main) options
    then Some (record { tree = tree; world = world; main = value_of (codes "--main") options })
    else None

-- `TREE [WORLD] [--main ID]`: a word `--main` after the tree begins the options
abbrev pub served_by : List (List ℕ) → Option Served
served_by [] = None
served_by (tree ∷ []) = served tree None []
served_by (tree ∷ word ∷ words) =
    if bytes_eq word (codes "--main") then served tree None (word ∷ words) else served tree (Some word) words

-- `serve` and the words after it; no other command
abbrev pub serve_of : List (List ℕ) → Option Served
serve_of [] = None
serve_of (word ∷ words) = if bytes_eq word (codes "serve") then served_by words else None

-- the status of the process
abbrev pub status_of : Exit → ℕ
status_of exit.Done = 0
status_of exit.Words = 2
status_of exit.Tree = 3
status_of exit.World = 4
status_of exit.Fault = 5
status_of exit.NoPlan = 6
status_of exit.Read = 7
status_of exit.Write = 8
status_of exit.Memory = 9
status_of exit.Rules = 10
status_of exit.Request = 11
status_of exit.Expect = 12
status_of exit.Unmet = 13
status_of exit.NotExclusive = 14
