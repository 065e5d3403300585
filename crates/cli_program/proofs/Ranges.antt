-- The limits of a plan that words ask for are in their ranges.
use Rattle.std.proofs.Common.{◌≡◌, ℕ, ◌≤◌, ◌&&◌, Bool, true, if◌then◌else◌, List, [], ◌∷◌, Option, Some, None, IfSome, arith}
use Rattle.std.specs.Prelude.{codes, nat_le, negsuc, option_map, pos, ℤ}
use Rattle.std.specs.List.{AllByRecursion}
use Rattle.std.specs.Str.{bytes_eq}
use Rattle.std.proofs.lemmas.Bool.{cond_both}
use Rattle.std.proofs.lemmas.Bool.Decides.{nat_tests}
use Rattle.spec_script.proofs.Bools.{both}
use Rattle.spec_program.specs.declared.options.Options.TheVariants as takes
use Rattle.spec_program.specs.Words.{Check, Command, Dead, Expect, GroundPlan, Live, Load, Mock, MockPrint, Plan, Tick, are_options, before_main, check_of, command_among, command_of, commands, dead_of, exclusive_of, exclusive_with, expand_in, expect_of, from_main, ground_of, ground_plan_of, in_range, is_option, limited, limited_words, live_of, load_of, main_in, mock_of, mock_print_of, mock_run_of, number_or, period_in, plan_of, rounds_in, tick_of, ticks_in, value_of, without_strict}
use Rattle.plan_search.specs.Reached.{AreInRange}

-- the limits of a command that plans
abbrev pub IsInRange : Command → Type 0
IsInRange (Plan world expand ticks period) = AreInRange (record { expand = expand; ticks = ticks; period = period })
IsInRange (GroundPlan world expand ticks period) = AreInRange (record { expand = expand; ticks = ticks; period = period })
IsInRange _ = Unit {0}

-- a command, or none
abbrev Fits : Option Command → Type 0
Fits o = IfSome o IsInRange

fits_if : (b : Bool) (one other : Option Command) → Fits one → Fits other → Fits (if b then one else other)
fits_if b one other first second = cond_both b one other (λ o. Fits o) (λ _. first) (λ _. second)

fits_map : {A : Type 0} (make : A → Command) → ((a : A) → IsInRange (make a)) → (o : Option A) → Fits (option_map make o)
fits_map make each None = tt
fits_map make each (Some a) = each a

-- ---- Numbers

abbrev IsWithin : ℕ → ℕ → Option ℕ → Type 0
IsWithin least most o = IfSome o (λ n. (least ≤ n) × (n ≤ most))

tests_within : (least most n : ℕ) → (nat_le least n && nat_le n most) ≡ true → (least ≤ n) × (n ≤ most)
tests_within least most n is = let t = both (nat_le least n) (nat_le n most) is in (grind (arith, nat_tests, t.0), grind (arith, nat_tests, t.1))

number_within : (least most : ℕ) (o : Option ℤ) → IsWithin least most (in_range least most o)
number_within least most None = tt
number_within least most (Some (negsuc n)) = tt
number_within least most (Some (pos n)) = cond_both (nat_le least n && nat_le n most) (Some n) None (λ o. IsWithin least most o) (λ is. tests_within least most n is) (λ _. tt)

option_within : (default least most : ℕ) → least ≤ default → default ≤ most → (o : Option (List ℕ)) → IsWithin least most (number_or default least most o)
option_within default least most low high None = (low, high)
option_within default least most low high (Some word) = number_within least most _

module _ (make : List ℕ → ℕ → ℕ → ℕ → Command) (each : (world : List ℕ) (expand ticks period : ℕ) → AreInRange (record { expand = expand; ticks = ticks; period = period }) → IsInRange (make world expand ticks period)) where
  limited_fits : (world : List ℕ) (expand ticks period : Option ℕ) → IsWithin 0 120 expand → IsWithin 1 10000 ticks → IsWithin 0 1000000 period →
      Fits (option_map (λ l. make l.0 l.1 l.2 l.3) (limited world expand ticks period))
  limited_fits world (Some e) (Some t) (Some p) few some low = each world e t p (record { expand = few.1; some_tick = some.0; ticks = some.1; period = low.1 })
  limited_fits world None ticks period few some low = tt
  limited_fits world (Some e) None period few some low = tt
  limited_fits world (Some e) (Some t) None few some low = tt

  words_fit : (words : List (List ℕ)) → Fits (option_map (λ l. make l.0 l.1 l.2 l.3) (limited_words words))
  words_fit [] = tt
  words_fit (world ∷ options) =
      cond_both (are_options (is_option takes.Limits) options) (limited world (expand_in options) (ticks_in options) (period_in options)) None (λ o. Fits (option_map (λ l. make l.0 l.1 l.2 l.3) o))
      (λ _. limited_fits world (expand_in options) (ticks_in options) (period_in options)
      (option_within 100 0 120 (omega arith) (omega arith) (value_of (codes "--expand") options)) (option_within 1000 1 10000 (omega arith) (omega arith) (value_of (codes "--ticks") options))
      (option_within 100 0 1000000 (omega arith) (omega arith) (value_of (codes "--period") options)))
      (λ _. tt)

-- ---- Commands

tick_fits : (words : List (List ℕ)) → Fits (tick_of words)
tick_fits [] = tt
tick_fits (tree ∷ []) = tt
tick_fits (tree ∷ world ∷ options) = fits_if (are_options (is_option takes.Main) options) (Some (Tick tree world _)) None tt tt

live_fits : (words : List (List ℕ)) → Fits (live_of words)
live_fits [] = tt
live_fits (tree ∷ []) = tt
live_fits (tree ∷ world ∷ options) =
    fits_if (are_options (is_option takes.Rounds) options) (option_map (λ rounds. Live tree world rounds _) (rounds_in options)) None (fits_map (λ rounds. Live tree world rounds _) (λ rounds. tt) (rounds_in options)) tt

load_fits : (words : List (List ℕ)) → Fits (load_of words)
load_fits [] = tt
load_fits (word ∷ []) = fits_map Load (λ n. tt) _
load_fits (word ∷ other ∷ words) = tt

check_fits : (words : List (List ℕ)) → Fits (check_of words)
check_fits [] = tt
check_fits (tree ∷ options) = fits_map (Check tree) (λ main. tt) (main_in (without_strict options))

dead_fits : (words : List (List ℕ)) → Fits (dead_of words)
dead_fits [] = tt
dead_fits (tree ∷ options) = fits_map (Dead tree) (λ main. tt) (main_in options)

exclusive_fits_with : (tree : List ℕ) (ids : List (List ℕ)) (main : Option (Option (List ℕ))) → Fits (exclusive_with tree ids main)
exclusive_fits_with tree [] main = tt
exclusive_fits_with tree (id ∷ ids) None = tt
exclusive_fits_with tree (id ∷ ids) (Some main) = tt

exclusive_fits : (words : List (List ℕ)) → Fits (exclusive_of words)
exclusive_fits [] = tt
exclusive_fits (tree ∷ words) = exclusive_fits_with tree (before_main words) (main_in (from_main words))

ground_fits : (words : List (List ℕ)) → Fits (ground_of words)
ground_fits [] = tt
ground_fits (world ∷ []) = tt
ground_fits (world ∷ other ∷ words) = tt

mock_run_fits : (words : List (List ℕ)) → Fits (mock_run_of words)
mock_run_fits [] = tt
mock_run_fits (tree ∷ []) = tt
mock_run_fits (tree ∷ world ∷ []) = tt
mock_run_fits (tree ∷ world ∷ rules ∷ options) = fits_map (Mock tree world rules) (λ main. tt) (main_in options)

mock_print_fits : (words : List (List ℕ)) → Fits (mock_print_of words)
mock_print_fits [] = tt
mock_print_fits (tree ∷ []) = tt
mock_print_fits (tree ∷ rules ∷ options) = fits_map (MockPrint tree rules) (λ main. tt) (main_in options)

mock_fits : (words : List (List ℕ)) → Fits (mock_of words)
mock_fits [] = tt
mock_fits (word ∷ words) = fits_if (bytes_eq word (codes "--print")) (mock_print_of words) (mock_run_of (word ∷ words)) (mock_print_fits words) (mock_run_fits (word ∷ words))

expect_fits : (words : List (List ℕ)) → Fits (expect_of words)
expect_fits [] = tt
expect_fits (tree ∷ []) = tt
expect_fits (tree ∷ world ∷ []) = tt
expect_fits (tree ∷ world ∷ expect ∷ options) = fits_map (Expect tree world expect) (λ main. tt) (main_in options)

plan_fits : (words : List (List ℕ)) → Fits (plan_of words)
plan_fits words = words_fit Plan (λ world expand ticks period range. range) words

ground_plan_fits : (words : List (List ℕ)) → Fits (ground_plan_of words)
ground_plan_fits words = words_fit GroundPlan (λ world expand ticks period range. range) words

-- what holds of each row of a table
rows_fit : (rows : List (List ℕ × (List (List ℕ) → Option Command))) → AllByRecursion (λ row. (words : List (List ℕ)) → Fits (row.1 words)) rows → (word : List ℕ) (words : List (List ℕ)) → Fits (command_among rows word words)
rows_fit [] all word words = tt
rows_fit (row ∷ rows) all word words = fits_if (bytes_eq word row.0) (row.1 words) (command_among rows word words) (all.0 words) (rows_fit rows all.1 word words)

pub command_fits : (words : List (List ℕ)) → IfSome (command_of words) IsInRange
command_fits [] = tt
command_fits (word ∷ words) =
    rows_fit commands
    (tick_fits, (live_fits, (load_fits, (check_fits, (dead_fits, (plan_fits, (mock_fits, (ground_fits, (ground_plan_fits, (exclusive_fits, (expect_fits, tt)))))))))))
    word words
