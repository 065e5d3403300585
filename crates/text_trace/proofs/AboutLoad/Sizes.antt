-- The texts of a load are files that can be read.
use Rattle.std.proofs.Common.{ℕ, ◌*◌, ◌%◌, ◌==◌, ◌<◌, ◌≤◌, ◌++◌, Bool, true, false, if◌then◌else◌, length, arith}
use Rattle.std.specs.Prelude.{codes, decimal}
use Rattle.std.proofs.lemmas.List.{length-append}
use Rattle.std.proofs.lemmas.Fmt.{length-decimal-le}
use Rattle.spec_output.specs.LoadTexts.{leaf_id, retry_text, row_line, row_sort, texts, tick_lines, tree_text, world_text}
use Rattle.text_trace.proofs.AboutLoad.Sequences.{texts_are_short}

leaf_id-short : (n : ℕ) → n ≤ 1000 → length (leaf_id n) ≤ 5
leaf_id-short n few =
    let number : length (decimal n) ≤ 4 = length-decimal-le 4 n (omega arith) (omega (arith, few)) (omega (arith, few)) in
    omega (arith, number)

retry-short : (n : ℕ) → n ≤ 1000 → length (retry_text n) ≤ 100
retry-short n few = omega (arith, leaf_id-short n few, length-append (leaf_id n) (codes "/></RetryUntilSuccessful>"))

sort-short : (odd : Bool) (n : ℕ) → length (if odd then codes " timed " ++ decimal (10 * (n % 7)) else codes " replay 0 FFS") ≤ 20
sort-short true n =
    let number : length (decimal (10 * (n % 7))) ≤ 2 = length-decimal-le 2 (10 * (n % 7)) (omega arith) (omega arith) (omega arith) in
    omega (arith, number)
sort-short false n = omega arith

row-short : (n : ℕ) → n ≤ 1000 → length (row_line n) ≤ 40
row-short n few =
    omega (arith, leaf_id-short n few, sort-short (n % 2 == 1) n, length-append (leaf_id n) (row_sort n), length-append (leaf_id n ++ row_sort n) (codes "\n"))

tick-short : (n : ℕ) → n < 10000 → length (tick_lines n) ≤ 20
tick-short n few =
    let number : length (decimal (10 * n)) ≤ 5 = length-decimal-le 5 (10 * n) (omega arith) (omega (arith, few)) (omega (arith, few)) in
    omega (arith, number, length-append (decimal (10 * n)) (codes "\ntick 1\n"))

pub tree_text_is_short : (n : ℕ) → n ≤ 1000 → length (tree_text n) ≤ 1048576
tree_text_is_short n few =
    let nodes : length (texts retry_text 1 n) ≤ 100 * n = texts_are_short retry_text 100 1 n (λ m low. retry-short m (omega (arith, low, few))) in
    omega (arith, few, nodes, length-append (texts retry_text 1 n) (codes "</Sequence></BehaviorTree></root>"))

pub world_text_is_short : (n : ℕ) → n ≤ 1000 → length (world_text n) ≤ 1048576
world_text_is_short n few =
    let rows : length (texts row_line 1 n) ≤ 40 * n = texts_are_short row_line 40 1 n (λ m low. row-short m (omega (arith, low, few))) in
    let ticks : length (texts tick_lines 0 (10 * n)) ≤ 20 * (10 * n) = texts_are_short tick_lines 20 0 (10 * n) (λ m low. tick-short m (omega (arith, low, few))) in
    omega (arith, few, rows, ticks, length-append (texts row_line 1 n) (texts tick_lines 0 (10 * n)))
