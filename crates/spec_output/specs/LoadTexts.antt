-- The tree and the world of a load, which are made from one number.
use Rattle.std.specs.Prelude.{ℕ, ◌*◌, ◌%◌, ◌==◌, List, ◌++◌, codes, decimal, if◌then◌else◌}
use Rattle.std.specs.List.{flat_map, range_with_len}

-- the texts of so many numbers in order, of which the first is this one
abbrev pub texts : (ℕ → List ℕ) → ℕ → ℕ → List ℕ
texts text first count = flat_map text (range_with_len first count)

-- the ID of the leaf of this number
abbrev pub leaf_id : ℕ → List ℕ
leaf_id n = codes "A" ++ decimal n

-- ---- The tree

-- the node that tries the leaf of this number up to three times
abbrev pub retry_text : ℕ → List ℕ
retry_text n = codes "<RetryUntilSuccessful num_attempts=\"3\"><" ++ leaf_id n ++ codes "/></RetryUntilSuccessful>"

-- a Sequence of so many such nodes
abbrev pub tree_text : ℕ → List ℕ
tree_text n = codes "<root BTCPP_format=\"4\"><BehaviorTree ID=\"Load\"><Sequence>" ++ texts retry_text 1 n ++ codes "</Sequence></BehaviorTree></root>"

-- ---- The world

-- leaves of an odd number last 0 to 60 ms, and the other ones fail twice before they succeed
abbrev pub row_sort : ℕ → List ℕ
row_sort n = if n % 2 == 1 then codes " timed " ++ decimal (10 * (n % 7)) else codes " replay 0 FFS"

-- the row of the leaf of this number
abbrev pub row_line : ℕ → List ℕ
row_line n = codes "action " ++ leaf_id n ++ row_sort n ++ codes "\n"

-- the tick of this number, counted from 0
abbrev pub tick_lines : ℕ → List ℕ
tick_lines n = codes "at " ++ decimal (10 * n) ++ codes "\ntick 1\n"

-- the rows of so many leaves, and ten ticks for each
abbrev pub world_text : ℕ → List ℕ
world_text n = codes "bt-world 1\n" ++ texts row_line 1 n ++ texts tick_lines 0 (10 * n)
