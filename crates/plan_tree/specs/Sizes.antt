-- Sizes, heights and keys of forests.
use Rattle.std.specs.Prelude.{ℕ, ◌+◌, max, List, [], ◌∷◌, ◌++◌}
use Rattle.spec_plan.specs.declared.part.Part.{Part}
use Rattle.spec_plan.specs.declared.part.Part.TheVariants.{Sequence}
use Rattle.spec_plan.specs.Forests.{Forest, total, Empty, Tree}

-- the nodes of a forest
abbrev pub size : Forest → ℕ
size = total (λ key part. 1)

-- the levels of a forest
abbrev pub height : Forest → ℕ
height Empty = 0
height (Tree key part below rest) = max (1 + height below) (height rest)

-- one for a sequence that was added, and for no other node
abbrev pub added_by : Part → ℕ
added_by (Sequence row) = 1
added_by _ = 0

-- the sequences that were added
abbrev pub subtrees : Forest → ℕ
subtrees = total (λ key part. added_by part)

-- ---- What is read

-- the keys of the trees, in order
abbrev pub tops : Forest → List ℕ
tops Empty = []
tops (Tree key part below rest) = key ∷ tops rest

-- the keys in pre-order, so that the node of number n has the n-th
abbrev pub keys_of : Forest → List ℕ
keys_of Empty = []
keys_of (Tree key part below rest) = key ∷ (keys_of below ++ keys_of rest)
