-- How a new sequence is raised.
use Rattle.std.specs.Prelude.{ℕ, zero, suc, ◌-◌, ◌&&◌, nat_lt, Bool, Option, option_map}
use Rattle.std.specs.List.{find}
use Rattle.spec_plan.specs.Forests.{Forest, Tree, Ancestor, ancestors, changed_below, count, is_sequence}

-- the tree at this place and the next one change places
abbrev pub swap_at : ℕ → Forest → Forest
swap_at zero (Tree a x below (Tree b y under rest)) = Tree b y under (Tree a x below rest)
swap_at (suc place) (Tree a x below rest) = Tree a x below (swap_at place rest)
swap_at place forest = forest

-- a sequence in which the child on the way down has a left neighbour
abbrev pub can_move : Ancestor → Bool
can_move a = is_sequence a.part && nat_lt 0 (count a.before)

-- in this node the child on the way down and its left neighbour change places
abbrev pub moved_in : Ancestor → Forest → Forest
moved_in a tree = changed_below a.key (λ part. swap_at (count a.before - 1)) tree

-- The node of this key is raised: in the nearest sequence above it in which the child on the way down has a left
-- neighbour, these two change places. There may be none.
abbrev pub raised : ℕ → Forest → Option Forest
raised k tree = option_map (λ (a : Ancestor). moved_in a tree) (find can_move (ancestors k tree))
