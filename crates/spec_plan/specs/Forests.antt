-- Plan trees: terms with a key at each node, and what is read and changed at a key.
use Rattle.std.specs.Prelude.{ℕ, ◌+◌, ◌≤◌, ◌==◌, Bool, true, false, if◌then◌else◌, List, [], ◌∷◌, ◌++◌, Option, Some, None, option_map}
use Rattle.std.specs.Option.{option_or, option_map_or}
use Rattle.spec_plan.specs.declared.part.Part.{Part}
use Rattle.spec_plan.specs.declared.part.Part.TheVariants.{Goals, Sequence, Fallback}

-- Trees in order. The first has the key of its root, what the root is, and the trees below it; then come the others.
-- A plan tree is a forest of one.
pub data Forest : Type 0 where
  Empty : Forest
  Tree : (key : ℕ) (part : Part) (below rest : Forest) → Forest

-- one forest and then another
abbrev pub joined : Forest → Forest → Forest
joined Empty others = others
joined (Tree key part below rest) others = Tree key part below (joined rest others)

-- ---- What is counted

-- the sum of what each node counts, by its key and by what it is
abbrev pub total : (ℕ → Part → ℕ) → Forest → ℕ
total weight Empty = 0
total weight (Tree key part below rest) = weight key part + (total weight below + total weight rest)

-- the trees of a forest
abbrev pub count : Forest → ℕ
count Empty = 0
count (Tree key part below rest) = 1 + count rest

-- the nodes that have this key
abbrev pub times : ℕ → Forest → ℕ
times k = total (λ key part. if key == k then 1 else 0)

-- no key names two nodes
pub record AreApart (forest : Forest) : Type 0 where
  pub once : (key : ℕ) → times key forest ≤ 1

-- what a key names: what the node is, and the trees below it
abbrev pub node_at : ℕ → Forest → Option (Part × Forest)
node_at k Empty = None
node_at k (Tree key part below rest) = if key == k then Some (part, below) else option_or (node_at k below) (node_at k rest)

-- what the node of a key is
abbrev pub part_at : ℕ → Forest → Option Part
part_at k forest = option_map (λ node. node.0) (node_at k forest)

-- the trees below the node of a key
abbrev pub below_at : ℕ → Forest → Forest
below_at k forest = option_map_or (λ node. node.1) (node_at k forest) Empty

-- A node above another one: its key, what it is, and which of its children stand before the one on the way down.
pub record Ancestor : Type 0 where
  pub key : ℕ
  pub part : Part
  pub before : Forest

-- where a node stands: the trees before its own, and the nodes above it, the nearest first
pub record Place : Type 0 where
  pub before : Forest
  pub above : List Ancestor

-- a place one level higher: below the first tree of a forest
abbrev pub below_first : ℕ → Part → Place → Place
below_first key part place = record { before = Empty; above = place.above ++ record { key = key; part = part; before = place.before } ∷ [] }

-- a place among the others, after the first tree
abbrev pub after_first : ℕ → Part → Forest → Place → Place
after_first key part below place = record { before = Tree key part below place.before; above = place.above }

abbrev pub place_of : ℕ → Forest → Option Place
place_of k Empty = None
place_of k (Tree key part below rest) =
    if key == k then Some (record { before = Empty; above = [] })
    else option_or (option_map (below_first key part) (place_of k below)) (option_map (after_first key part below) (place_of k rest))

-- the nodes above the node of a key, the nearest first
abbrev pub ancestors : ℕ → Forest → List Ancestor
ancestors k forest = option_map_or (λ place. place.above) (place_of k forest) []

-- the sequences, whose children may change places
abbrev pub is_sequence : Part → Bool
is_sequence Goals = true
is_sequence (Sequence row) = true
is_sequence _ = false

abbrev pub is_fallback : Part → Bool
is_fallback Fallback = true
is_fallback _ = false

-- ---- What is changed

-- the trees below the node of a key are changed, by what the node is
abbrev pub changed_below : ℕ → (Part → Forest → Forest) → Forest → Forest
changed_below k change Empty = Empty
changed_below k change (Tree key part below rest) =
    if key == k then Tree key part (change part below) rest
    else Tree key part (changed_below k change below) (changed_below k change rest)
