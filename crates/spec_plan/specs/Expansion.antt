-- The first plan tree, and the expansion of a condition.
use Rattle.std.specs.Prelude.{ℕ, ◌==◌, ◌&&◌, not, if◌then◌else◌, List, [], ◌∷◌, ◌++◌, map, Option, Some, None}
use Rattle.std.specs.List.{filter, list_any}
use Rattle.spec_world.specs.declared.world.Row.{Row}
use Rattle.spec_plan.specs.declared.domain.Template.{Template}
use Rattle.spec_plan.specs.Templates.{templates_of}
use Rattle.spec_plan.specs.declared.part.Part.{Part}
use Rattle.spec_plan.specs.declared.part.Part.TheVariants.{Goals, Sequence, Fallback, Condition, Action}
use Rattle.spec_plan.specs.Forests.{Forest, Empty, Tree, Ancestor, ancestors, below_at, changed_below, is_fallback, joined, part_at}
use Rattle.spec_plan.specs.Achievers.{needs_of, row_achieves}

-- nodes without children, each with its key
abbrev pub leaves : List ℕ → List Part → Forest
leaves (key ∷ keys) (part ∷ parts) = Tree key part Empty (leaves keys parts)
leaves _ _ = Empty

-- the first plan tree: a sequence of the goals
abbrev pub goal_tree : ℕ → List ℕ → List ℕ → Forest
goal_tree root keys goals = Tree root Goals (leaves keys (map Condition goals)) Empty

-- ---- Untried templates

-- the rows of the sequences among some trees
abbrev pub sequence_rows : Forest → List ℕ
sequence_rows Empty = []
sequence_rows (Tree key (Sequence row) below rest) = row ∷ sequence_rows rest
sequence_rows (Tree key part below rest) = sequence_rows rest

-- for a condition were added the sequences of the fallback whose child it is, if it is one's
abbrev pub tried_below : List Ancestor → Forest → List ℕ
tried_below [] tree = []
tried_below (parent ∷ outer) tree = if is_fallback parent.part then sequence_rows (below_at parent.key tree) else []

-- the rows of the actions that were added for the condition of this key
abbrev pub tried : ℕ → Forest → List ℕ
tried k tree = tried_below (ancestors k tree) tree

-- the row of a condition
abbrev pub condition_row : Option Part → Option ℕ
condition_row (Some (Condition row)) = Some row
condition_row _ = None

-- the templates that achieve a condition and are not among some rows
abbrev pub untried_of : List Row → Option ℕ → List ℕ → List Template
untried_of rows None tried = []
untried_of rows (Some condition) tried =
    filter (λ (t : Template). row_achieves rows condition t.row && not (list_any (λ row. row == t.row) tried)) (templates_of rows)

-- the untried templates of the condition of this key: those that achieve it and were not added for it
abbrev pub untried : List Row → ℕ → Forest → List Template
untried rows k tree = untried_of rows (condition_row (part_at k tree)) (tried k tree)

-- ---- Expansion

-- the keys of new nodes: of the fallback, of the sequence, and of what stands in the sequence
pub record NewKeys : Type 0 where
  pub fallback : ℕ
  pub sequence : ℕ
  pub leaves : List ℕ

-- the new sequence of the action of this row: the conditions that the action needs, and then the action
abbrev pub new_sequence : List Row → NewKeys → ℕ → Forest
new_sequence rows keys row = Tree keys.sequence (Sequence row) (leaves keys.leaves (map Condition (needs_of rows row) ++ Action row ∷ [])) Empty

-- a condition among its neighbours is replaced by a fallback of itself and what is new
abbrev pub wrapped : ℕ → ℕ → Forest → Forest → Forest
wrapped k fallback new Empty = Empty
wrapped k fallback new (Tree key part below rest) =
    if key == k then Tree fallback Fallback (Tree key part below new) rest
    else Tree key part below (wrapped k fallback new rest)

-- What stands in a node, after one of these conditions was expanded: in a fallback the new sequence comes last.
abbrev pub grown : Part → ℕ → ℕ → Forest → Forest → Forest
grown Fallback k fallback new children = joined children new
grown _ k fallback new children = wrapped k fallback new children

abbrev pub expanded_below : List Ancestor → ℕ → ℕ → Forest → Forest → Forest
expanded_below [] k fallback new tree = tree
expanded_below (parent ∷ outer) k fallback new tree = changed_below parent.key (λ part. grown part k fallback new) tree

-- the tree after the condition of this key was expanded by the action of this row
abbrev pub expanded : List Row → NewKeys → ℕ → ℕ → Forest → Forest
expanded rows keys k row tree = expanded_below (ancestors k tree) k keys.fallback (new_sequence rows keys row) tree
