-- The conflicts of a plan tree.
use Rattle.std.specs.Prelude.{ℕ, if◌then◌else◌, List, [], ◌∷◌, ◌++◌, map}
use Rattle.std.specs.List.{filter, flat_map}
use Rattle.spec_world.specs.declared.world.Row.{Row}
use Rattle.spec_plan.specs.declared.part.Part.{Part}
use Rattle.spec_plan.specs.declared.part.Part.TheVariants.{Fallback, Condition, Action}
use Rattle.spec_plan.specs.Forests.{Forest, Empty, Tree, Ancestor, ancestors, is_sequence}
use Rattle.spec_plan.specs.Achievers.{row_threatens}
use Rattle.spec_plan.specs.declared.head.Head.{Head}

-- ---- Heads

-- the condition with which some trees begin
abbrev pub first_condition : Forest → List Head
first_condition (Tree key (Condition row) below rest) = record { key = key; row = row } ∷ []
first_condition _ = []

-- The head of a sequence's child: of a condition itself, and of a fallback its first child. An action has none.
abbrev pub head_of : ℕ → Part → Forest → List Head
head_of key (Condition row) below = record { key = key; row = row } ∷ []
head_of key Fallback below = first_condition below
head_of key _ below = []

-- the heads of some trees, from left to right
abbrev pub heads : Forest → List Head
heads Empty = []
heads (Tree key part below rest) = head_of key part below ++ heads rest

-- the heads that stand in a node before the way down
abbrev pub heads_in : Ancestor → List Head
heads_in a = if is_sequence a.part then heads a.before else []

-- the heads of earlier children in the sequences above a node, from outside inwards; the nearest node is given first
abbrev pub heads_before : List Ancestor → List Head
heads_before [] = []
heads_before (a ∷ outer) = heads_before outer ++ heads_in a

-- ---- Conflicts

-- the actions in pre-order, each by its key and its row
abbrev pub own_actions : ℕ → Part → List Head → List Head
own_actions key (Action row) below = record { key = key; row = row } ∷ []
own_actions key _ below = below

abbrev pub actions : Forest → List Head
actions Empty = []
actions (Tree key part below rest) = own_actions key part (actions below) ++ actions rest

-- without the nearest
abbrev pub outer_of : List Ancestor → List Ancestor
outer_of [] = []
outer_of (a ∷ outer) = outer

-- the key of an action, and that of an earlier head that it threatens
abbrev pub Pair : Type 0
Pair = ℕ × ℕ

-- the conflicts of an action, in each sequence above it but its own
abbrev pub conflicts_with : List Row → Head → List Head → List Pair
conflicts_with rows action earlier = map (λ (m : Head). (action.key, m.key)) (filter (λ (m : Head). row_threatens rows action.row m.row) earlier)

-- the conflicts of some actions of a plan tree
abbrev pub conflicts_of : List Row → Forest → List Head → List Pair
conflicts_of rows tree found = flat_map (λ (n : Head). conflicts_with rows n (heads_before (outer_of (ancestors n.key tree)))) found

-- The conflicts of a plan tree, by their actions in pre-order, then by the sequence from outside inwards, then by the
-- head from left to right.
abbrev pub conflicts : List Row → Forest → List Pair
conflicts rows tree = conflicts_of rows tree (actions tree)
