-- How the slab of a plan tree grows, step by step.
use Rattle.std.specs.Prelude.{◌≡◌, ℕ, ◌+◌, ◌≤◌, ◌==◌, Bool, false, if◌then◌else◌, List, [], ◌∷◌, ◌++◌, length, map, Option, Some, None, slice_get}
use Rattle.std.specs.List.{filter}
use Rattle.std.specs.Option.{option_and_then, option_map_or}
use Rattle.slab.specs.Slab.{Slab, Updates, get, slab_len, with_value}
use Rattle.spec_world.specs.declared.world.Set.{Set}
use Rattle.spec_plan.specs.declared.domain.Test.{Test}
use Rattle.spec_plan.specs.declared.domain.Template.{Template}
use Rattle.spec_plan.specs.Effects.{achieves}
use Rattle.plan_tree.specs.declared.expanding.Site.{Site}
use Rattle.plan_tree.specs.declared.node.Node.{Node}
use Rattle.spec_plan.specs.declared.part.Part.{Part}
use Rattle.spec_plan.specs.declared.part.Part.TheVariants.{Sequence, Fallback, Condition, Action}
use Rattle.plan_tree.specs.declared.rule.Rule.{Rule}
use Rattle.spec_plan.specs.Expansion.{leaves}
use Rattle.spec_plan.specs.Forests.{Forest, Empty, Tree, times}
use Rattle.plan_tree.specs.Sizes.{size}
use Rattle.plan_tree.specs.Stands.{Stands}

-- a node without children
abbrev pub blank : Part → Option ℕ → Node
blank part parent = record { part = part; parent = parent; children = record { items = []; capacity = 4 } }

-- a new node under this key
pub record AddsNode (old new : Slab Node) (key : ℕ) (node : Node) : Type 0 where
  pub vacant : get old key ≡ None
  pub updates : Updates old new key (Some node)
  pub len : slab_len new ≡ slab_len old + 1

-- new nodes, which stand for this forest; all others are as they were
pub record Adds (old new : Slab Node) (parent : Option ℕ) (keys : List ℕ) (f : Forest) : Type 0 where
  pub kept : (key : ℕ) (node : Node) → get old key ≡ Some node → get new key ≡ Some node
  pub stands : Stands new parent keys f
  pub fresh : (key : ℕ) (node : Node) → get old key ≡ Some node → times key f ≡ 0
  pub apart : (key : ℕ) → times key f ≤ 1
  pub len : slab_len new ≡ slab_len old + size f

-- a node gets another parent or other children
pub record Edits (old new : Slab Node) (key : ℕ) (parent : Option ℕ) (children : List ℕ) (node : Node) : Type 0 where
  pub after : Node
  pub is : new ≡ with_value old key after
  pub part_is : after.part ≡ node.part
  pub parent_is : after.parent ≡ parent
  pub children_are : after.children.items ≡ children

-- the first of these keys becomes another one
abbrev pub replaced : ℕ → ℕ → List ℕ → List ℕ
replaced old new [] = []
replaced old new (key ∷ keys) = if key == old then new ∷ keys else key ∷ replaced old new keys

-- what stands in a new sequence: conditions, and maybe an action
abbrev pub parts_of : List ℕ → Option ℕ → List Part
parts_of conditions None = map Condition conditions
parts_of conditions (Some action) = map Condition conditions ++ Action action ∷ []

-- a new node with its leaves
abbrev pub branch_tree : ℕ → Part → List ℕ → List Part → Forest
branch_tree key part keys parts = Tree key part (leaves keys parts) Empty

-- the sequence is the last child of its parent
pub record AddsLast (old new : Slab Node) (parent key : ℕ) (part : Part) (parts : List Part) : Type 0 where
  pub keys : List ℕ
  pub counted : length keys ≡ length parts
  pub middle : Slab Node
  pub adds : Adds old middle (Some parent) (key ∷ []) (branch_tree key part keys parts)
  pub edits : (node : Node) → get old parent ≡ Some node → Edits middle new parent node.parent (node.children.items ++ key ∷ []) node

-- a fallback of the condition and the sequence stands in the condition's place
pub record Wraps (old new : Slab Node) (parent condition key : ℕ) (part : Part) (parts : List Part) : Type 0 where
  pub fallback : ℕ
  pub keys : List ℕ
  pub counted : length keys ≡ length parts
  pub first : Slab Node
  pub second : Slab Node
  pub third : Slab Node
  pub fourth : Slab Node
  pub inserted : AddsNode old first fallback (blank Fallback (Some parent))
  pub adds : Adds first second (Some fallback) (key ∷ []) (branch_tree key part keys parts)
  pub filled : (node : Node) → get second fallback ≡ Some node → Edits second third fallback node.parent (condition ∷ key ∷ []) node
  pub moved : (node : Node) → get third parent ≡ Some node → Edits third fourth parent node.parent (replaced condition fallback node.children.items) node
  pub under : (node : Node) → get fourth condition ≡ Some node → Edits fourth new condition (Some fallback) node.children.items node

-- ---- What is looked up

-- where a condition stands
abbrev pub site_in : Part → Option ℕ → Option Site
site_in (Condition row) (Some parent) = Some (record { row = row; parent = parent })
site_in _ _ = None

abbrev pub site_of : Node → Option Site
site_of node = site_in node.part node.parent

-- the sequence of this row
abbrev pub is_sequence_of : ℕ → Part → Bool
is_sequence_of row (Sequence own) = own == row
is_sequence_of row _ = false

-- a key of the sequence of this row
abbrev pub names_sequence : Slab Node → ℕ → ℕ → Bool
names_sequence s row key = option_map_or (λ (node : Node). is_sequence_of row node.part) (get s key) false

-- the children of a fallback, and none of any other node
abbrev pub fallback_children : Part → List ℕ → List ℕ
fallback_children Fallback children = children
fallback_children _ children = []

-- ---- Rows by what is kept of them

abbrev pub rule_test : List Rule → ℕ → Option Test
rule_test rules row = option_and_then (λ (rule : Rule). rule.test) (slice_get rules row)

abbrev pub rule_needs : List Rule → ℕ → List ℕ
rule_needs rules row = option_map_or (λ (rule : Rule). rule.needs) (slice_get rules row) []

abbrev pub rule_effects : List Rule → ℕ → List Set
rule_effects rules row = option_map_or (λ (rule : Rule). rule.effects) (slice_get rules row) []

-- whether the action of a template may turn a test true
abbrev pub is_achiever : List Rule → Option Test → Template → Bool
is_achiever rules test template = option_map_or (λ (own : Test). achieves own (rule_effects rules template.row)) test false

-- the templates that achieve a test, in order
abbrev pub achievers_by : List Rule → List Template → Option Test → List Template
achievers_by rules templates test = filter (is_achiever rules test) templates

-- .. for each row those of its test
abbrev pub all_achievers_by : List Rule → List Template → List (List Template)
all_achievers_by rules templates = map (λ (rule : Rule). achievers_by rules templates rule.test) rules

-- .. which are kept by row
abbrev pub achievers_at : List (List Template) → ℕ → List Template
achievers_at achievers row = option_map_or (λ (own : List Template). own) (slice_get achievers row) []

abbrev pub rule_achieves : List Rule → ℕ → ℕ → Bool
rule_achieves rules condition action = option_map_or (λ (test : Test). achieves test (rule_effects rules action)) (rule_test rules condition) false
