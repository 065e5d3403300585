-- What is looked up in the slab of a plan tree for conflicts and raises.
use Rattle.std.specs.Prelude.{ℕ, zero, suc, ◌-◌, ◌==◌, Bool, false, if◌then◌else◌, List, [], ◌∷◌, Option, Some, None, position}
use Rattle.std.specs.Option.{option_and_then, option_map_or, option_or}
use Rattle.slab.specs.Slab.{Slab, get}
use Rattle.spec_plan.specs.declared.domain.Test.{Test}
use Rattle.spec_plan.specs.Effects.{threatens}
use Rattle.plan_tree.specs.declared.node.Node.{Node}
use Rattle.spec_plan.specs.declared.part.Part.{Part}
use Rattle.spec_plan.specs.declared.part.Part.TheVariants.{Fallback, Condition}
use Rattle.plan_tree.specs.declared.rule.Rule.{Rule}
use Rattle.spec_plan.specs.Forests.{Ancestor, count, is_sequence}
use Rattle.plan_tree.specs.Growth.{rule_effects, rule_test}
use Rattle.spec_plan.specs.declared.head.Head.{Head}
use Rattle.plan_reorder.specs.declared.raising.Move.{Move}

-- ---- Heads

-- whether the action of the first row may turn the condition of the second one false
abbrev pub rule_threatens : List Rule → ℕ → ℕ → Bool
rule_threatens rules action condition = option_map_or (λ (test : Test). threatens (rule_effects rules action) test) (rule_test rules condition) false

-- a condition is its own head
abbrev pub condition_in : ℕ → Part → Option Head
condition_in key (Condition row) = Some (record { key = key; row = row })
condition_in key _ = None

abbrev pub condition_at : Slab Node → ℕ → Option Head
condition_at s key = option_and_then (λ (node : Node). condition_in key node.part) (get s key)

-- the first of some children, where it is a condition
abbrev pub first_child : Slab Node → List ℕ → Option Head
first_child s [] = None
first_child s (key ∷ keys) = condition_at s key

-- the head of a sequence's child
abbrev pub head_in : Slab Node → ℕ → Part → List ℕ → Option Head
head_in s key (Condition row) children = Some (record { key = key; row = row })
head_in s key Fallback children = first_child s children
head_in s key _ children = None

abbrev pub head_at : Slab Node → ℕ → Option Head
head_at s key = option_and_then (λ (node : Node). head_in s key node.part node.children.items) (get s key)

-- the key of a head that the action of this row threatens
abbrev pub threatened : List Rule → ℕ → Head → Option ℕ
threatened rules action head = if rule_threatens rules action head.row then Some head.key else None

abbrev pub threat_at : List Rule → Slab Node → ℕ → ℕ → Option ℕ
threat_at rules s action key = option_and_then (threatened rules action) (head_at s key)

-- the first threatened head of some children
abbrev pub first_threat : List Rule → Slab Node → ℕ → List ℕ → Option ℕ
first_threat rules s action [] = None
first_threat rules s action (key ∷ keys) = option_or (threat_at rules s action key) (first_threat rules s action keys)

-- the keys before this one
abbrev pub keys_before : ℕ → List ℕ → List ℕ
keys_before key [] = []
keys_before key (k ∷ keys) = if k == key then [] else k ∷ keys_before key keys

-- the first threatened head of the children of a sequence before this one
abbrev pub threat_in : List Rule → Slab Node → ℕ → ℕ → Node → Option ℕ
threat_in rules s action key node = if is_sequence node.part then first_threat rules s action (keys_before key node.children.items) else None

-- ---- Moves

-- the place of the left neighbour of a sequence's child
abbrev pub left_in : Bool → Option ℕ → Option ℕ
left_in sequence (Some (suc place)) = if sequence then Some place else None
left_in sequence _ = None

abbrev pub left_of : ℕ → Node → Option ℕ
left_of key node = left_in (is_sequence node.part) (position (λ (k : ℕ). k == key) node.children.items)

-- the move of the child on the way down and its left neighbour
abbrev pub move_in : Ancestor → Move
move_in a = record { parent = a.key; place = count a.before - 1 }

-- the element at this place and the next one change places
abbrev pub swapped : ℕ → List ℕ → List ℕ
swapped zero (a ∷ b ∷ rest) = b ∷ a ∷ rest
swapped (suc place) (a ∷ rest) = a ∷ swapped place rest
swapped place keys = keys
