-- The table of the built-in nodes, row by row.
use Rattle.std.specs.Prelude.{ℕ, List, Bool, true, false, option_map}
use Rattle.std.specs.Borrow.{Bor}
use Rattle.spec_tree.specs.declared.built_ins.Class.{Class}
use Rattle.base_tables.specs.declared.built_ins.PortRule.{PortRule as Row}
use Rattle.spec_tree.specs.declared.term.Kind.{Kind}
use Rattle.spec_tree.specs.declared.term.Kind.TheVariants.{SubTree, Leaf}
use Rattle.spec_tree.specs.BuiltIns.{PortRule, class_of}
use Rattle.spec_tree.specs.declared.built_ins.Class.TheVariants as class

-- the class of control nodes
abbrev pub of_control : Class → Bool
of_control class.Control = true
of_control class.Decorator = false
of_control class.SubTree = false
of_control class.Leaf = false

-- the classes with one child
abbrev pub of_decorator : Class → Bool
of_decorator class.Control = false
of_decorator class.Decorator = true
of_decorator class.SubTree = true
of_decorator class.Leaf = false

-- whether a kind is a control node
abbrev pub is_control : Kind → Bool
is_control kind = of_control (class_of kind)

-- whether a kind is a decorator, or a SubTree
abbrev pub is_decorator : Kind → Bool
is_decorator kind = of_decorator (class_of kind)

-- a port and a name as the code's tables have them
abbrev pub rule_seen : Row → PortRule
rule_seen row = record { name = row.name.now; range = row.range; default = option_map (λ text. text.now) row.default }

-- a row of the table of names, as the definition has it
abbrev pub row_seen : Bor (List ℕ) × Kind → List ℕ × Kind
row_seen row = (row.0.now, row.1)
