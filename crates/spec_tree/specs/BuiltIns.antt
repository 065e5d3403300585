-- The built-in nodes: under which name each stands, which elements may write it by its ID, how many children
-- it has, which ports, and whether it has a script of its own.
use Rattle.std.specs.Prelude.{ℕ, ◌+◌, ◌*◌, pos, negsuc, int_le, List, [], ◌∷◌, length, take, Bool, true, false, ◌&&◌, ◌||◌, nat_eq, nat_le, if◌then◌else◌, codes, Option, Some, None, is_some}
use Rattle.std.specs.Ordering.{int_eq}
use Rattle.std.specs.Str.{bytes_eq}
use Rattle.spec_script.specs.declared.value.Value.{Value}
use Rattle.spec_script.specs.declared.value.Value.TheVariants.{Int, Text}
use Rattle.spec_tree.specs.Limits.{longest_duration, most_rate, most_recoveries, most_text_bytes, most_turns}
use Rattle.spec_tree.specs.Numbers.{thousandths_in}
use Rattle.spec_tree.specs.declared.built_ins.Class.{Class}
use Rattle.spec_tree.specs.declared.built_ins.Range.{Range}
use Rattle.spec_tree.specs.declared.built_ins.Range.TheVariants.{AnyValue, AnyInt, Turns, Duration, Truth, Recoveries, Rate}
use Rattle.spec_tree.specs.declared.term.Kind.{Kind}
use Rattle.spec_tree.specs.declared.term.Kind.TheVariants.{Sequence, SequenceWithMemory, ReactiveSequence, Fallback, ReactiveFallback, Parallel, Switch, IfThenElse, WhileDoElse, RecoveryNode, PipelineSequence, RoundRobin, Inverter, ForceSuccess, ForceFailure, KeepRunningUntilFailure, Retry, Repeat, Timeout, Delay, RunOnce, RateController, SubTree, AlwaysSuccess, AlwaysFailure, ScriptNode, ScriptCondition, Leaf}
use Rattle.spec_tree.specs.declared.built_ins.Class.TheVariants as class

-- the built-in nodes by their names
unfoldable pub named_kinds : List (List ℕ × Kind)
named_kinds =
    (codes "Sequence", Sequence)
    ∷ (codes "SequenceWithMemory", SequenceWithMemory)
    ∷ (codes "ReactiveSequence", ReactiveSequence)
    ∷ (codes "Fallback", Fallback)
    ∷ (codes "ReactiveFallback", ReactiveFallback)
    ∷ (codes "Parallel", Parallel)
    ∷ (codes "Switch2", Switch 2)
    ∷ (codes "Switch3", Switch 3)
    ∷ (codes "Switch4", Switch 4)
    ∷ (codes "Switch5", Switch 5)
    ∷ (codes "Switch6", Switch 6)
    ∷ (codes "IfThenElse", IfThenElse)
    ∷ (codes "WhileDoElse", WhileDoElse)
    ∷ (codes "RecoveryNode", RecoveryNode)
    ∷ (codes "PipelineSequence", PipelineSequence)
    ∷ (codes "RoundRobin", RoundRobin)
    ∷ (codes "Inverter", Inverter)
    ∷ (codes "ForceSuccess", ForceSuccess)
    ∷ (codes "ForceFailure", ForceFailure)
    ∷ (codes "KeepRunningUntilFailure", KeepRunningUntilFailure)
    ∷ (codes "RetryUntilSuccessful", Retry)
    ∷ (codes "Repeat", Repeat)
    ∷ (codes "Timeout", Timeout)
    ∷ (codes "Delay", Delay)
    ∷ (codes "RunOnce", RunOnce)
    ∷ (codes "RateController", RateController)
    ∷ (codes "AlwaysSuccess", AlwaysSuccess)
    ∷ (codes "AlwaysFailure", AlwaysFailure)
    ∷ (codes "Script", ScriptNode)
    ∷ (codes "ScriptCondition", ScriptCondition)
    ∷ []

-- the kind of this name in such a table
abbrev pub kind_among : List (List ℕ × Kind) → List ℕ → Option Kind
kind_among [] name = None
kind_among (row ∷ rows) name = if bytes_eq name row.0 then Some row.1 else kind_among rows name

-- the built-in node of this name
abbrev pub kind_named : List ℕ → Option Kind
kind_named name = kind_among named_kinds name

-- A port of a built-in node. Where it has a default, this stands for the port where it is not written; else the
-- port must be written.
pub record PortRule : Type 0 where
  pub name : List ℕ
  pub range : Range
  pub default : Option (List ℕ)

-- a port that must be written
abbrev pub required : List ℕ → Range → PortRule
required name range = record { name = name; range = range; default = None }

-- a port with a default
abbrev pub with_default : List ℕ → Range → List ℕ → PortRule
with_default name range text = record { name = name; range = range; default = Some text }

-- the variable and the cases of a Switch of six cases
unfoldable pub switch_ports : List PortRule
switch_ports =
    required (codes "variable") AnyValue
    ∷ required (codes "case_1") AnyValue
    ∷ required (codes "case_2") AnyValue
    ∷ required (codes "case_3") AnyValue
    ∷ required (codes "case_4") AnyValue
    ∷ required (codes "case_5") AnyValue
    ∷ required (codes "case_6") AnyValue
    ∷ []

-- the ports of each kind in their order; those of a SubTree and of a Leaf are not built in
abbrev pub ports_of : Kind → List PortRule
ports_of Parallel = with_default (codes "success_count") AnyInt (codes "-1") ∷ with_default (codes "failure_count") AnyInt (codes "1") ∷ []
ports_of (Switch cases) = take (cases + 1) switch_ports
ports_of Retry = required (codes "num_attempts") Turns ∷ []
ports_of Repeat = required (codes "num_cycles") Turns ∷ []
ports_of Timeout = required (codes "msec") Duration ∷ []
ports_of Delay = required (codes "delay_msec") Duration ∷ []
ports_of RunOnce = with_default (codes "then_skip") Truth (codes "true") ∷ []
ports_of RecoveryNode = with_default (codes "number_of_retries") Recoveries (codes "1") ∷ []
ports_of RateController = with_default (codes "hz") Rate (codes "10") ∷ []
ports_of _ = []

-- the class of each kind
abbrev pub class_of : Kind → Class
class_of Sequence = class.Control
class_of SequenceWithMemory = class.Control
class_of ReactiveSequence = class.Control
class_of Fallback = class.Control
class_of ReactiveFallback = class.Control
class_of Parallel = class.Control
class_of (Switch cases) = class.Control
class_of IfThenElse = class.Control
class_of WhileDoElse = class.Control
class_of RecoveryNode = class.Control
class_of PipelineSequence = class.Control
class_of RoundRobin = class.Control
class_of Inverter = class.Decorator
class_of ForceSuccess = class.Decorator
class_of ForceFailure = class.Decorator
class_of KeepRunningUntilFailure = class.Decorator
class_of Retry = class.Decorator
class_of Repeat = class.Decorator
class_of Timeout = class.Decorator
class_of Delay = class.Decorator
class_of RunOnce = class.Decorator
class_of RateController = class.Decorator
class_of SubTree = class.SubTree
class_of AlwaysSuccess = class.Leaf
class_of AlwaysFailure = class.Leaf
class_of ScriptNode = class.Leaf
class_of ScriptCondition = class.Leaf
class_of Leaf = class.Leaf

-- the classes with children
abbrev pub of_parent : Class → Bool
of_parent class.Control = true
of_parent class.Decorator = true
of_parent class.SubTree = true
of_parent class.Leaf = false

-- whether a node of this kind has children, and follows a rule over them
abbrev pub has_rule : Kind → Bool
has_rule kind = of_parent (class_of kind)

-- whether a node of this class may have so many children
abbrev pub takes_by : Class → ℕ → Bool
takes_by class.Control children = nat_le 1 children
takes_by class.Decorator children = nat_eq children 1
takes_by class.Leaf children = nat_eq children 0
takes_by class.SubTree children = nat_eq children 1

-- how many children a node of each kind may have: a SubTree node has the root of its tree, a decorator has one, and a
-- leaf has none
abbrev pub takes : Kind → ℕ → Bool
takes (Switch cases) children = nat_eq children (cases + 1)
takes IfThenElse children = nat_eq children 2 || nat_eq children 3
takes WhileDoElse children = nat_eq children 2 || nat_eq children 3
takes RecoveryNode children = nat_eq children 2
takes kind children = takes_by (class_of kind) children

-- whether a node has a script of its own, its code
abbrev pub has_code : Kind → Bool
has_code ScriptNode = true
has_code ScriptCondition = true
has_code _ = false

-- whether an element of this name writes a node of this class by its ID
abbrev pub writes : List ℕ → Class → Bool
writes name class.Control = bytes_eq name (codes "Control")
writes name class.Decorator = bytes_eq name (codes "Decorator")
writes name class.Leaf = bytes_eq name (codes "Action") || bytes_eq name (codes "Condition")
writes name class.SubTree = false

-- so many thousandths of a hertz, where a port may have this rate
abbrev pub rate_within : Option ℕ → Option ℕ
rate_within (Some rate) = if nat_le 1 rate && nat_le rate most_rate then Some rate else None
rate_within None = None

-- the rate that a value says, in thousandths of a hertz: a number says so many hertz, and a text may have a point
abbrev pub rate_of : Value → Option ℕ
rate_of (Int (pos hertz)) = rate_within (Some (1000 * hertz))
rate_of (Int (negsuc n)) = None
rate_of (Text text) = rate_within (thousandths_in text)

-- whether a literal is within a range: any value, any number, 1 to 1000 or -1, 0 to 4294967295, a truth value, 0 to
-- 1000, or a rate
abbrev pub fits : Range → Value → Bool
fits AnyValue (Int n) = true
fits AnyValue (Text text) = nat_le (length text) most_text_bytes
fits AnyInt (Int n) = true
fits AnyInt (Text text) = false
fits Turns (Int n) = int_eq n (negsuc 0) || int_le (pos 1) n && int_le n (pos most_turns)
fits Turns (Text text) = false
fits Duration (Int n) = int_le (pos 0) n && int_le n (pos longest_duration)
fits Duration (Text text) = false
fits Truth (Int n) = int_eq n (pos 0) || int_eq n (pos 1)
fits Truth (Text text) = bytes_eq text (codes "true") || bytes_eq text (codes "false")
fits Recoveries (Int n) = int_le (pos 0) n && int_le n (pos most_recoveries)
fits Recoveries (Text text) = false
fits Rate value = is_some (rate_of value)
