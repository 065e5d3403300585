-- Which children the rule of a node may visit, by what they may answer.
use Rattle.std.specs.Prelude.{ℕ, zero, suc, ◌+◌, pos, List, [], ◌∷◌, codes, Bool, true, false, ◌&&◌, ◌||◌, not, if◌then◌else◌, nat_eq, slice_index_or, Option, Some, None}
use Rattle.std.specs.Ordering.{int_eq}
use Rattle.std.specs.Str.{bytes_eq}
use Rattle.spec_script.specs.declared.value.Value.TheVariants.{Int}
use Rattle.spec_run.specs.declared.status.Answer.{Answer}
use Rattle.spec_run.specs.declared.status.Answer.TheVariants.{Success, Failure, Skipped}
use Rattle.spec_tree.specs.declared.term.Kind.{Kind}
use Rattle.spec_tree.specs.declared.term.Kind.TheVariants.{Sequence, SequenceWithMemory, ReactiveSequence, Fallback, ReactiveFallback, Switch, IfThenElse, WhileDoElse, RecoveryNode, PipelineSequence, RoundRobin, AlwaysSuccess, AlwaysFailure, ScriptNode, ScriptCondition, Leaf}
use Rattle.spec_tree.specs.declared.term.Port.{Port}
use Rattle.spec_tree.specs.declared.term.PortValue.{PortValue}
use Rattle.spec_tree.specs.declared.term.PortValue.TheVariants.{Lit}
use Rattle.spec_tree.specs.Boards.{port_of}
use Rattle.spec_tree.specs.BuiltIns.{PortRule, ports_of}
use Rattle.spec_run.specs.Ports.{given_by, text_by}
use Rattle.spec_dead.specs.declared.answers.Answers.{Answers}
use Rattle.spec_dead.specs.Answers.{may, only}

-- what the child at a place may answer; none comes after the last child, and it would be skipped
abbrev pub answers_at : List Answers → ℕ → Answers
answers_at children place = slice_index_or children place (only Skipped)

-- whether something holds of what each child before a place may answer
abbrev pub all_before : (Answers → Bool) → List Answers → ℕ → Bool
all_before holds children zero = true
all_before holds children (suc place) = all_before holds children place && holds (answers_at children place)

-- ---- Sequences and Fallbacks

-- a child may let its round go on, which goes on after SKIPPED and after this answer
abbrev pub may_pass : Answer → Answers → Bool
may_pass goes child = may goes child || child.skipped

-- whether all children before a place may let the round go on
abbrev pub all_pass : Answer → List Answers → ℕ → Bool
all_pass goes children place = all_before (may_pass goes) children place

-- ---- Switch

-- the text of a port that is given a literal
abbrev pub literal_text : Option PortValue → Option (List ℕ)
literal_text (Some (Lit value)) = text_by (Some value)
literal_text _ = None

-- the text of the port of this name, where it is given a literal
abbrev pub literal_at : List Port → List ℕ → Option (List ℕ)
literal_at ports name = literal_text (given_by (port_of ports name))

-- the place of a text among cases of which the first has its text here, and the place of the text among the others here
abbrev pub place_among : Option (List ℕ) → List ℕ → Option ℕ → Option ℕ
place_among (Some case) text (Some later) = Some (if bytes_eq case text then 0 else later + 1)
place_among _ text _ = None

-- the place of the first of these cases that has this text, or the place after them; none where one of them is given a
-- key
abbrev pub literal_place : List PortRule → List Port → List ℕ → Option ℕ
literal_place [] ports text = Some 0
literal_place (case ∷ cases) ports text = place_among (literal_at ports case.name) text (literal_place cases ports text)

-- the child that is always selected among these cases by a variable of this text
abbrev pub selected_by : Option (List ℕ) → List PortRule → List Port → Option ℕ
selected_by (Some text) cases ports = literal_place cases ports text
selected_by None cases ports = None

-- the child that a Switch with such ports, of which the first is its variable, always selects: there is one where the
-- variable and all cases are given literals
abbrev pub always_selected : List PortRule → List Port → Option ℕ
always_selected [] ports = None
always_selected (variable ∷ cases) ports = selected_by (literal_at ports variable.name) cases ports

-- whether the child at a place may be selected, where this one always is
abbrev pub may_be_selected : Option ℕ → ℕ → Bool
may_be_selected None place = true
may_be_selected (Some only_one) place = nat_eq only_one place

-- ---- Conditions with branches

-- the condition, and a branch where the condition may answer so
abbrev pub branch_reached : Answers → ℕ → Bool
branch_reached condition zero = true
branch_reached condition (suc zero) = condition.success
branch_reached condition (suc (suc zero)) = condition.failure
branch_reached condition _ = false

-- ---- Nav2's control nodes

-- what the port of this name is given
abbrev pub given : List Port → List ℕ → Option PortValue
given ports name = given_by (port_of ports name)

-- whether a number is always 0
abbrev pub is_zero : Option PortValue → Bool
is_zero (Some (Lit (Int n))) = int_eq n (pos 0)
is_zero _ = false

-- whether a RecoveryNode of these ports, whose first child may answer so, may visit its second
abbrev pub may_recover : List Port → Answers → Bool
may_recover ports first = first.failure && not (is_zero (given ports (codes "number_of_retries")))

-- the first child of a RecoveryNode, and the second where the first may fail and a recovery may be left
abbrev pub recovery_reached : List Port → Answers → ℕ → Bool
recovery_reached ports first zero = true
recovery_reached ports first (suc zero) = may_recover ports first
recovery_reached ports first _ = false

-- a child may let its PipelineSequence go on, as RUNNING of a child does that is not the farthest
abbrev pub may_flow : Answers → Bool
may_flow child = may_pass Success child || child.running

-- whether all children of a PipelineSequence before a place may let it go on
abbrev pub all_flow : List Answers → ℕ → Bool
all_flow children place = all_before may_flow children place

-- whether a child may answer other than RUNNING
abbrev pub may_end : Answers → Bool
may_end child = child.success || child.failure || child.skipped

-- whether all children of a RoundRobin before a place may answer other than RUNNING
abbrev pub all_end : List Answers → ℕ → Bool
all_end children place = all_before may_end children place

-- ---- All kinds

-- whether a node of this kind, with these ports and with children that may answer so, may visit the child at a place
abbrev pub reaches : Kind → List Port → List Answers → ℕ → Bool
reaches Sequence ports children place = all_pass Success children place
reaches SequenceWithMemory ports children place = all_pass Success children place
reaches ReactiveSequence ports children place = all_pass Success children place
reaches Fallback ports children place = all_pass Failure children place
reaches ReactiveFallback ports children place = all_pass Failure children place
reaches (Switch cases) ports children place = may_be_selected (always_selected (ports_of (Switch cases)) ports) place
reaches IfThenElse ports children place = branch_reached (answers_at children 0) place
reaches WhileDoElse ports children place = branch_reached (answers_at children 0) place
reaches RecoveryNode ports children place = recovery_reached ports (answers_at children 0) place
reaches PipelineSequence ports children place = all_flow children place
reaches RoundRobin ports children place = all_end children place
reaches AlwaysSuccess ports children place = false
reaches AlwaysFailure ports children place = false
reaches ScriptNode ports children place = false
reaches ScriptCondition ports children place = false
reaches Leaf ports children place = false
reaches _ ports children place = true
