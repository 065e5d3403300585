-- What the rule of a node may answer, by what its children may answer.
use Rattle.std.specs.Prelude.{ℕ, ◌+◌, ◌-◌, pos, negsuc, List, [], ◌∷◌, length, codes, Bool, false, ◌&&◌, ◌||◌, not, if◌then◌else◌, nat_lt, Option, Some}
use Rattle.std.specs.List.{list_all, list_any}
use Rattle.std.specs.Ordering.{int_eq}
use Rattle.std.specs.Str.{bytes_eq}
use Rattle.spec_script.specs.declared.value.Value.TheVariants.{Int, Text}
use Rattle.spec_run.specs.declared.status.Answer.{Answer}
use Rattle.spec_run.specs.declared.status.Answer.TheVariants.{Running, Success, Failure, Skipped}
use Rattle.spec_tree.specs.declared.term.Kind.{Kind}
use Rattle.spec_tree.specs.declared.term.Kind.TheVariants.{Sequence, SequenceWithMemory, ReactiveSequence, Fallback, ReactiveFallback, Parallel, Switch, IfThenElse, WhileDoElse, RecoveryNode, PipelineSequence, RoundRobin, Inverter, ForceSuccess, ForceFailure, KeepRunningUntilFailure, Retry, Repeat, Timeout, Delay, RunOnce, RateController, AlwaysSuccess, AlwaysFailure, ScriptNode, ScriptCondition, Leaf}
use Rattle.spec_tree.specs.declared.term.Port.{Port}
use Rattle.spec_tree.specs.declared.term.PortValue.{PortValue}
use Rattle.spec_tree.specs.declared.term.PortValue.TheVariants.{Lit, Key}
use Rattle.spec_tree.specs.BuiltIns.{ports_of}
use Rattle.spec_dead.specs.declared.answers.Answers.{Answers}
use Rattle.spec_dead.specs.Answers.{any_answer, becoming, either, exchanged, may, no_answer, only, only_if, without}
use Rattle.spec_dead.specs.Reached.{all_end, all_flow, all_pass, always_selected, answers_at, given, is_zero, may_be_selected, may_recover}

-- what those children may answer that are reached, of children of which the first has this place
abbrev pub reached_answers : (ℕ → Bool) → ℕ → List Answers → Answers
reached_answers reached place [] = no_answer
reached_answers reached place (child ∷ children) =
    either (only_if (reached place) child) (reached_answers reached (place + 1) children)

-- ---- Sequences and Fallbacks

-- whether each child may be skipped
abbrev pub all_skip : List Answers → Bool
all_skip children = list_all (λ (child : Answers). child.skipped) children

-- whether the last child may be skipped
abbrev pub last_skips : List Answers → Bool
last_skips children = (answers_at children (length children - 1)).skipped

-- whether some child may answer RUNNING, or the answer after which its round goes on
abbrev pub some_seen : Answer → List Answers → Bool
some_seen goes children = list_any (λ (child : Answers). may goes child || child.running) children

-- A round ends at a child that is reached and does not let it go on. It gives the answer after which it goes on where
-- every child may let it go on, and some child is not skipped; and SKIPPED where this is said.
abbrev pub round_answers : Answer → Bool → List Answers → Answers
round_answers goes skips children =
    either (without Skipped (without goes (reached_answers (all_pass goes children) 0 children)))
    (either (only_if (all_pass goes children (length children) && some_seen goes children) (only goes)) (only_if skips (only Skipped)))

-- ---- Conditions with branches

-- a node of so many children at a condition that failed: its third child decides, and it fails where there is none
abbrev pub otherwise : ℕ → Answers → Answers
otherwise n third = if nat_lt 2 n then third else only Failure

-- RUNNING and SKIPPED of the condition, what the second child may answer after SUCCESS, and what comes after FAILURE
abbrev pub branch_answers : List Answers → Answers
branch_answers children =
    either (without Success (without Failure (answers_at children 0)))
    (either (only_if (answers_at children 0).success (answers_at children 1))
    (only_if (answers_at children 0).failure (otherwise (length children) (answers_at children 2))))

-- ---- Nav2's control nodes

-- a RecoveryNode gives what its first child may answer, and RUNNING of its second, where that is reached: SUCCESS of the
-- second leads back to the first, and after its FAILURE or SKIPPED the node fails, as after FAILURE of the first
abbrev pub recovery_answers : List Port → Answers → Answers → Answers
recovery_answers ports first second = either first (only_if (may_recover ports first && second.running) (only Running))

-- A PipelineSequence ends at a child that is reached and fails or is RUNNING. It succeeds where every child may let it go
-- on, and some child is not skipped; and it is skipped where all are.
abbrev pub pipeline_answers : List Answers → Answers
pipeline_answers children =
    either (without Skipped (without Success (reached_answers (all_flow children) 0 children)))
    (either (only_if (all_flow children (length children) && some_seen Success children) (only Success)) (only_if (all_skip children) (only Skipped)))

-- whether some child may fail
abbrev pub some_fails : List Answers → Bool
some_fails children = list_any (λ (child : Answers). child.failure) children

-- A RoundRobin ends at a child that is reached and succeeds or is RUNNING. It fails where every child may fail or be
-- skipped, and some child fails; and it is skipped where all are.
abbrev pub robin_answers : List Answers → Answers
robin_answers children =
    either (without Skipped (without Failure (reached_answers (all_end children) 0 children)))
    (either (only_if (all_pass Failure children (length children) && some_fails children) (only Failure)) (only_if (all_skip children) (only Skipped)))

-- ---- Decorators

-- a Retry or Repeat whose child may answer so, with its limit: without a limit RUNNING is given in place of the answer
-- after which the child is visited again; a key may hold no limit
abbrev pub turned : Answer → Option PortValue → Answers → Answers
turned again (Some (Lit (Int limit))) child = if int_eq limit (negsuc 0) then becoming again Running child else child
turned again (Some (Key key)) child = either child (becoming again Running child)
turned again _ child = child

-- whether a RunOnce with this `then_skip` never skips
abbrev pub never_skips : Option PortValue → Bool
never_skips (Some (Lit (Int n))) = int_eq n (pos 0)
never_skips (Some (Lit (Text text))) = bytes_eq text (codes "false")
never_skips _ = false

-- what the rule of a decorator or SubTree may answer, whose child may answer so
abbrev pub decorator_answers : Kind → List Port → Answers → Answers
decorator_answers Inverter ports child = exchanged child
decorator_answers ForceSuccess ports child = becoming Failure Success child
decorator_answers ForceFailure ports child = becoming Success Failure child
decorator_answers KeepRunningUntilFailure ports child = becoming Success Running child
decorator_answers Retry ports child = turned Failure (given ports (codes "num_attempts")) child
decorator_answers Repeat ports child = turned Success (given ports (codes "num_cycles")) child
decorator_answers Timeout ports child = either child (only_if (not (is_zero (given ports (codes "msec")))) (only Failure))
decorator_answers Delay ports child = either child (only_if (not (is_zero (given ports (codes "delay_msec")))) (only Running))
decorator_answers RunOnce ports child = either child (only_if (not (never_skips (given ports (codes "then_skip")))) (only Skipped))
decorator_answers RateController ports child = either child (only Running)
decorator_answers _ ports child = child

-- ---- All kinds

-- what the rule of a node of this kind may answer, with these ports and with children that may answer so
abbrev pub rule_answers : Kind → List Port → List Answers → Answers
rule_answers Sequence ports children = round_answers Success (all_skip children) children
rule_answers ReactiveSequence ports children = round_answers Success (all_skip children) children
rule_answers SequenceWithMemory ports children = round_answers Success (last_skips children) children
rule_answers Fallback ports children = round_answers Failure (all_skip children) children
rule_answers ReactiveFallback ports children = round_answers Failure (all_skip children) children
rule_answers Parallel ports children = any_answer
rule_answers (Switch cases) ports children = reached_answers (may_be_selected (always_selected (ports_of (Switch cases)) ports)) 0 children
rule_answers IfThenElse ports children = branch_answers children
rule_answers WhileDoElse ports children = branch_answers children
rule_answers RecoveryNode ports children = recovery_answers ports (answers_at children 0) (answers_at children 1)
rule_answers PipelineSequence ports children = pipeline_answers children
rule_answers RoundRobin ports children = robin_answers children
rule_answers AlwaysSuccess ports children = only Success
rule_answers ScriptNode ports children = only Success
rule_answers AlwaysFailure ports children = only Failure
rule_answers ScriptCondition ports children = either (only Success) (only Failure)
rule_answers Leaf ports children = without Skipped any_answer
rule_answers kind ports children = decorator_answers kind ports (answers_at children 0)
