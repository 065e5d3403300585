-- What the walk over a tree asks of a kind of node, for private functions alone.
use Rattle.std.specs.Prelude.{ℕ, List, length, Bool, ◌&&◌, Option, None}
use Rattle.spec_run.specs.declared.status.Answer.{Answer}
use Rattle.spec_run.specs.declared.status.Answer.TheVariants.{Success, Failure, Skipped}
use Rattle.spec_tree.specs.declared.term.Kind.{Kind}
use Rattle.spec_tree.specs.declared.term.Kind.TheVariants.{Fallback, ReactiveFallback, Switch, PipelineSequence, RoundRobin}
use Rattle.spec_tree.specs.declared.term.Port.{Port}
use Rattle.spec_tree.specs.BuiltIns.{ports_of}
use Rattle.spec_dead.specs.declared.answers.Answers.{Answers}
use Rattle.spec_dead.specs.Answers.{either, only, only_if, without}
use Rattle.spec_dead.specs.Reached.{all_before, always_selected, may_end, may_flow, may_pass}
use Rattle.spec_dead.specs.Rules.{reached_answers, some_seen}

-- the answer after which a round of this kind of node goes on
abbrev pub goes_of : Kind → Answer
goes_of Fallback = Failure
goes_of ReactiveFallback = Failure
goes_of _ = Success

-- whether a child that may answer so may let a node of this kind go on to the child after it
abbrev pub lets_on : Kind → Answers → Bool
lets_on Fallback = may_pass Failure
lets_on ReactiveFallback = may_pass Failure
lets_on PipelineSequence = may_flow
lets_on RoundRobin = may_end
lets_on _ = may_pass Success

-- what a node of this kind may answer that visits its children in a round, where it is known whether it may be skipped
abbrev pub rounded : Kind → Bool → List Answers → Answers
rounded kind skips children =
    either (without Skipped (without (goes_of kind) (reached_answers (all_before (lets_on kind) children) 0 children)))
    (either (only_if (all_before (lets_on kind) children (length children) && some_seen (goes_of kind) children) (only (goes_of kind)))
    (only_if skips (only Skipped)))

-- the child that a node always selects, where it is a Switch and there is one
abbrev pub selected_of : Kind → List Port → Option ℕ
selected_of (Switch cases) ports = always_selected (ports_of (Switch cases)) ports
selected_of _ ports = None
