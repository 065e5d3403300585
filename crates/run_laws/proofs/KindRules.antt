-- The rule of every kind with children keeps the rules of states.
use Rattle.std.proofs.Common.{◌≡◌, ℕ, ◌+◌, ◌-◌, ◌≤◌, List, length, Bool, true, false, Option, Some, None, Result, Ok, Err, IfOk, refl, sym, subst, ◌∙◌, arith}
use Rattle.std.proofs.lemmas.List.{length-map}
use Rattle.std.specs.Prelude.{codes}
use Rattle.spec_run.specs.declared.fault.NumericPort.{NumericPort}
use Rattle.spec_run.specs.declared.fault.NumericPort.TheVariants as port
use Rattle.spec_run.specs.declared.memory.Memo.{Memo}
use Rattle.spec_run.specs.declared.memory.Memo.TheVariants.{Nothing, Index, Chosen, Finished, Counts as Counted, Turns as Turned, Since as Begun, Recoveries as Recovering, Rotation as Rotating, Pace as Paced}
use Rattle.spec_run.specs.declared.memory.Memory.{Memory}
use Rattle.spec_run.specs.declared.status.Answer.TheVariants as answer
use Rattle.spec_run.specs.declared.status.Status.{Status}
use Rattle.spec_tree.specs.declared.term.Kind.{Kind}
use Rattle.spec_tree.specs.declared.term.Kind.TheVariants.{Sequence, SequenceWithMemory, ReactiveSequence, Fallback, ReactiveFallback, Parallel, Switch, IfThenElse, WhileDoElse, RecoveryNode, PipelineSequence, RoundRobin, Inverter, ForceSuccess, ForceFailure, KeepRunningUntilFailure, Retry, Repeat, Timeout, Delay, RunOnce, RateController, SubTree, Leaf}
use Rattle.spec_tree.specs.declared.term.Port.{Port}
use Rattle.spec_tree.specs.declared.term.Term.{Term-F}
use Rattle.spec_world.specs.declared.world.Row.{Row}
use Rattle.spec_run.specs.Done.{Done, State, ends, follow}
use Rattle.spec_run.specs.Ports.{is_negative, new_memo, number_at, picked}
use Rattle.spec_run.specs.Rules.OneVisit.{as_it_is, forced, inverted}
use Rattle.spec_run.specs.Rules.Kinds.{rule}
use Rattle.spec_run.specs.Rules.Parallels.{parallel}
use Rattle.spec_run.specs.Rules.RoundRobins.{rotation_at, rotation_of, round_robin}
use Rattle.spec_run.specs.Rules.Sequences.{index_of}
use Rattle.base_tables.specs.Shapes.{AllIdle, PacedChild, RestingShape, RunningShape, Shape, StandsAt}
use Rattle.spec_run.specs.Sites.{Site, View, children_of, view_below}
use Rattle.base_tables.specs.Sound.{statuses}
use Rattle.spec_run.specs.Steps.{Given}
use Rattle.spec_run.specs.Visit.{kind_rule, or_bad_port, starts, status_of}
use Rattle.run_laws.proofs.Parts.{left_into, within_same}
use Rattle.run_laws.proofs.Children.{Family, SoundAll, all_move, size_all}
use Rattle.run_laws.proofs.Acts.{as_many_statuses}
use Rattle.run_laws.proofs.Nodes.{Goes, Node}
use Rattle.run_laws.proofs.Rounds.{StartsAt, memory_goes, reactive_goes, sequence_goes}
use Rattle.run_laws.proofs.Parallels.{parallel_goes}
use Rattle.run_laws.proofs.Choices.{OthersIdle, if_then_else_goes, if_then_else_starts, switch_goes, switch_starts, while_do_else_goes}
use Rattle.run_laws.proofs.Decorators.{child_goes, delay_goes, failure_runs, idle_none_completed, inverted_runs, keep_running_goes, run_once_goes, run_once_starts, success_runs, timeout_goes}
use Rattle.run_laws.proofs.Turning.{turns_go}
use Rattle.run_laws.proofs.Recovering.{recovery_goes}
use Rattle.run_laws.proofs.Pipelines.{pipeline_goes}
use Rattle.run_laws.proofs.RoundRobins.{robin_goes}
use Rattle.run_laws.proofs.Rates.{rate_goes}
use Rattle.spec_tree.specs.BuiltIns.{has_rule}
use Rattle.run_laws.proofs.Beginnings.{Begins, Ruled, site_here}
use Rattle.run_laws.proofs.Starts.{pace_begins, parallel_begins, recoveries_begin, since_begins, turns_begin}

-- ---- From RUNNING

begins_where_it_stands : (place : ℕ) (ss : List Status) → StandsAt place ss → StartsAt place ss
begins_where_it_stands place ss stands = record { before = stands.before; following = stands.following }

-- the child of a RateController is the only one that may be RUNNING, and where it is not due it is IDLE
only_paced : (due : Bool) (ss : List Status) → PacedChild due ss → OthersIdle 0 ss
only_paced true ss child = child.others
only_paced false ss child = λ k other. child k (omega arith)

idle_where_not_due : (due : Bool) (ss : List Status) → PacedChild due ss → due ≡ false → AllIdle ss
idle_where_not_due true ss child e = cc
idle_where_not_due false ss child e = child

pub running_begins : (kind : Kind) (ports : List Port) (row : Option Row) (moment : ℕ) (memo : Memo) (ss : List Status) → has_rule kind ≡ true → RunningShape kind ports row moment memo ss → Begins kind ports moment memo ss
running_begins Sequence ports row moment (Index at true) ss e shape = begins_where_it_stands at ss shape
running_begins Fallback ports row moment (Index at true) ss e shape = begins_where_it_stands at ss shape
running_begins SequenceWithMemory ports row moment (Index at true) ss e shape = begins_where_it_stands at ss shape
running_begins ReactiveSequence ports row moment (Index at true) ss e shape = tt
running_begins ReactiveFallback ports row moment (Index at true) ss e shape = tt
running_begins Parallel ports row moment (Counted c) ss e shape = shape
running_begins (Switch cases) ports row moment (Chosen (Some place)) ss e shape = shape
running_begins IfThenElse ports row moment (Chosen None) ss e shape = λ k from. shape.others k (λ same. absurd (omega (arith, same, from)))
running_begins IfThenElse ports row moment (Chosen (Some place)) ss e shape = shape
running_begins WhileDoElse ports row moment Nothing ss e shape = shape
running_begins RecoveryNode ports row moment (Recovering r) ss e shape = (shape.0, shape.1.others)
running_begins PipelineSequence ports row moment (Index at true) ss e shape = shape.following
running_begins RoundRobin ports row moment (Rotating r) ss e shape = ((λ some. shape.0), shape.1.others)
running_begins SubTree ports row moment Nothing ss e shape = shape
running_begins Inverter ports row moment Nothing ss e shape = shape
running_begins ForceSuccess ports row moment Nothing ss e shape = shape
running_begins ForceFailure ports row moment Nothing ss e shape = shape
running_begins KeepRunningUntilFailure ports row moment Nothing ss e shape = shape
running_begins Retry ports row moment (Turned t) ss e shape = shape
running_begins Repeat ports row moment (Turned t) ss e shape = shape
running_begins Timeout ports row moment (Begun since) ss e shape = shape
running_begins Delay ports row moment (Begun since) ss e shape = shape
running_begins RunOnce ports row moment (Finished None) ss e shape = shape
running_begins RateController ports row moment (Paced p) ss e shape = (shape.0, only_paced p.due ss shape.1, idle_where_not_due p.due ss shape.1)
running_begins Leaf ports row moment Nothing ss e shape = cc
running_begins _ ports row moment _ ss e shape = absurd shape

-- ---- From a start

-- the children of a node that is not RUNNING are IDLE, except those of a SequenceWithMemory
abbrev pub rests_whole : Kind → Bool
rests_whole SequenceWithMemory = false
rests_whole kind = true

pub rests_idle : (ports : List Port) (moment : ℕ) (memo : Memo) (kind : Kind) (ss : List Status) → rests_whole kind ≡ true → RestingShape ports moment memo kind ss → AllIdle ss
rests_idle ports moment Nothing kind ss e shape = shape
rests_idle ports moment (Index at false) SequenceWithMemory ss e shape = cc
rests_idle ports moment (Finished (Some a)) RunOnce ss e shape = shape.1
rests_idle ports moment (Rotating r) RoundRobin ss e shape = shape.2
rests_idle ports moment (Paced p) RateController ss e shape = shape.2
rests_idle ports moment _ kind ss e shape = absurd shape

from_first : (ss : List Status) → AllIdle ss → StartsAt 0 ss
from_first ss idle = record { before = λ k below. absurd (omega (arith, below)); following = λ k from. idle k (omega arith) }

from_index : (ports : List Port) (moment : ℕ) (old : Memo) (ss : List Status) → RestingShape ports moment old SequenceWithMemory ss → StartsAt (index_of old) ss
from_index ports moment Nothing ss shape = from_first ss shape
from_index ports moment (Index at false) ss shape = record { before = shape.1; following = λ k from. shape.2 k (omega (arith, from)) }
from_index ports moment (Finished (Some a)) ss shape = absurd shape
from_index ports moment _ ss shape = absurd shape

-- a RoundRobin begins with the child that was at hand
rotation_begins : (ports : List Port) (moment : ℕ) (ss : List Status) (place : ℕ) → (1 ≤ length ss → place + 1 ≤ length ss) → AllIdle ss → Begins RoundRobin ports moment (Rotating (rotation_at place)) ss
rotation_begins ports moment ss place there idle = ((λ some. record { at = omega (arith, there some); passed = some; skipped = omega arith }), λ k other. idle k (omega arith))

from_rotation : (ports : List Port) (moment : ℕ) (old : Memo) (ss : List Status) → RestingShape ports moment old RoundRobin ss → Begins RoundRobin ports moment (Rotating (rotation_at (rotation_of old).at)) ss
from_rotation ports moment Nothing ss shape = rotation_begins ports moment ss 0 (λ some. some) shape
from_rotation ports moment (Rotating r) ss shape = rotation_begins ports moment ss r.at (λ some. omega (arith, shape.0)) shape.2
from_rotation ports moment (Index at false) ss shape = absurd shape
from_rotation ports moment (Finished (Some a)) ss shape = absurd shape
from_rotation ports moment _ ss shape = absurd shape

-- a RateController goes on with its pace, or begins one
from_pace : (site : Site) (old : Memo) (s : State) (ss : List Status) → RestingShape site.node.ports s.moment old RateController ss → IfOk (new_memo RateController site old s) (λ memo. Begins RateController site.node.ports s.moment memo ss)
from_pace site Nothing s ss shape = pace_begins site s (λ memo. Begins RateController site.node.ports s.moment memo ss) (λ rate paced. (paced, (λ k other. shape k (omega arith)), λ e. shape))
from_pace site (Paced p) s ss shape = (shape.0, (λ k other. shape.2 k (omega arith)), λ e. shape.2)
from_pace site (Index at false) s ss shape = absurd shape
from_pace site (Finished (Some a)) s ss shape = absurd shape
from_pace site _ s ss shape = absurd shape

module _ (site : Site) (old : Memo) (s : State) (ss : List Status) (all : length site.node.children ≡ length ss) where
  abbrev Started : Kind → Type 0
  Started kind = IfOk (new_memo kind site old s) (λ memo. Begins kind site.node.ports s.moment memo ss)

  rests : (kind : Kind) → rests_whole kind ≡ true → RestingShape site.node.ports s.moment old kind ss → AllIdle ss
  rests kind whole shape = rests_idle site.node.ports s.moment old kind ss whole shape

  pub starts_begin : (kind : Kind) → has_rule kind ≡ true → RestingShape site.node.ports s.moment old kind ss → Started kind
  starts_begin Sequence e shape = from_first ss (rests Sequence refl shape)
  starts_begin Fallback e shape = from_first ss (rests Fallback refl shape)
  starts_begin SequenceWithMemory e shape = from_index site.node.ports s.moment old ss shape
  starts_begin ReactiveSequence e shape = tt
  starts_begin ReactiveFallback e shape = tt
  starts_begin Parallel e shape =
      parallel_begins (length site.node.children) (number_at site s (codes "success_count")) (number_at site s (codes "failure_count")) (is_negative (number_at site s (codes "success_count"))) ss
      (λ memo. Begins Parallel site.node.ports s.moment memo ss) all (rests Parallel refl shape) (λ c counted. counted)
  starts_begin (Switch cases) e shape = rests (Switch cases) refl shape
  starts_begin IfThenElse e shape = λ k from. rests IfThenElse refl shape k (omega arith)
  starts_begin Retry e shape =
      turns_begin port.NumAttempts site s (codes "num_attempts") (λ memo. Begins Retry site.node.ports s.moment memo ss) (λ k turned. (turned, idle_none_completed ss (rests Retry refl shape)))
  starts_begin Repeat e shape =
      turns_begin port.NumCycles site s (codes "num_cycles") (λ memo. Begins Repeat site.node.ports s.moment memo ss) (λ k turned. (turned, idle_none_completed ss (rests Repeat refl shape)))
  starts_begin Timeout e shape =
      since_begins port.Msec site s (codes "msec") (λ memo. Begins Timeout site.node.ports s.moment memo ss) (λ k begun. (begun, idle_none_completed ss (rests Timeout refl shape)))
  starts_begin Delay e shape =
      since_begins port.DelayMsec site s (codes "delay_msec") (λ memo. Begins Delay site.node.ports s.moment memo ss) (λ k begun. (begun, idle_none_completed ss (rests Delay refl shape)))
  starts_begin RunOnce e shape = idle_none_completed ss (rests RunOnce refl shape)
  starts_begin WhileDoElse e shape = idle_none_completed ss (rests WhileDoElse refl shape)
  starts_begin SubTree e shape = idle_none_completed ss (rests SubTree refl shape)
  starts_begin Inverter e shape = idle_none_completed ss (rests Inverter refl shape)
  starts_begin ForceSuccess e shape = idle_none_completed ss (rests ForceSuccess refl shape)
  starts_begin ForceFailure e shape = idle_none_completed ss (rests ForceFailure refl shape)
  starts_begin KeepRunningUntilFailure e shape = idle_none_completed ss (rests KeepRunningUntilFailure refl shape)
  starts_begin RecoveryNode e shape =
      recoveries_begin site s (λ memo. Begins RecoveryNode site.node.ports s.moment memo ss) (λ k recovering. (recovering, λ j other. rests RecoveryNode refl shape j (omega arith)))
  starts_begin PipelineSequence e shape = λ k from. rests PipelineSequence refl shape k (omega arith)
  starts_begin RoundRobin e shape = from_rotation site.node.ports s.moment old ss shape
  starts_begin RateController e shape = from_pace site old s ss shape
  starts_begin _ e shape = cc

-- ---- Without a start

-- a RunOnce with a mark does not start
pub kept_begins : (kind : Kind) (ports : List Port) (moment : ℕ) (memo : Memo) (ss : List Status) → has_rule kind ≡ true → starts kind memo ≡ false → RestingShape ports moment memo kind ss → Begins kind ports moment memo ss
kept_begins RunOnce ports moment (Finished (Some a)) ss e none shape = shape
kept_begins _ ports moment _ ss e none shape = cc

-- ---- The rule

module _ (n : Node) (children picked : ℕ) (ss : List Status) (all : children ≡ length ss) where
  kind_goes : (kind : Kind) (memo : Memo) → Begins kind n.ports n.moment memo ss → Goes n kind ss (rule kind children memo picked n.moment)
  kind_goes Sequence (Index at seen) begins = sequence_goes n Sequence answer.Success refl (λ place ss1 stands. stands) (children - at) at seen ss begins
  kind_goes Fallback (Index at seen) begins = sequence_goes n Fallback answer.Failure refl (λ place ss1 stands. stands) (children - at) at seen ss begins
  kind_goes SequenceWithMemory (Index at seen) begins = memory_goes n (children - at) at seen ss begins
  kind_goes ReactiveSequence (Index at seen) begins = reactive_goes n ReactiveSequence answer.Success refl (λ place ss1 runs. runs) children 0 false ss
  kind_goes ReactiveFallback (Index at seen) begins = reactive_goes n ReactiveFallback answer.Failure refl (λ place ss1 runs. runs) children 0 false ss
  kind_goes Parallel (Counted c) begins = subst (λ (k : ℕ). Goes n Parallel ss (parallel k k 0 c)) (sym all) (parallel_goes n c ss begins)
  kind_goes (Switch cases) (Chosen None) begins = switch_starts n cases picked ss begins
  kind_goes (Switch cases) (Chosen (Some kept)) begins = switch_goes n cases kept picked ss begins
  kind_goes IfThenElse (Chosen None) begins = if_then_else_starts n children ss begins
  kind_goes IfThenElse (Chosen (Some place)) begins = if_then_else_goes n children place ss begins
  kind_goes WhileDoElse Nothing begins = while_do_else_goes n children ss begins
  kind_goes RecoveryNode (Recovering r) begins = recovery_goes n r ss begins.0 begins.1
  kind_goes PipelineSequence (Index at seen) begins = pipeline_goes n at children ss begins
  kind_goes RoundRobin (Rotating r) begins = subst (λ (k : ℕ). Goes n RoundRobin ss (round_robin k r)) (sym all) (robin_goes n (length ss) r ss refl begins.0 begins.1)
  kind_goes SubTree Nothing begins = child_goes n SubTree Nothing (λ ss1 none. none) as_it_is ss (λ a is. is) begins
  kind_goes Inverter Nothing begins = child_goes n Inverter Nothing (λ ss1 none. none) inverted ss inverted_runs begins
  kind_goes ForceSuccess Nothing begins = child_goes n ForceSuccess Nothing (λ ss1 none. none) (forced answer.Success) ss success_runs begins
  kind_goes ForceFailure Nothing begins = child_goes n ForceFailure Nothing (λ ss1 none. none) (forced answer.Failure) ss failure_runs begins
  kind_goes KeepRunningUntilFailure Nothing begins = keep_running_goes n ss begins
  kind_goes Retry (Turned t) begins = turns_go n Retry (codes "num_attempts") answer.Failure refl (λ t1 ss1 turned none. (turned, none)) t ss begins.0 begins.1
  kind_goes Repeat (Turned t) begins = turns_go n Repeat (codes "num_cycles") answer.Success refl (λ t1 ss1 turned none. (turned, none)) t ss begins.0 begins.1
  kind_goes Timeout (Begun since) begins = timeout_goes n since n.moment ss begins.0 begins.1
  kind_goes Delay (Begun since) begins = delay_goes n since n.moment ss begins.0 begins.1
  kind_goes RunOnce (Finished None) begins = run_once_starts n picked ss begins
  kind_goes RunOnce (Finished (Some a)) begins = run_once_goes n a picked ss begins.0 begins.1
  kind_goes RateController (Paced p) begins = rate_goes n p begins.0 ss begins.1 begins.2
  kind_goes _ _ begins = absurd begins

module _ (F : Family) (node : Term-F F.Child) (view : View) (uid : ℕ) (row : Option Row) (memo : Memo) (ms : List Memory) (s : State)
    (sound : SoundAll F view.rows node.children None (uid + 1) ms s) where
  abbrev here : Site
  here = site_here F node view uid

  -- the node with its children, at this time
  abbrev above : Node
  above = record { family = F; view = view_below here; children = node.children; first = uid + 1; ports = node.ports; row = row; moment = s.moment }

  many : length here.node.children ≡ length (statuses ms)
  many = length-map node.children F.meaning ∙ sym (as_many_statuses F (view_below here) node.children (uid + 1) ms s sound)

  -- after the pick the rule of the kind is applied
  followed : (place : ℕ) → Begins node.kind node.ports s.moment memo (statuses ms) → Ruled F node view uid row s (rule node.kind (length here.node.children) memo place s.moment (children_of here) ms s)
  followed place begins =
      let d : Done Given (List Memory) = rule node.kind (length here.node.children) memo place s.moment (children_of here) ms s in
      left_into uid (1 + size_all F node.children) (uid + 1) (size_all F node.children) s d.answer d.memory d.memory d.state (omega arith) (omega arith)
      (kind_goes above (length here.node.children) place (statuses ms) many node.kind memo begins ms s refl sound)
      (λ f all w. all)
      (λ g fits all w. (subst (λ (now : ℕ). Shape (status_of g.answer) node.kind node.ports row now g.memo (statuses d.memory)) (sym w.moment) fits, w.below uid (omega arith)))

  ruled_with : (r : Result ℕ NumericPort) → Begins node.kind node.ports s.moment memo (statuses ms) →
      Ruled F node view uid row s (follow (ends (or_bad_port uid r) ms s) (λ ms1. ms1) (λ place ms1 s1. rule node.kind (length here.node.children) memo place s1.moment (children_of here) ms1 s1))
  ruled_with (Ok place) begins = followed place begins
  ruled_with (Err bad) begins = record {
    sound = all_move F view.rows node.children (Some uid) (uid + 1) ms s s sound (λ p a b. refl) (omega arith);
    within = within_same uid (1 + size_all F node.children) s;
    ends = (omega arith, omega arith);
  }

  -- the rule of a node of any kind with children
  pub kind_rule_leaves : Begins node.kind node.ports s.moment memo (statuses ms) → Ruled F node view uid row s (kind_rule here memo ms s)
  kind_rule_leaves begins = ruled_with (picked node.kind here memo s) begins
