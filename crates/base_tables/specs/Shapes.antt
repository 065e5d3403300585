-- What the status and the memo of a node and the statuses of its children may be together, kind by kind.
use Rattle.std.specs.Prelude.{ℕ, ℤ, pos, negsuc, ◌+◌, ◌<◌, ◌≤◌, ◌≡◌, List, length, slice_index_or, codes, Bool, true, false, count_by, IsTrue, Option, Some, None}
use Rattle.spec_script.specs.declared.value.Value.TheVariants.{Int}
use Rattle.spec_tree.specs.declared.built_ins.Range.{Range}
use Rattle.spec_tree.specs.declared.built_ins.Range.TheVariants as range
use Rattle.spec_run.specs.declared.memory.Counts.{Counts}
use Rattle.spec_run.specs.declared.memory.Memo.{Memo}
use Rattle.spec_run.specs.declared.memory.Memo.TheVariants.{Nothing, Index, Chosen, Finished, Counts as Counted, Turns as Turned, Since as Begun, Recoveries as Recovering, Rotation as Rotating, Pace as Paced}
use Rattle.spec_run.specs.declared.memory.Pace.{Pace}
use Rattle.spec_run.specs.declared.memory.Recoveries.{Recoveries}
use Rattle.spec_run.specs.declared.memory.Rotation.{Rotation}
use Rattle.spec_run.specs.declared.memory.Since.{Since}
use Rattle.spec_run.specs.declared.memory.Turns.{Turns}
use Rattle.spec_run.specs.declared.status.Answer.{Answer}
use Rattle.spec_run.specs.declared.status.Answer.TheVariants as answer
use Rattle.spec_run.specs.declared.status.Status.{Status}
use Rattle.spec_run.specs.declared.status.Status.TheVariants.{Idle, Running, Success, Failure}
use Rattle.spec_tree.specs.declared.term.Kind.{Kind}
use Rattle.spec_tree.specs.declared.term.Kind.TheVariants.{Sequence, SequenceWithMemory, ReactiveSequence, Fallback, ReactiveFallback, Parallel, Switch, IfThenElse, WhileDoElse, RecoveryNode, PipelineSequence, RoundRobin, Inverter, ForceSuccess, ForceFailure, KeepRunningUntilFailure, Retry, Repeat, Timeout, Delay, RunOnce, RateController, SubTree, Leaf}
use Rattle.spec_tree.specs.declared.term.Port.{Port}
use Rattle.spec_tree.specs.declared.term.PortValue.{PortValue}
use Rattle.spec_tree.specs.declared.term.PortValue.TheVariants.{Lit, Key}
use Rattle.spec_world.specs.declared.world.Row.{Row}
use Rattle.spec_world.specs.declared.world.RowSort.{RowSort}
use Rattle.spec_world.specs.declared.world.RowSort.TheVariants.{Timed, TimedBy, Replay, Gate, Told}
use Rattle.spec_tree.specs.Boards.{port_of}
use Rattle.spec_tree.specs.BuiltIns.{fits, rate_of}
use Rattle.base_tables.specs.Moves.{place_at_hand}
use Rattle.spec_run.specs.Ports.{given_by}
use Rattle.spec_run.specs.Rules.Parallels.{failure_holds, success_holds}
use Rattle.spec_run.specs.Rules.RoundRobins.{rotation_at}
use Rattle.spec_run.specs.Steps.{is_completed}

-- whether a status is RUNNING
abbrev pub is_running : Status → Bool
is_running Running = true
is_running _ = false

-- whether a status is SUCCESS
abbrev pub is_success : Status → Bool
is_success Success = true
is_success _ = false

-- whether a status is FAILURE
abbrev pub is_failure : Status → Bool
is_failure Failure = true
is_failure _ = false

-- ---- Patterns of statuses

-- the status of the child at a place; none comes after the last child
abbrev pub status_at : List Status → ℕ → Status
status_at ss place = slice_index_or ss place Idle

-- the children from this place on are IDLE
abbrev pub IdleFrom : ℕ → List Status → Type 0
IdleFrom first ss = (k : ℕ) → first ≤ k → status_at ss k ≡ Idle

-- all children are IDLE
abbrev pub AllIdle : List Status → Type 0
AllIdle ss = IdleFrom 0 ss

-- no child before this place is RUNNING
abbrev pub NoneRunsBefore : ℕ → List Status → Type 0
NoneRunsBefore place ss = (k : ℕ) → k < place → is_running (status_at ss k) ≡ false

-- the child at this place is RUNNING, those after it are IDLE, and none before it is RUNNING
pub record StandsAt (place : ℕ) (ss : List Status) : Type 0 where
  pub runs : status_at ss place ≡ Running
  pub before : NoneRunsBefore place ss
  pub following : IdleFrom (place + 1) ss

-- the child at this place is RUNNING, and the others are IDLE
pub record OneRuns (place : ℕ) (ss : List Status) : Type 0 where
  pub runs : status_at ss place ≡ Running
  pub others : (k : ℕ) → (k ≡ place → ⊥) → status_at ss k ≡ Idle

-- the child at this place is RUNNING, and those after it are IDLE
pub record FarthestRuns (place : ℕ) (ss : List Status) : Type 0 where
  pub runs : status_at ss place ≡ Running
  pub following : IdleFrom (place + 1) ss

-- each child is IDLE or RUNNING
abbrev pub NoneCompleted : List Status → Type 0
NoneCompleted ss = (k : ℕ) → is_completed (status_at ss k) ≡ false

-- the branch at this place is RUNNING, the condition has completed, and the other branch is IDLE
pub record BranchRuns (place : ℕ) (ss : List Status) : Type 0 where
  pub is_branch : 1 ≤ place
  pub runs : status_at ss place ≡ Running
  pub condition : is_completed (status_at ss 0) ≡ true
  pub others : (k : ℕ) → 1 ≤ k → (k ≡ place → ⊥) → status_at ss k ≡ Idle

-- ---- Memos

-- both thresholds lie in 1 to the number of children, the counts are those of the children, and no threshold is
-- reached
pub record IsCounted (c : Counts) (ss : List Status) : Type 0 where
  pub need : (1 ≤ c.need) × (c.need ≤ length ss)
  pub most : (1 ≤ c.most) × (c.most ≤ length ss)
  pub successes : c.successes ≡ count_by is_success ss
  pub failures : c.failures ≡ count_by is_failure ss
  pub skipped : c.skipped ≡ 0
  pub goes_on : (success_holds c ≡ false) × (failure_holds (length ss) c ≡ false)

-- a number that a port is given: its literal, or for a key one of the port's range
abbrev pub IsGiven : Range → Option PortValue → ℤ → Type 0
IsGiven r (Some (Lit value)) n = value ≡ Int n
IsGiven r (Some (Key key)) n = IsTrue (fits r (Int n))
IsGiven r None n = ⊥

-- a number that the port of this name is given
abbrev pub IsGivenAt : Range → List Port → List ℕ → ℤ → Type 0
IsGivenAt r ports name n = IsGiven r (given_by (port_of ports name)) n

-- fewer turns are done than the limit, and none where there is no limit
abbrev pub TurnsGoOn : Turns → ℤ → Type 0
TurnsGoOn t (pos limit) = t.done < limit
TurnsGoOn t (negsuc n) = t.done ≡ 0

-- the turns of a Retry or Repeat with the limit that its port of this name is given
pub record IsTurned (t : Turns) (ports : List Port) (name : List ℕ) : Type 0 where
  pub limit : IsGivenAt range.Turns ports name t.limit
  pub goes_on : TurnsGoOn t t.limit

-- the start of a Timeout or Delay, which is not after the moment, with the length that its port of this name is given
pub record IsBegun (since : Since) (moment : ℕ) (ports : List Port) (name : List ℕ) : Type 0 where
  pub first : since.first ≤ moment
  pub length : IsGivenAt range.Duration ports name (pos since.length)

-- the recoveries of a RecoveryNode with the limit that its port is given: one is left while the second child is at hand
pub record IsRecovering (r : Recoveries) (ports : List Port) : Type 0 where
  pub limit : IsGivenAt range.Recoveries ports (codes "number_of_retries") (pos r.limit)
  pub within : r.done ≤ r.limit
  pub goes_on : r.recovers ≡ true → r.done < r.limit

-- the rotation of a RoundRobin with so many children: the child at hand is there, and not all have failed or were
-- skipped
pub record IsRotating (r : Rotation) (n : ℕ) : Type 0 where
  pub at : r.at < n
  pub passed : r.passed < n
  pub skipped : r.skipped ≤ r.passed

-- the rate that a port is given: that of its literal, or for a key one of a number
abbrev pub IsRate : Option PortValue → ℕ → Type 0
IsRate (Some (Lit value)) rate = rate_of value ≡ Some rate
IsRate (Some (Key key)) rate = (n : ℤ) × (rate_of (Int n) ≡ Some rate)
IsRate None rate = ⊥

-- the pace of a RateController with the rate that its port is given, whose moment is not after this one
pub record IsPaced (p : Pace) (moment : ℕ) (ports : List Port) : Type 0 where
  pub first : p.first ≤ moment
  pub rate : IsRate (given_by (port_of ports (codes "hz"))) p.rate

-- the child of a RateController is RUNNING where it is due, and else IDLE
abbrev pub PacedChild : Bool → List Status → Type 0
PacedChild true ss = OneRuns 0 ss
PacedChild false ss = AllIdle ss

-- the row of a leaf that can be RUNNING is timed, replay, gate or told
abbrev pub Lasts : RowSort → Type 0
Lasts (Timed ms fails) = Unit {0}
Lasts (TimedBy length fails) = Unit {0}
Lasts (Replay ms outcomes) = Unit {0}
Lasts (Gate test) = Unit {0}
Lasts (Told outs) = Unit {0}
Lasts _ = ⊥

-- there is such a row
abbrev pub RowLasts : Option Row → Type 0
RowLasts (Some row) = Lasts row.sort
RowLasts None = ⊥

-- ---- Shapes

-- of a RUNNING node with these ports and this row, where it is a leaf, at a moment
abbrev pub RunningShape : Kind → List Port → Option Row → ℕ → Memo → List Status → Type 0
RunningShape Sequence ports row moment (Index at true) ss = StandsAt at ss
RunningShape Fallback ports row moment (Index at true) ss = StandsAt at ss
RunningShape SequenceWithMemory ports row moment (Index at true) ss = StandsAt at ss
RunningShape ReactiveSequence ports row moment (Index at true) ss = OneRuns at ss
RunningShape ReactiveFallback ports row moment (Index at true) ss = OneRuns at ss
RunningShape Parallel ports row moment (Counted c) ss = IsCounted c ss
RunningShape (Switch cases) ports row moment (Chosen (Some place)) ss = OneRuns place ss
RunningShape IfThenElse ports row moment (Chosen None) ss = OneRuns 0 ss
RunningShape IfThenElse ports row moment (Chosen (Some place)) ss = BranchRuns place ss
RunningShape WhileDoElse ports row moment Nothing ss = NoneCompleted ss
RunningShape RecoveryNode ports row moment (Recovering r) ss = IsRecovering r ports × OneRuns (place_at_hand r) ss
RunningShape PipelineSequence ports row moment (Index at true) ss = FarthestRuns at ss
RunningShape RoundRobin ports row moment (Rotating r) ss = IsRotating r (length ss) × OneRuns r.at ss
RunningShape SubTree ports row moment Nothing ss = NoneCompleted ss
RunningShape Inverter ports row moment Nothing ss = NoneCompleted ss
RunningShape ForceSuccess ports row moment Nothing ss = NoneCompleted ss
RunningShape ForceFailure ports row moment Nothing ss = NoneCompleted ss
RunningShape KeepRunningUntilFailure ports row moment Nothing ss = NoneCompleted ss
RunningShape Retry ports row moment (Turned t) ss = IsTurned t ports (codes "num_attempts") × NoneCompleted ss
RunningShape Repeat ports row moment (Turned t) ss = IsTurned t ports (codes "num_cycles") × NoneCompleted ss
RunningShape Timeout ports row moment (Begun since) ss = IsBegun since moment ports (codes "msec") × NoneCompleted ss
RunningShape Delay ports row moment (Begun since) ss = IsBegun since moment ports (codes "delay_msec") × NoneCompleted ss
RunningShape RunOnce ports row moment (Finished None) ss = NoneCompleted ss
RunningShape RateController ports row moment (Paced p) ss = IsPaced p moment ports × PacedChild p.due ss
RunningShape Leaf ports row moment Nothing ss = RowLasts row × AllIdle ss
RunningShape _ ports row moment memo ss = ⊥

-- a mark is SUCCESS or FAILURE
abbrev pub IsMark : Answer → Type 0
IsMark answer.Success = Unit {0}
IsMark answer.Failure = Unit {0}
IsMark _ = ⊥

-- of a node that is not RUNNING, with these ports at a moment: its children are IDLE and its memo is clear, but for the
-- index that a SequenceWithMemory keeps, before which children may have completed, for the mark of a RunOnce, for the
-- child at hand of a RoundRobin and for the pace of a RateController
abbrev pub RestingShape : List Port → ℕ → Memo → Kind → List Status → Type 0
RestingShape ports moment Nothing kind ss = AllIdle ss
RestingShape ports moment (Index at false) SequenceWithMemory ss = (at < length ss) × NoneRunsBefore at ss × IdleFrom at ss
RestingShape ports moment (Finished (Some a)) RunOnce ss = IsMark a × AllIdle ss
RestingShape ports moment (Rotating r) RoundRobin ss = (r.at < length ss) × (r ≡ rotation_at r.at) × AllIdle ss
RestingShape ports moment (Paced p) RateController ss = IsPaced p moment ports × (p.due ≡ false) × AllIdle ss
RestingShape ports moment _ kind ss = ⊥

-- what may be together at a node with this status
abbrev pub Shape : Status → Kind → List Port → Option Row → ℕ → Memo → List Status → Type 0
Shape Running kind ports row moment memo ss = RunningShape kind ports row moment memo ss
Shape _ kind ports row moment memo ss = RestingShape ports moment memo kind ss
