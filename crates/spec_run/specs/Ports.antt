-- What a node reads from its ports: the values of keys, the numbers with which it starts, and the child that
-- is picked.
use Rattle.std.specs.Prelude.{ℕ, zero, suc, ◌+◌, ℤ, pos, ◌+ℤ◌, int_le, int_lt, nat_abs, List, ◌++◌, length, Bool, true, false, ◌&&◌, not, if◌then◌else◌, codes, decimal, slice_index_or, Option, Some, None, Result, Ok, Err}
use Rattle.std.specs.Fmt.{signed_decimal}
use Rattle.std.specs.Ordering.{int_eq}
use Rattle.std.specs.Str.{bytes_eq}
use Rattle.spec_script.specs.declared.value.Value.{Value}
use Rattle.spec_script.specs.declared.value.Value.TheVariants.{Int, Text}
use Rattle.spec_tree.specs.declared.built_ins.Range.{Range}
use Rattle.spec_tree.specs.declared.built_ins.Range.TheVariants as range
use Rattle.spec_run.specs.declared.fault.NumericPort.{NumericPort}
use Rattle.spec_run.specs.declared.fault.NumericPort.TheVariants as port
use Rattle.spec_run.specs.declared.memory.Memo.{Memo}
use Rattle.spec_run.specs.declared.memory.Memo.TheVariants.{Nothing, Index, Counts, Chosen, Turns, Since, Finished, Recoveries, Rotation, Pace}
use Rattle.spec_run.specs.declared.status.Answer.{Answer}
use Rattle.spec_tree.specs.declared.term.Kind.{Kind}
use Rattle.spec_tree.specs.declared.term.Kind.TheVariants.{Sequence, SequenceWithMemory, ReactiveSequence, Fallback, ReactiveFallback, Parallel, Switch, IfThenElse, RecoveryNode, PipelineSequence, RoundRobin, Retry, Repeat, Timeout, Delay, RunOnce, RateController}
use Rattle.spec_tree.specs.declared.term.Port.{Port}
use Rattle.spec_tree.specs.declared.term.PortValue.{PortValue}
use Rattle.spec_tree.specs.declared.term.PortValue.TheVariants.{Lit, Key}
use Rattle.spec_tree.specs.Boards.{port_of}
use Rattle.spec_tree.specs.BuiltIns.{fits, rate_of}
use Rattle.spec_run.specs.Done.{State}
use Rattle.spec_run.specs.Rules.OneVisit.{mark_of}
use Rattle.spec_run.specs.Rules.RoundRobins.{rotation_at, rotation_of}
use Rattle.spec_run.specs.Rules.Sequences.{index_of}
use Rattle.spec_run.specs.Sites.{Site, slot_at}

-- ---- Values

-- what a port is given
abbrev pub given_by : Option Port → Option PortValue
given_by (Some port) = Some port.value
given_by None = None

-- what the port of this name is given at a node
abbrev pub given_at : Site → List ℕ → Option PortValue
given_at site name = given_by (port_of site.node.ports name)

-- the value of a port: its literal, or that of its key's entry, where there is one
abbrev pub value_by : Site → State → Option PortValue → Option Value
value_by site s (Some (Lit value)) = Some value
value_by site s (Some (Key key)) = slice_index_or s.board (slot_at site key) None
value_by site s None = None

-- its value
abbrev pub value_at : Site → State → List ℕ → Option Value
value_at site s name = value_by site s (given_at site name)

-- the number of a port, where it has one
abbrev pub number_by : Option Value → Option ℤ
number_by (Some (Int n)) = Some n
number_by _ = None

-- its number
abbrev pub number_at : Site → State → List ℕ → Option ℤ
number_at site s name = number_by (value_at site s name)

-- the text of a port: that of its value, a number in decimal
abbrev pub text_by : Option Value → Option (List ℕ)
text_by (Some (Int n)) = Some (signed_decimal n)
text_by (Some (Text t)) = Some t
text_by None = None

-- its text
abbrev pub text_at : Site → State → List ℕ → Option (List ℕ)
text_at site s name = text_by (value_at site s name)

-- ---- Starts

-- a number within a range
abbrev pub within : Range → Option ℤ → Option ℤ
within r (Some n) = if fits r (Int n) then Some n else None
within r None = None

-- a count of n children: a negative one counts from n + 1 down, and it must lie in 1 to n
abbrev pub threshold_of : ℕ → ℤ → ℤ
threshold_of n c = if int_lt c (pos 0) then pos (n + 1) +ℤ c else c

-- a count that lies in 1 to n
abbrev pub threshold_within : ℕ → ℤ → Option ℕ
threshold_within n c = if int_le (pos 1) c && int_le c (pos n) then Some (nat_abs c) else None

-- the threshold that a count of n children gives, if there is one
abbrev pub threshold : ℕ → Option ℤ → Option ℕ
threshold n (Some c) = threshold_within n (threshold_of n c)
threshold n None = None

-- whether a count is negative
abbrev pub is_negative : Option ℤ → Bool
is_negative (Some c) = int_lt c (pos 0)
is_negative None = false

-- a Parallel starts with both of its counts; the success count is read first
abbrev pub parallel_start : Option ℕ → Bool → Option ℕ → Result Memo NumericPort
parallel_start (Some need) skips (Some most) = Ok (Counts (record { need = need; most = most; skips = skips; successes = 0; failures = 0; skipped = 0 }))
parallel_start (Some need) skips None = Err port.FailureCount
parallel_start None skips most = Err port.SuccessCount

-- a Retry or Repeat starts with no turn done
abbrev pub turns_start : NumericPort → Option ℤ → Result Memo NumericPort
turns_start port (Some limit) = Ok (Turns (record { done = 0; limit = limit }))
turns_start port None = Err port

-- a Timeout or Delay starts at this moment
abbrev pub since_start : NumericPort → ℕ → Option ℤ → Result Memo NumericPort
since_start port now (Some length) = Ok (Since (record { first = now; length = nat_abs length }))
since_start port now None = Err port

-- a RecoveryNode starts with its first child and no recovery done
abbrev pub recoveries_start : Option ℤ → Result Memo NumericPort
recoveries_start (Some limit) = Ok (Recoveries (record { done = 0; limit = nat_abs limit; recovers = false }))
recoveries_start None = Err port.NumberOfRetries

-- the rate that a port is given, in thousandths of a hertz: its literal, or so many hertz of a key's entry
abbrev pub rate_given : PortValue → Option Value → Option ℕ
rate_given (Lit value) entry = rate_of value
rate_given (Key key) (Some (Int n)) = rate_of (Int n)
rate_given (Key key) _ = None

-- the rate of a port as a node has it, where it is one
abbrev pub rate_by : Site → State → Option PortValue → Option ℕ
rate_by site s (Some given) = rate_given given (value_by site s (Some given))
rate_by site s None = None

-- a RateController starts at this moment, and its child is due
abbrev pub pace_start : ℕ → Option ℕ → Result Memo NumericPort
pace_start now (Some rate) = Ok (Pace (record { first = now; rate = rate; due = true }))
pace_start now None = Err port.Hz

-- a RateController that has a pace goes on with it, and reads no port
abbrev pub next_pace : Memo → Result Memo NumericPort → Result Memo NumericPort
next_pace (Pace p) start = Ok (Pace p)
next_pace memo start = start

-- the memo with which a node starts, from the memo that it has; or the port that holds no number of its range
abbrev pub new_memo : Kind → Site → Memo → State → Result Memo NumericPort
new_memo Sequence site memo s = Ok (Index 0 false)
new_memo Fallback site memo s = Ok (Index 0 false)
new_memo ReactiveSequence site memo s = Ok (Index 0 false)
new_memo ReactiveFallback site memo s = Ok (Index 0 false)
new_memo SequenceWithMemory site memo s = Ok (Index (index_of memo) false)
new_memo Parallel site memo s =
    parallel_start (threshold (length site.node.children) (number_at site s (codes "success_count"))) (is_negative (number_at site s (codes "success_count")))
    (threshold (length site.node.children) (number_at site s (codes "failure_count")))
new_memo (Switch cases) site memo s = Ok (Chosen None)
new_memo IfThenElse site memo s = Ok (Chosen None)
new_memo RecoveryNode site memo s = recoveries_start (within range.Recoveries (number_at site s (codes "number_of_retries")))
new_memo PipelineSequence site memo s = Ok (Index 0 false)
new_memo RoundRobin site memo s = Ok (Rotation (rotation_at (rotation_of memo).at))
new_memo Retry site memo s = turns_start port.NumAttempts (within range.Turns (number_at site s (codes "num_attempts")))
new_memo Repeat site memo s = turns_start port.NumCycles (within range.Turns (number_at site s (codes "num_cycles")))
new_memo Timeout site memo s = since_start port.Msec s.moment (within range.Duration (number_at site s (codes "msec")))
new_memo Delay site memo s = since_start port.DelayMsec s.moment (within range.Duration (number_at site s (codes "delay_msec")))
new_memo RunOnce site memo s = Ok (Finished None)
new_memo RateController site memo s = next_pace memo (pace_start s.moment (rate_by site s (given_at site (codes "hz"))))
new_memo _ site memo s = Ok Nothing

-- ---- The child that is picked

-- whether a case has this text; a key without an entry has none
abbrev pub is_case : Option (List ℕ) → List ℕ → Bool
is_case (Some case) text = bytes_eq case text
is_case None text = false

-- the first case with this text, of those that are left from this place on; where none has it, the child after them
abbrev pub case_from : Site → State → ℕ → ℕ → List ℕ → ℕ
case_from site s zero place text = place
case_from site s (suc left) place text =
    if is_case (text_at site s (codes "case_" ++ decimal (place + 1))) text then place else case_from site s left (place + 1) text

-- the child that a Switch of so many cases selects, by the text of its variable
abbrev pub selected : Site → State → ℕ → Option (List ℕ) → ℕ
selected site s cases (Some text) = case_from site s cases 0 text
selected site s cases None = cases

-- `then_skip` as a truth: a key's entry must be a number
abbrev pub truth_given : PortValue → Option Value → Option Bool
truth_given (Lit (Text t)) value = Some (bytes_eq t (codes "true"))
truth_given _ (Some (Int n)) = Some (not (int_eq n (pos 0)))
truth_given _ _ = None

-- `then_skip` as a node has it, where it is a truth
abbrev pub then_skip : Site → State → Option PortValue → Option Bool
then_skip site s (Some given) = truth_given given (value_by site s (Some given))
then_skip site s None = None

-- what is picked for it: 1 for true and 0 for false, or the port is bad
abbrev pub skip_picked : Option Bool → Result ℕ NumericPort
skip_picked (Some true) = Ok 1
skip_picked (Some false) = Ok 0
skip_picked None = Err port.ThenSkip

-- a RunOnce reads `then_skip` where it has a mark
abbrev pub run_once_picked : Option Answer → Option Bool → Result ℕ NumericPort
run_once_picked (Some a) skip = skip_picked skip
run_once_picked None skip = Ok 0

-- what is picked for a visit: the child that a Switch selects, and for a RunOnce with a mark whether it skips
abbrev pub picked : Kind → Site → Memo → State → Result ℕ NumericPort
picked (Switch cases) site memo s = Ok (selected site s cases (text_at site s (codes "variable")))
picked RunOnce site memo s = run_once_picked (mark_of memo) (then_skip site s (given_at site (codes "then_skip")))
picked _ site memo s = Ok 0
