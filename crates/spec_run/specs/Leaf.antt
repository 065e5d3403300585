-- The leaf rule: what a driver answers for a row of the world, and what the call leaves.
use Rattle.std.specs.Prelude.{ℕ, ℤ, pos, ◌+◌, ◌+ℤ◌, ◌-◌, nat_lt, nat_abs, min, List, [], ◌∷◌, ◌++◌, map, length, replicate, slice_index_or, slice_set, Bool, true, false, not, if◌then◌else◌, Option, Some, None, option_map, is_some, unwrap_or, Result, Ok, Err}
use Rattle.std.specs.Ordering.{int_cmp}
use Rattle.std.specs.Str.{bytes_eq}
use Rattle.spec_script.specs.declared.cells.Seen.{Seen}
use Rattle.spec_script.specs.declared.fault.ExecFault.{ExecFault}
use Rattle.spec_script.specs.declared.syntax.Cmp.{Cmp}
use Rattle.spec_script.specs.declared.syntax.Expr.{Expr}
use Rattle.spec_script.specs.declared.value.Value.{Value}
use Rattle.spec_script.specs.declared.value.Value.TheVariants.{Int, Text}
use Rattle.spec_script.specs.Entries.{look_of}
use Rattle.spec_script.specs.Evaluation.{eval_of}
use Rattle.spec_script.specs.Operators.{bounded, is_true, compares}
use Rattle.base_texts.specs.Results.{◌>>=◌}
use Rattle.spec_run.specs.declared.fault.Cause.{Cause}
use Rattle.spec_run.specs.declared.fault.Cause.TheVariants.{NoInput, Overflow, Range, ZeroDivisor, NotWhole, Mixed, TextTooLong}
use Rattle.spec_run.specs.declared.leaf.Instance.{Instance}
use Rattle.spec_run.specs.declared.leaf.Phase.{Phase}
use Rattle.spec_run.specs.declared.leaf.Reply.{Reply}
use Rattle.spec_run.specs.declared.leaf.Reply.TheVariants.{Running, Success, Failure, Broken}
use Rattle.spec_tree.specs.Limits.{last_moment}
use Rattle.spec_tree.specs.Numbers.{in_range}
use Rattle.spec_world.specs.declared.world.Fact.{Fact}
use Rattle.spec_world.specs.declared.world.How.{How}
use Rattle.spec_world.specs.declared.world.How.TheVariants.{To, By}
use Rattle.spec_world.specs.declared.world.Out.{Out}
use Rattle.spec_world.specs.declared.world.Row.{Row}
use Rattle.spec_world.specs.declared.world.RowSort.{RowSort}
use Rattle.spec_world.specs.declared.world.RowSort.TheVariants.{Is, When, Timed, TimedBy, Replay, Gate, Sensed, Told}
use Rattle.spec_world.specs.declared.world.Set.{Set}
use Rattle.spec_world.specs.declared.world.Telling.{Telling}
use Rattle.spec_world.specs.declared.world.Telling.TheVariants as telling
use Rattle.spec_world.specs.declared.world.ToldOut.{ToldOut}
use Rattle.spec_script.specs.declared.cells.Seen.TheVariants as seen
use Rattle.spec_script.specs.declared.fault.ExecFault.TheVariants as exec
use Rattle.spec_run.specs.declared.leaf.Phase.TheVariants as phase

-- ---- What a row's expressions see

-- the inputs of all eight places, absent where none is given
abbrev pub padded : List Seen → List Seen
padded inputs = inputs ++ replicate (8 - length inputs) seen.Absent

-- the inputs, and after them the facts
abbrev pub sights : List Seen → List ℤ → List Seen
sights inputs facts = padded inputs ++ map (λ n. seen.Int n) facts

-- the place of a name in a list whose first name has the given place; `other` where it is not there
abbrev pub place_from : ℕ → List (List ℕ) → List ℕ → ℕ → ℕ
place_from place [] name other = other
place_from place (n ∷ ns) name other = if bytes_eq n name then place else place_from (place + 1) ns name other

-- the place of a name: that of the input port of this name, else that of the fact; every name of a
-- valid row is one of them
abbrev pub place_of : List (List ℕ) → List Fact → List ℕ → ℕ
place_of ports facts name = place_from 0 ports name (place_from 8 (map (λ (f : Fact). f.name) facts) name 0)

-- the cause of a fault in a row's expression: only an input can be absent
abbrev pub cause_of : ExecFault → Cause
cause_of (exec.NoEntry place) = NoInput place
cause_of exec.Overflow = Overflow
cause_of exec.ZeroDivisor = ZeroDivisor
cause_of exec.NotWhole = NotWhole
cause_of exec.Mixed = Mixed
cause_of exec.TextTooLong = TextTooLong

-- a value as a number; no expression of a row gives a text
abbrev pub as_number : Result Value ExecFault → Result ℤ Cause
as_number (Ok (Int n)) = Ok n
as_number (Ok (Text t)) = Err Mixed
as_number (Err fault) = Err (cause_of fault)

-- a number as a length in milliseconds
abbrev pub as_length : Result ℤ Cause → Result ℕ Cause
as_length (Ok n) = if in_range (pos 0) (pos last_moment) n then Ok (nat_abs n) else Err Range
as_length (Err cause) = Err cause

-- a number, or the cause of its fault
abbrev pub caused : Result ℤ ExecFault → Result ℤ Cause
caused (Ok n) = Ok n
caused (Err fault) = Err (cause_of fault)

-- ---- Rules: rows, with each expression taken as what it gives

-- what an expression gives over the inputs and the facts: its number, or the cause of its fault
abbrev pub Number : Type 0
Number = List Seen → List ℤ → Result ℤ Cause

-- whether something is true over the inputs and the facts, or the cause of a fault
abbrev pub Test : Type 0
Test = List Seen → List ℤ → Result Bool Cause

-- a number is true where it is not 0
abbrev pub truth_of : Result ℤ Cause → Result Bool Cause
truth_of (Ok n) = Ok (is_true n)
truth_of (Err cause) = Err cause

-- how a row answers
pub data Way : Type 0 where
  -- a condition answers at once
  Tests : (test : Test) → Way
  -- an action lasts some milliseconds, and then fails where this is true
  Lasts : (ms : ℕ) (fails : Option Test) → Way
  -- an action lasts as many milliseconds as this gives where it begins, and then fails where the other is true
  LastsBy : (length : Number) (fails : Option Test) → Way
  -- an action lasts some milliseconds, and then has its next outcome
  Replays : (ms : ℕ) (outcomes : List Bool) → Way
  -- an action waits until this is true
  Waits : (test : Test) → Way
  -- a condition answers what it was told last
  Heeds : Way
  -- an action waits until it is told how it ended
  Obeys : Way

-- what a row says of a leaf: how it answers, and what a completion does
pub record Rule : Type 0 where
  pub way : Way
  -- the effects of a completion
  pub sets : List Set
  -- the outputs of a completion
  pub outs : List Number

-- the value of a fact
abbrev pub fact_at : List ℤ → ℕ → ℤ
fact_at facts fact = slice_index_or facts fact (pos 0)

-- whether a fact compares so
abbrev pub comparison : ℕ → Cmp → ℤ → Test
comparison fact op value inputs facts = Ok (compares op (int_cmp (fact_at facts fact) value))

-- what an expression gives, where its names have these places
abbrev pub number_of : (List ℕ → ℕ) → Expr → Number
number_of places e inputs facts = as_number (eval_of (λ name. look_of (sights inputs facts) (places name)) e)

-- whether an expression is true
abbrev pub test_of : (List ℕ → ℕ) → Expr → Test
test_of places e inputs facts = truth_of (number_of places e inputs facts)

-- how a row answers, by its sort
abbrev pub way_of : (List ℕ → ℕ) → RowSort → Way
way_of places (Is fact op value) = Tests (comparison fact op value)
way_of places (When test) = Tests (test_of places test)
way_of places (Timed ms fails) = Lasts ms (option_map (test_of places) fails)
way_of places (TimedBy length fails) = LastsBy (number_of places length) (option_map (test_of places) fails)
way_of places (Replay ms outcomes) = Replays ms outcomes
way_of places (Gate test) = Waits (test_of places test)
way_of places Sensed = Heeds
way_of places (Told outs) = Obeys

-- the rule of a row whose names have these places
abbrev pub rule_by : (List ℕ → ℕ) → Row → Rule
rule_by places row = record {
  way = way_of places row.sort;
  sets = row.sets;
  outs = map (λ (out : Out). number_of places out.expr) row.outs;
}

-- the rule of a row in a world with these facts
abbrev pub rule_of : List Fact → Row → Rule
rule_of names row = rule_by (place_of row.ports names) row

-- ---- Instances

-- an instance that was never held or started, and was told nothing
abbrev pub fresh : Instance
fresh = record { since = None; completions = 0; told = None; length = None; inputs = [] }

-- an instance that is held since a moment
abbrev pub held : ℕ → Instance → Instance
held since instance = record instance { since = Some since }

-- an instance that is to be held for so many milliseconds
abbrev pub lasting_for : ℕ → Instance → Instance
lasting_for ms instance = record instance { length = Some ms }

-- an instance that is no longer held, and is told nothing; its completions stay
abbrev pub released : Instance → Instance
released instance = record instance { since = None; told = None }

-- an instance that is not held, and keeps what it was told
abbrev pub unheld : Instance → Instance
unheld instance = record instance { since = None }

-- an instance after a quench: one that was held is released, and any other stays as it is
abbrev pub let_go : Instance → Instance
let_go instance = record instance { since = None; told = if is_some instance.since then None else instance.told }

-- an instance that has completed once more; completions are counted up to 64
abbrev pub completed : Instance → Instance
completed instance = record instance { since = None; completions = min (instance.completions + 1) 64; told = None }

-- an instance that is told something, in place of what it was told before
abbrev pub told : Telling → Instance → Instance
told telling instance = record instance { told = Some telling }

-- an instance that keeps these values of its input ports
abbrev pub keeping : List (Option Value) → Instance → Instance
keeping inputs instance = record instance { inputs = inputs }

-- an instance that is started with these inputs, which it keeps; one without input ports stays as it is
abbrev pub started_with : List (Option Value) → Instance → Instance
started_with [] instance = instance
started_with inputs instance = keeping inputs instance

-- whether leaves of a row that answers so are told what they answer
abbrev pub is_told_way : Way → Bool
is_told_way Heeds = true
is_told_way Obeys = true
is_told_way _ = false

-- an instance of a leaf that is to be called: one that is told what it answers keeps the inputs of its start
abbrev pub asked : Way → Phase → List (Option Value) → Instance → Instance
asked way phase.Start inputs instance = if is_told_way way then started_with inputs instance else instance
asked way _ inputs instance = instance

-- the moment of the start: this one, or the one since which the instance is held
abbrev pub start_of : Phase → Instance → ℕ → ℕ
start_of phase.Start instance now = now
start_of _ instance now = unwrap_or instance.since now

-- the outcome at the number of completions, or the last one
abbrev pub outcome_at : List Bool → ℕ → Bool
outcome_at outcomes n = slice_index_or outcomes (min n (length outcomes - 1)) false

-- ---- What a call leaves

-- what a call leaves: the reply, the instance, the facts' values and the outputs
pub record Answered : Type 0 where
  pub reply : Reply
  pub instance : Instance
  pub facts : List ℤ
  -- of a completion, in order; no other call gives any
  pub outputs : List ℤ
  -- of the end of an action that was told SUCCESS: the values that were told with it
  pub told : List ToldOut

-- a reply that changes the instance at most
abbrev pub replied : Reply → Instance → List ℤ → Answered
replied reply instance facts = record { reply = reply; instance = instance; facts = facts; outputs = []; told = [] }

-- goes on by what is true; a fault is the reply, and changes nothing
abbrev pub judged : Result Bool Cause → Instance → List ℤ → (Bool → Answered) → Answered
judged (Ok b) instance facts go = go b
judged (Err cause) instance facts go = replied (Broken cause) instance facts

-- one more output, before the others; the first fault counts
abbrev pub with_output : Result ℤ Cause → Result (List ℤ) Cause → Result (List ℤ) Cause
with_output (Err cause) rest = Err cause
with_output (Ok n) (Err cause) = Err cause
with_output (Ok n) (Ok ns) = Ok (n ∷ ns)

-- the outputs in order, or their first fault
abbrev pub outputs_of : List Number → List Seen → List ℤ → Result (List ℤ) Cause
outputs_of [] inputs facts = Ok []
outputs_of (out ∷ outs) inputs facts = with_output (out inputs facts) (outputs_of outs inputs facts)

-- what an effect makes of the value that its fact has: the number itself, or the sum; a sum outside 64 bits is a fault
abbrev pub made_by : How → ℤ → ℤ → Result ℤ Cause
made_by To number value = Ok number
made_by By number value = caused (bounded (value +ℤ number))

-- the facts that effects leave, each worked out over the facts before all of them, or their first fault
abbrev pub effects_of : List Set → List ℤ → Result (List ℤ) Cause
effects_of [] facts = Ok facts
effects_of (e ∷ es) facts =
    made_by e.how e.value (fact_at facts e.fact) >>= λ value. effects_of es facts >>= λ left. Ok (slice_set left e.fact value)

-- the outputs, and then the facts that the effects leave, both over the facts before; or the first fault
abbrev pub worked_out : Rule → List Seen → List ℤ → Result (List ℤ × List ℤ) Cause
worked_out rule inputs facts = outputs_of rule.outs inputs facts >>= λ outputs. effects_of rule.sets facts >>= λ left. Ok (outputs, left)

-- SUCCESS with these outputs and these facts, or a fault, which changes nothing
abbrev pub finished : Result (List ℤ × List ℤ) Cause → Instance → Instance → List ℤ → Answered
finished (Ok (outputs, left)) before after facts = record { reply = Success; instance = after; facts = left; outputs = outputs; told = [] }
finished (Err cause) before after facts = replied (Broken cause) before facts

-- completion: its outputs and its effects
abbrev pub completion : Rule → Instance → Instance → List Seen → List ℤ → Answered
completion rule before after inputs facts = finished (worked_out rule inputs facts) before after facts

-- completion, or FAILURE
abbrev pub decided : Bool → Rule → Instance → Instance → List Seen → List ℤ → Answered
decided true rule before after inputs facts = completion rule before after inputs facts
decided false rule before after inputs facts = replied Failure after facts

-- the end of an action whose time is over
abbrev pub timed_end : Option Test → Rule → Instance → List Seen → List ℤ → Answered
timed_end None rule instance inputs facts = completion rule instance (released instance) inputs facts
timed_end (Some fails) rule instance inputs facts =
    judged (fails inputs facts) instance facts (λ b. decided (not b) rule instance (released instance) inputs facts)

-- RUNNING until the time is over, and then this end
abbrev pub lasting : ℕ → ℕ → ℕ → Instance → List ℤ → Answered → Answered
lasting since ms now instance facts ending =
    if nat_lt (now - since) ms then replied Running (held since instance) facts else ending

-- how long an action lasts: what is worked out where it begins, and from then on what its instance keeps
abbrev pub length_of : Number → Instance → List Seen → List ℤ → Result ℕ Cause
length_of length instance inputs facts =
    if is_some instance.since then Ok (unwrap_or instance.length 0) else as_length (length inputs facts)

-- goes on with a length; a fault is the reply, and changes nothing
abbrev pub measured : Result ℕ Cause → Instance → List ℤ → (ℕ → Answered) → Answered
measured (Ok ms) instance facts go = go ms
measured (Err cause) instance facts go = replied (Broken cause) instance facts

-- what a condition was told: FAILURE where it was told nothing
abbrev pub sensed : Option Telling → Reply
sensed (Some (telling.Success outs)) = Success
sensed _ = Failure

-- an action that is told how it ended: RUNNING where it was told nothing, and else this end
abbrev pub told_end : Option Telling → ℕ → Instance → List ℤ → Answered
told_end None since instance facts = replied Running (held since instance) facts
told_end (Some telling.Failure) since instance facts = replied Failure (released instance) facts
told_end (Some (telling.Success outs)) since instance facts =
    record { reply = Success; instance = released instance; facts = facts; outputs = []; told = outs }

-- what a call leaves by the row's way, where the leaf began at this moment
abbrev pub answer_by : Way → Rule → ℕ → Instance → List Seen → List ℤ → ℕ → Answered
answer_by (Tests test) rule since instance inputs facts now =
    judged (test inputs facts) instance facts (λ b. replied (if b then Success else Failure) (released instance) facts)
answer_by (Lasts ms fails) rule since instance inputs facts now =
    lasting since ms now instance facts (timed_end fails rule instance inputs facts)
answer_by (LastsBy length fails) rule since instance inputs facts now =
    measured (length_of length instance inputs facts) instance facts
    (λ ms. lasting since ms now (lasting_for ms instance) facts (timed_end fails rule instance inputs facts))
answer_by (Replays ms outcomes) rule since instance inputs facts now =
    lasting since ms now instance facts (decided (outcome_at outcomes instance.completions) rule instance (completed instance) inputs facts)
answer_by (Waits test) rule since instance inputs facts now =
    judged (test inputs facts) instance facts
    (λ b. if b then completion rule instance (released instance) inputs facts else replied Running (held since instance) facts)
answer_by Heeds rule since instance inputs facts now = replied (sensed instance.told) (unheld instance) facts
answer_by Obeys rule since instance inputs facts now = told_end instance.told since instance facts

-- what a call by a rule leaves
abbrev pub rule_answer : Rule → Phase → Instance → List Seen → List ℤ → ℕ → Answered
rule_answer rule phase instance inputs facts now = answer_by rule.way rule (start_of phase instance now) instance inputs facts now

-- The leaf rule: in a world with these facts, what a call of `start` or `running` leaves of a row's
-- instance and of the facts' values, with these inputs at this moment.
abbrev pub leaf_rule : List Fact → Row → Phase → Instance → List Seen → List ℤ → ℕ → Answered
leaf_rule names row phase instance inputs facts now = rule_answer (rule_of names row) phase instance inputs facts now
