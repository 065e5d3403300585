-- The scripts of a node: its guards before a visit's rule, and those that run after an answer or a halt.
use Rattle.std.specs.Prelude.{ℕ, Bool, true, false, Option, Some, None, Result, Ok, Err}
use Rattle.spec_script.specs.declared.fault.ExecFault.{ExecFault}
use Rattle.spec_script.specs.declared.fault.ExecFault.TheVariants as exec
use Rattle.spec_script.specs.declared.syntax.Script.{Script}
use Rattle.spec_script.specs.declared.value.Value.{Value}
use Rattle.spec_script.specs.declared.value.Value.TheVariants.{Int, Text}
use Rattle.spec_script.specs.Evaluation.{Run, exec_of}
use Rattle.spec_script.specs.Operators.{is_true}
use Rattle.spec_run.specs.declared.fault.Cause.{Cause}
use Rattle.spec_run.specs.declared.fault.Cause.TheVariants as cause
use Rattle.spec_run.specs.declared.fault.NodeFault.{NodeFault}
use Rattle.spec_run.specs.declared.status.Answer.{Answer}
use Rattle.spec_run.specs.declared.status.Answer.TheVariants.{Success, Failure, Skipped}
use Rattle.spec_tree.specs.declared.term.Guards.{Guards}
use Rattle.spec_run.specs.Done.{Done, State, done, ends, follow}
use Rattle.spec_run.specs.Sites.{Site, slot_at}

-- a fault of a script as a cause
abbrev pub script_cause : ExecFault → Cause
script_cause (exec.NoEntry slot) = cause.NoEntry slot
script_cause exec.Overflow = cause.Overflow
script_cause exec.ZeroDivisor = cause.ZeroDivisor
script_cause exec.NotWhole = cause.NotWhole
script_cause exec.Mixed = cause.Mixed
script_cause exec.TextTooLong = cause.TextTooLong

-- a fault of the node with this uid
abbrev pub fault_of_node : ℕ → Cause → NodeFault
fault_of_node uid cause = record { uid = uid; cause = cause }

-- the value of a script, or its fault as one of its node
abbrev pub script_answer : ℕ → Result Value ExecFault → Result Value NodeFault
script_answer uid (Ok value) = Ok value
script_answer uid (Err fault) = Err (fault_of_node uid (script_cause fault))

-- what a script's run leaves: its value or the fault of its node, with the writes that were made
abbrev pub script_left : ℕ → State → Run → Done Value (Unit {0})
script_left uid s run = ends (script_answer uid run.answer) tt (record s { board = run.entries })

-- a script runs in the scope in which its node stands
abbrev pub script_run : Site → Script → State → Done Value (Unit {0})
script_run site script s = script_left site.uid s (exec_of (slot_at site) script.stmts s.board)

-- a value as a condition: a number is true where it is not 0, and a text is Mixed
abbrev pub truth_of : ℕ → Value → Result Bool NodeFault
truth_of uid (Int n) = Ok (is_true n)
truth_of uid (Text t) = Err (fault_of_node uid cause.Mixed)

-- a script as a condition
abbrev pub script_holds : Site → Script → State → Done Bool (Unit {0})
script_holds site script s = follow (script_run site script s) (λ _. tt) (λ value _ s1. ends (truth_of site.uid value) tt s1)

-- a script runs where it is there
abbrev pub script_if_there : Site → Option Script → State → Done (Unit {0}) (Unit {0})
script_if_there site (Some script) s = follow (script_run site script s) (λ _. tt) (λ value _ s1. done tt tt s1)
script_if_there site None s = done tt tt s

-- a guard whose truth is known: it answers where this is the truth that it asks for; else what comes after it
abbrev pub answers_where : Bool → Answer → (State → Done (Option Answer) (Unit {0})) → Bool → State → Done (Option Answer) (Unit {0})
answers_where true answer next true s = done (Some answer) tt s
answers_where false answer next false s = done (Some answer) tt s
answers_where _ answer next _ s = next s

-- a guard that answers where it is there and its truth is this one; else what comes after it
abbrev pub guard : Site → Option Script → Bool → Answer → (State → Done (Option Answer) (Unit {0})) → State → Done (Option Answer) (Unit {0})
guard site (Some script) truth answer next s =
    follow (script_holds site script s) (λ _. tt) (λ b _ s1. answers_where truth answer next b s1)
guard site None truth answer next s = next s

-- the answer of the guards of a node that is not RUNNING, in the order in which they are tried: a true
-- `_failureIf` answers FAILURE, a true `_successIf` SUCCESS, a true `_skipIf` SKIPPED, and a false `_while`
-- SKIPPED
abbrev pub guarded_by : Guards → Site → State → Done (Option Answer) (Unit {0})
guarded_by g site s =
    guard site g.failure_if true Failure
    (guard site g.success_if true Success
    (guard site g.skip_if true Skipped
    (guard site g.while_true false Skipped (λ s1. done None tt s1)))) s

-- the answer of the guards of a node
abbrev pub guards_answer : Site → State → Done (Option Answer) (Unit {0})
guards_answer site s = guarded_by site.node.guards site s

-- whether a RUNNING node goes on: it does but where its `_while` is false
abbrev pub goes_on_by : Site → Option Script → State → Done Bool (Unit {0})
goes_on_by site (Some script) s = script_holds site script s
goes_on_by site None s = done true tt s

-- whether a RUNNING node goes on, by its own `_while`
abbrev pub goes_on : Site → State → Done Bool (Unit {0})
goes_on site s = goes_on_by site site.node.guards.while_true s

-- after SUCCESS `_onSuccess` runs, after FAILURE `_onFailure`, and then `_post` after either
abbrev pub posts : Site → Answer → State → Done (Unit {0}) (Unit {0})
posts site Success s =
    follow (script_if_there site site.node.guards.on_success s) (λ _. tt) (λ _ _ s1. script_if_there site site.node.guards.post s1)
posts site Failure s =
    follow (script_if_there site site.node.guards.on_failure s) (λ _. tt) (λ _ _ s1. script_if_there site site.node.guards.post s1)
posts site _ s = done tt tt s
