-- Whether the scripts of a node meet a text: a text literal, or an entry of the board that holds a text.
use Rattle.std.specs.Prelude.{◌≡◌, Bool, true, false, ◌||◌, List, Option, Some, None, Result, Ok, IsOk}
use Rattle.spec_script.specs.declared.value.Value.{Value}
use Rattle.spec_script.specs.declared.fault.ExecFault.{ExecFault}
use Rattle.spec_script.specs.Operators.{is_true, number_in}
use Rattle.base_texts.specs.Results.{◌>>=◌}
use Rattle.script_code.specs.declared.codes.Code.{Code}
use Rattle.script_code.specs.Codes.{program}
use Rattle.script_code.specs.Meeting.{is_ok_and}
use Rattle.spec_run.specs.declared.status.Answer.{Answer}
use Rattle.spec_run.specs.declared.status.Answer.TheVariants.{Success, Failure}
use Rattle.run_arena.specs.declared.nodes.ReadyGuards.{ReadyGuards}

-- whether a script meets a text, where it is there
abbrev pub script_meets : Option Code → List (Option Value) → Bool
script_meets None board = false
script_meets (Some code) board = (program code).meets board

-- whether a script, where it is there, meets a text, or what comes after it
abbrev pub then_meets : Option Code → (List (Option Value) → Bool) → List (Option Value) → Bool
then_meets None rest board = rest board
then_meets (Some code) rest board =
    (program code).meets board || is_ok_and ((program code).run board).answer (λ _. rest ((program code).run board).entries)

-- whether the scripts after an answer meet a text
abbrev pub posts_meet : ReadyGuards → Answer → List (Option Value) → Bool
posts_meet guards Success = then_meets guards.on_success (script_meets guards.post)
posts_meet guards Failure = then_meets guards.on_failure (script_meets guards.post)
posts_meet guards _ = λ board. false

-- a value as a condition
abbrev pub truth_in : Result Value ExecFault → Result Bool ExecFault
truth_in found = found >>= number_in >>= λ n. Ok (is_true n)

-- whether the guards after one of known truth meet a text: none of them runs where it answers
abbrev pub passed_meets : Bool → Bool → (List (Option Value) → Bool) → List (Option Value) → Bool
passed_meets true true rest board = false
passed_meets false false rest board = false
passed_meets truth holds rest board = rest board

-- whether a guard, where it is there, meets a text, or the guards after it
abbrev pub guard_meets : Option Code → Bool → (List (Option Value) → Bool) → List (Option Value) → Bool
guard_meets None truth rest board = rest board
guard_meets (Some code) truth rest board =
    (program code).meets board
    || is_ok_and (truth_in ((program code).run board).answer) (λ holds. passed_meets truth holds rest ((program code).run board).entries)

-- whether the guards of a node that is not RUNNING meet a text, in the order in which they are tried
abbrev pub guards_meet : ReadyGuards → List (Option Value) → Bool
guards_meet guards =
    guard_meets guards.failure_if true
    (guard_meets guards.success_if true
    (guard_meets guards.skip_if true
    (guard_meets guards.while_true false (λ board. false))))

-- ---- What a run of them left

-- a script, where it is there, ran to its end
abbrev pub HasRun : Option Code → List (Option Value) → List (Option Value) → Type 0
HasRun None old new = new ≡ old
HasRun (Some code) old new = IsOk ((program code).run old).answer × (new ≡ ((program code).run old).entries)

-- a script ran to its end, and gave this value
pub record GaveValue (code : Code) (value : Value) (old new : List (Option Value)) : Type 0 where
  pub gave : ((program code).run old).answer ≡ Ok value
  pub left : new ≡ ((program code).run old).entries

-- a script ran to its end, and gave this as a condition
pub record GaveTruth (code : Code) (holds : Bool) (old new : List (Option Value)) : Type 0 where
  pub gave : truth_in ((program code).run old).answer ≡ Ok holds
  pub left : new ≡ ((program code).run old).entries

-- whether a guard answers whose truth is known
abbrev pub is_asked : Bool → Bool → Bool
is_asked true holds = holds
is_asked false true = false
is_asked false false = true

-- a guard, where it is there, was tried, and answers or not
abbrev pub WasTried : Option Code → Bool → Bool → List (Option Value) → List (Option Value) → Type 0
WasTried None truth answers old new = (answers ≡ false) × (new ≡ old)
WasTried (Some code) truth answers old new = (holds : Bool) × (answers ≡ is_asked truth holds) × GaveTruth code holds old new
