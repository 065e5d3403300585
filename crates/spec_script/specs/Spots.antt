-- How the reader checks which token may come next. Only clauses of private functions cite this; it is proved to
-- stop at exactly the token with which no script goes on.
use Rattle.std.specs.Prelude.{◌≡◌, ℕ, Bool, true, false, List, [], ◌∷◌, ◌++◌, Option, Some, None}
use Rattle.spec_script.specs.declared.syntax.BinOp.{BinOp}
use Rattle.spec_script.specs.declared.syntax.BinOp.TheVariants.{Sub}
use Rattle.spec_script.specs.declared.token.Token.{Token}
use Rattle.spec_script.specs.declared.token.Token.TheVariants.{Number, Text, Word, Operator, Bang, Tilde, Question, Colon, Open, Close, Semicolon, Creates, Assigns, Changes}
use Rattle.spec_script.specs.declared.token.Placed.{Placed}
use Rattle.spec_script.specs.declared.stage.Opened.{Opened}
use Rattle.spec_script.specs.declared.stage.Opened.TheVariants.{Paren, Choice, Whole}
use Rattle.spec_script.specs.declared.stage.Stage.{Stage}
use Rattle.spec_script.specs.declared.stage.Stage.TheVariants.{Blank, Start, Named, Before, After}
use Rattle.spec_script.specs.declared.stage.Verdict.{Verdict}
use Rattle.spec_script.specs.declared.fault.ScriptFault.{ScriptFault}
use Rattle.spec_script.specs.declared.fault.ScriptFault.TheVariants.{Syntax}
use Rattle.spec_script.specs.Grammar.{changes}
use Rattle.spec_script.specs.Reading.{bare}
use Rattle.spec_script.specs.declared.stage.Verdict.TheVariants as verdict

-- where reading stands, and what is open, the innermost first
abbrev pub Spot : Type 0
Spot = Stage × List Opened

-- of the operators only `-` stands where an operand may
abbrev pub after_minus : BinOp → Option Spot → Option Spot
after_minus Sub s = s
after_minus op s = None

-- a token where an operand may stand; a name leads to the given stage
abbrev pub operand_step : Stage → List Opened → Token → Option Spot
operand_step word_stage opened (Number n) = Some (After, opened)
operand_step word_stage opened (Text t) = Some (After, opened)
operand_step word_stage opened (Word name) = Some (word_stage, opened)
operand_step word_stage opened (Operator op) = after_minus op (Some (Before, opened))
operand_step word_stage opened Bang = Some (Before, opened)
operand_step word_stage opened Tilde = Some (Before, opened)
operand_step word_stage opened Open = Some (Before, Paren ∷ opened)
operand_step word_stage opened t = None

-- a token that closes what is innermost
abbrev pub closing_step : Opened → Stage → List Opened → Option Spot
closing_step Choice stage (Choice ∷ opened) = Some (stage, opened)
closing_step Paren stage (Paren ∷ opened) = Some (stage, opened)
closing_step Whole stage (Whole ∷ opened) = Some (stage, opened)
closing_step wanted stage opened = None

-- a semicolon after an operand
abbrev pub semicolon_step : List Opened → Option Spot
semicolon_step [] = Some (Start, [])
semicolon_step opened = None

-- a token after an operand
abbrev pub after_step : List Opened → Token → Option Spot
after_step opened (Operator op) = Some (Before, opened)
after_step opened Question = Some (Before, Choice ∷ opened)
after_step opened Colon = closing_step Choice Before opened
after_step opened Close = closing_step Paren After opened
after_step opened Semicolon = semicolon_step opened
after_step opened t = None

-- a token at the start of a statement
abbrev pub start_step : Stage → List Opened → Token → Option Spot
start_step stage opened Semicolon = Some (stage, opened)
start_step stage opened t = operand_step Named opened t

-- the sign of a change, by whether its operator may stand before `=`
abbrev pub change_step : Bool → List Opened → Option Spot
change_step true opened = Some (Before, opened)
change_step false opened = None

-- a token after the name with which a statement begins
abbrev pub named_step : List Opened → Token → Option Spot
named_step opened Creates = Some (Before, opened)
named_step opened Assigns = Some (Before, opened)
named_step opened (Changes op) = change_step (changes op) opened
named_step opened t = after_step opened t

-- a token in any stage
abbrev pub stage_step : Stage → List Opened → Token → Option Spot
stage_step Blank opened t = start_step Blank opened t
stage_step Start opened t = start_step Start opened t
stage_step Named opened t = named_step opened t
stage_step Before opened t = operand_step After opened t
stage_step After opened t = after_step opened t

-- a token at a spot
abbrev pub step : Spot → Token → Option Spot
step s t = stage_step s.0 s.1 t

-- one step and then the next
abbrev pub then_spot : Option Spot → (Spot → Option Spot) → Option Spot
then_spot None next = None
then_spot (Some s) next = next s

-- where some tokens lead
abbrev pub run : List Token → Spot → Option Spot
run [] s = Some s
run (t ∷ ts) s = then_spot (step s t) (run ts)

-- whether nothing is open
abbrev pub nothing_open : List Opened → Bool
nothing_open [] = true
nothing_open opened = false

-- whether nothing is open but the whole text
abbrev pub only_whole : List Opened → Bool
only_whole [] = true
only_whole (Whole ∷ []) = true
only_whole opened = false

-- whether a text may end here
abbrev pub ends_at : Stage → List Opened → Bool
ends_at Blank opened = false
ends_at Start opened = nothing_open opened
ends_at Named opened = nothing_open opened
ends_at Before opened = false
ends_at After opened = only_whole opened

-- whether a text may end at a spot
abbrev pub may_end : Spot → Bool
may_end s = ends_at s.0 s.1

-- the tokens up to this place lead somewhere, and the one there leads nowhere
pub record LeadsNowhere (start : Spot) (ts : List Placed) (place : ℕ) : Type 0 where
  pub front : List Placed
  pub token : Token
  pub rest : List Placed
  pub spot : Spot
  pub at : ts ≡ front ++ (record { token = token; place = place }) ∷ rest
  pub led : run (bare front) start ≡ Some spot
  pub stuck : step spot token ≡ None

-- the tokens lead to a spot at which a text may end, or may not
pub record Leads (start : Spot) (ts : List Placed) (end : Bool) : Type 0 where
  pub spot : Spot
  pub led : run (bare ts) start ≡ Some spot
  pub ends : may_end spot ≡ end

-- what the verdict says of some tokens, from this spot on
abbrev pub Checked : Spot → List Placed → Verdict → Type 0
Checked start ts verdict.Whole = Leads start ts true
Checked start ts verdict.Unfinished = Leads start ts false
Checked start ts (verdict.Stuck place) = LeadsNowhere start ts place

-- the fault of a text, by its tokens and their fault
abbrev pub refused : Verdict → Option ScriptFault → ℕ → Option ScriptFault
refused (verdict.Stuck place) fault end = Some (Syntax place)
refused verdict.Whole fault end = fault
refused verdict.Unfinished (Some fault) end = Some fault
refused verdict.Unfinished None end = Some (Syntax end)
