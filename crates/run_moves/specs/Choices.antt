-- What SwitchN, IfThenElse and WhileDoElse answer over the whole list of answers of one visit.
use Rattle.std.specs.Prelude.{ℕ, Bool, true, false, not, if◌then◌else◌, nat_eq, nat_lt, List, [], ◌∷◌, Option, Some, None}
use Rattle.spec_run.specs.declared.memory.Memo.{Memo}
use Rattle.spec_run.specs.declared.moves.Heard.TheVariants.{Answered}
use Rattle.spec_run.specs.declared.moves.Span.{Span}
use Rattle.spec_run.specs.declared.moves.Span.TheVariants as span
use Rattle.spec_run.specs.declared.status.Answer.{Answer}
use Rattle.spec_run.specs.declared.status.Answer.TheVariants.{Running, Success, Failure}
use Rattle.spec_run.specs.Steps.{Rule, keep, over}
use Rattle.run_moves.specs.Visits.{Told}

-- a child answers, and before it is visited these are reset
abbrev pub answers_after : Span → ℕ → Answer → Told
answers_after resets place a = record { reset = resets; heard = Answered place a }

-- RUNNING keeps this memo, and after another answer all children are reset
abbrev pub keeps_memo : Memo → Answer → Rule
keeps_memo memo Running = keep Running memo
keeps_memo memo a = over a

-- ---- SwitchN

-- the child that was chosen before and is RUNNING, where another one is selected now
abbrev pub given_up : Option ℕ → ℕ → Span
given_up (Some kept) selected = if nat_eq kept selected then span.None else span.One kept
given_up None selected = span.None

-- ---- IfThenElse and WhileDoElse

-- the branch after an answer of the condition: the child at 1 after SUCCESS, and the child at 2 after FAILURE
abbrev pub branch_after : Answer → ℕ
branch_after Success = 1
branch_after a = 2

-- whether a node with so many children has a branch after this answer of its condition
abbrev pub has_branch : ℕ → Answer → Bool
has_branch n Success = true
has_branch n Failure = nat_lt 2 n
has_branch n a = false

-- a visit stops at the condition where there is no branch after it, else at the branch
abbrev pub choice_stops : ℕ → List Answer → Bool
choice_stops n [] = false
choice_stops n (a ∷ []) = not (has_branch n a)
choice_stops n (a ∷ branch) = true

-- the answers of the condition and of the branch after it, before which these children are reset by its place
abbrev pub branch_answers : (ℕ → Span) → ℕ → List Answer → List Told
branch_answers resets place [] = []
branch_answers resets place (b ∷ more) = answers_after (resets place) place b ∷ []

abbrev pub choice_answers : (ℕ → Span) → List Answer → List Told
choice_answers resets [] = []
choice_answers resets (a ∷ branch) = answers_after span.None 0 a ∷ branch_answers resets (branch_after a) branch

-- an IfThenElse keeps the branch that is RUNNING, and none where its condition is
abbrev pub branch_kept : List Answer → Option ℕ
branch_kept (a ∷ b ∷ more) = Some (branch_after a)
branch_kept answers = None
