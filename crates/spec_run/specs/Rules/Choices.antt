-- Switch, IfThenElse and WhileDoElse: they choose one child.
use Rattle.std.specs.Prelude.{ℕ, if◌then◌else◌, nat_eq, nat_lt, Option, Some, None}
use Rattle.spec_run.specs.declared.memory.Memo.{Memo}
use Rattle.spec_run.specs.declared.memory.Memo.TheVariants.{Chosen}
use Rattle.spec_run.specs.declared.moves.Span.TheVariants.{AllBut, One}
use Rattle.spec_run.specs.declared.status.Answer.{Answer}
use Rattle.spec_run.specs.declared.status.Answer.TheVariants.{Success, Failure}
use Rattle.spec_run.specs.Rules.Answers.{pass_on}
use Rattle.spec_run.specs.Steps.{Rule, over, reset, visit}

-- the chosen child of a memo
abbrev pub chosen_of : Memo → Option ℕ
chosen_of (Chosen child) = child
chosen_of _ = None

-- the chosen child is visited and its answer passed on; while it is RUNNING the choice is kept
abbrev pub chosen_branch : ℕ → Rule
chosen_branch place = visit place (λ a. pass_on (Chosen (Some place)) a)

-- Switch: the picked child is visited; another one that was RUNNING is reset first
abbrev pub switch : Option ℕ → ℕ → Rule
switch (Some kept) picked = if nat_eq kept picked then chosen_branch picked else reset (One kept) (chosen_branch picked)
switch None picked = chosen_branch picked

-- IfThenElse: SUCCESS of the condition, child 0, goes to child 1, and FAILURE to child 2, or gives FAILURE
-- where there is none; RUNNING and SKIPPED are passed on
abbrev pub if_then_else_after : ℕ → Answer → Rule
if_then_else_after n Success = chosen_branch 1
if_then_else_after n Failure = if nat_lt 2 n then chosen_branch 2 else over Failure
if_then_else_after n a = pass_on (Chosen None) a

-- the branch that was chosen is visited, and the condition where none was
abbrev pub if_then_else : ℕ → Option ℕ → Rule
if_then_else n (Some place) = chosen_branch place
if_then_else n None = visit 0 (λ a. if_then_else_after n a)

-- WhileDoElse: all children but the branch are reset before it is visited; RUNNING keeps the memo
abbrev pub only_branch : ℕ → Memo → Rule
only_branch place memo = reset (AllBut place) (visit place (λ a. pass_on memo a))

-- SUCCESS of the condition, child 0, goes to child 1, and FAILURE to child 2, or gives FAILURE where there
-- is none; RUNNING and SKIPPED are passed on
abbrev pub while_do_else_after : ℕ → Memo → Answer → Rule
while_do_else_after n memo Success = only_branch 1 memo
while_do_else_after n memo Failure = if nat_lt 2 n then only_branch 2 memo else over Failure
while_do_else_after n memo a = pass_on memo a

-- each visit begins with the condition
abbrev pub while_do_else : ℕ → Memo → Rule
while_do_else n memo = visit 0 (λ a. while_do_else_after n memo a)
