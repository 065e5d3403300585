-- The words in which the rules of nodes are written.
use Rattle.std.specs.Prelude.{ℕ, ◌+◌, Bool, true, false, not, if◌then◌else◌, nat_eq, nat_le, List, [], ◌∷◌, slice_index_or}
use Rattle.spec_run.specs.declared.memory.Memo.{Memo}
use Rattle.spec_run.specs.declared.memory.Memo.TheVariants.{Nothing}
use Rattle.spec_run.specs.declared.memory.Memory.{Memory}
use Rattle.spec_run.specs.declared.moves.Span.{Span}
use Rattle.spec_run.specs.declared.moves.Span.TheVariants as span
use Rattle.spec_run.specs.declared.status.Answer.{Answer}
use Rattle.spec_run.specs.declared.status.Answer.TheVariants.{Skipped}
use Rattle.spec_run.specs.declared.status.Status.{Status}
use Rattle.spec_run.specs.declared.status.Status.TheVariants as status
use Rattle.spec_run.specs.Done.{Done, State, done, follow}

-- a child as its parent sees it: its status, and what a reset and a visit of it do, from the memories of
-- all children and the state on
pub record Child : Type 0 where
  pub status : List Memory → Status
  pub reset : List Memory → State → Done (Unit {0}) (List Memory)
  pub visit : List Memory → State → Done Answer (List Memory)

-- no child comes after the last one
abbrev pub nobody : Child
nobody = record { status = λ ms. status.Idle; reset = λ ms s. done tt ms s; visit = λ ms s. done Skipped ms s }

-- the child at a place
abbrev pub child_at : List Child → ℕ → Child
child_at children place = slice_index_or children place nobody

-- what a node gives: its answer, and the memo that it keeps
pub record Given : Type 0 where
  pub answer : Answer
  pub memo : Memo

-- what a node does with its children
abbrev pub Rule : Type 0
Rule = List Child → List Memory → State → Done Given (List Memory)

-- the answer is given, and this memo is kept
unfoldable pub keep : Answer → Memo → Rule
keep answer memo = λ children ms s. done (record { answer = answer; memo = memo }) ms s

-- the child at this place is visited, and what follows hears its answer
unfoldable pub visit : ℕ → (Answer → Rule) → Rule
visit place go = λ children ms s.
    follow ((child_at children place).visit ms s) (λ ms1. ms1) (λ a ms1 s1. go a children ms1 s1)

-- whether a child has completed
abbrev pub is_completed : Status → Bool
is_completed status.Success = true
is_completed status.Failure = true
is_completed _ = false

-- a child that has completed is not visited, and any other is
unfoldable pub visit_or_pass : ℕ → Rule → (Answer → Rule) → Rule
visit_or_pass place passed go = λ children ms s.
    if is_completed ((child_at children place).status ms) then passed children ms s else visit place go children ms s

-- whether a span has the child at this place
abbrev pub spans : Span → ℕ → Bool
spans span.None place = false
spans span.All place = true
spans (span.From first) place = nat_le first place
spans (span.AllBut other) place = not (nat_eq place other)
spans (span.One only) place = nat_eq place only

-- a child is reset where the span has its place
abbrev pub reset_within : Span → ℕ → Child → List Memory → State → Done (Unit {0}) (List Memory)
reset_within span place c ms s = if spans span place then c.reset ms s else done tt ms s

-- those of these children that a span has are reset in order; the first of these has this place
abbrev pub resets : Span → List Child → ℕ → List Memory → State → Done (Unit {0}) (List Memory)
resets span [] place ms s = done tt ms s
resets span (c ∷ cs) place ms s =
    follow (reset_within span place c ms s) (λ ms1. ms1) (λ _ ms1 s1. resets span cs (place + 1) ms1 s1)

-- the children of a span are reset in order, before what follows
unfoldable pub reset : Span → Rule → Rule
reset span rule = λ children ms s.
    follow (resets span children 0 ms s) (λ ms1. ms1) (λ _ ms1 s1. rule children ms1 s1)

-- the node is over: all children are reset in order, the memo is cleared and the answer is given
abbrev pub over : Answer → Rule
over answer = reset span.All (keep answer Nothing)
