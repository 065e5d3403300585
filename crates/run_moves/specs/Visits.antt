-- What is heard of the children in one visit, as a whole list.
use Rattle.std.specs.Prelude.{ℕ, ◌+◌, ◌<◌, ◌≤◌, ◌≡◌, Bool, true, false, if◌then◌else◌, List, [], ◌∷◌, length, take, Option, Some, None}
use Rattle.spec_run.specs.declared.memory.Memory.{Memory}
use Rattle.spec_run.specs.declared.moves.Heard.{Heard}
use Rattle.spec_run.specs.declared.moves.Heard.TheVariants.{Begin, Answered, Passed}
use Rattle.spec_run.specs.declared.moves.Span.{Span}
use Rattle.spec_run.specs.declared.moves.Span.TheVariants as span
use Rattle.spec_run.specs.declared.status.Answer.{Answer}
use Rattle.spec_run.specs.declared.status.Status.{Status}
use Rattle.spec_tree.specs.declared.term.Kind.{Kind}
use Rattle.spec_tree.specs.declared.term.Kind.TheVariants.{Parallel}
use Rattle.spec_run.specs.Done.{Done, State, done, follow}
use Rattle.base_tables.specs.Moves.{after_resets, hears}
use Rattle.spec_run.specs.Steps.{Child, Rule, child_at, is_completed, resets}

-- ---- What a rule hears

-- what is heard of one child in a visit, and the children that are reset before it is visited
pub record Told : Type 0 where
  pub reset : Span
  pub heard : Heard

-- the place of the child that is heard of
abbrev pub place_of : Heard → ℕ
place_of (Begin picked) = 0
place_of (Answered place a) = place
place_of (Passed place) = place

-- a node of this kind with this rule still to follow visits these children, or passes them over, one after the
-- other; and where it hears this of them, that rule is left to follow
abbrev pub Hears : Kind → Rule → List Told → Rule → Type 0
Hears kind rule [] rest = rule ≡ rest
Hears kind rule (t ∷ more) rest =
    (go : Heard → Rule) × (rule ≡ after_resets t.reset (hears kind (place_of t.heard) go)) × Hears kind (go t.heard) more rest

-- the answers of children in order, of which the first has this place
abbrev pub answers_from : ℕ → List Answer → List Told
answers_from place [] = []
answers_from place (a ∷ more) = record { reset = span.None; heard = Answered place a } ∷ answers_from (place + 1) more

-- of a Parallel's child: its answer, or none where it had completed in an earlier visit and is passed over
abbrev pub heard_at : ℕ → Option Answer → Heard
heard_at place (Some a) = Answered place a
heard_at place None = Passed place

abbrev pub heard_from : ℕ → List (Option Answer) → List Told
heard_from place [] = []
heard_from place (o ∷ more) = record { reset = span.None; heard = heard_at place o } ∷ heard_from (place + 1) more

-- ---- What children say

-- a Parallel passes over a child that has completed, and no other kind passes over any
abbrev pub passes_over : Kind → Status → Bool
passes_over Parallel status = is_completed status
passes_over _ status = false

-- what the child at a place says, from these memories and this state on
abbrev pub says : Kind → List Child → ℕ → List Memory → State → Done Heard (List Memory)
says kind cs place ms s =
    if passes_over kind ((child_at cs place).status ms) then done (Passed place) ms s
    else follow ((child_at cs place).visit ms s) (λ ms1. ms1) (λ a ms1 s1. done (Answered place a) ms1 s1)

-- what all children of a list say, one after the other, each after the resets before it
abbrev pub all_say : Kind → List Child → List Told → List Memory → State → Done (List Heard) (List Memory)
all_say kind cs [] ms s = done [] ms s
all_say kind cs (t ∷ more) ms s =
    follow (resets t.reset cs 0 ms s) (λ ms1. ms1) (λ _ ms1 s1.
    follow (says kind cs (place_of t.heard) ms1 s1) (λ ms2. ms2) (λ heard ms2 s2.
    follow (all_say kind cs more ms2 s2) (λ ms3. ms3) (λ others ms3 s3. done (heard ∷ others) ms3 s3)))

-- ---- Whole visits

-- a list is that of one visit: it ends at the first place at which the visit stops, by what was heard so far; and
-- where it stops at none, with the last of as many children or turns as are left
pub record IsVisit {A : Type 0} (stops : List A → Bool) (most : ℕ) (heard : List A) : Type 0 where
  pub some : 1 ≤ length heard
  pub within : length heard ≤ most
  pub goes_on : (k : ℕ) → 1 ≤ k → k < length heard → stops (take k heard) ≡ false
  pub ends : length heard < most → stops heard ≡ true
