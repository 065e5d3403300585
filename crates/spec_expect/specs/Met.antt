-- What each expectation says of a run, and when it is lost.
use Rattle.std.specs.Prelude.{ℕ, ℤ, ◌++◌, ◌||◌, List, [], ◌∷◌, take, nat_eq, nat_le, nat_lt, Bool, true, false, not, ◌&&◌, if◌then◌else◌, Result, Ok, Err}
use Rattle.std.specs.List.{count_by, filter, list_all, list_any, position_or_len}
use Rattle.std.specs.Ordering.{nat_cmp}
use Rattle.spec_script.specs.declared.syntax.Cmp.{Cmp}
use Rattle.spec_script.specs.declared.syntax.Cmp.TheVariants.{Equal, Differ, Less, AtMost, More, AtLeast}
use Rattle.spec_script.specs.declared.syntax.Expr.{Expr}
use Rattle.spec_script.specs.Operators.{compares}
use Rattle.spec_run.specs.declared.fault.Cause.{Cause}
use Rattle.spec_run.specs.declared.note.Note.{Note}
use Rattle.spec_run.specs.declared.note.Note.TheVariants.{Started, Ran, Halted, Root, Quenched}
use Rattle.spec_run.specs.declared.status.Answer.{Answer}
use Rattle.spec_run.specs.declared.status.Answer.TheVariants.{Running, Success, Failure, Skipped}
use Rattle.spec_run.specs.Leaf.{place_of, test_of}
use Rattle.spec_world.specs.declared.world.Fact.{Fact}
use Rattle.spec_expect.specs.declared.expectation.Expectation.{Expectation}
use Rattle.spec_expect.specs.declared.expectation.Expectation.TheVariants.{Always, At, By, NeverAnswers, StartsOnly, Starts, Ends, NeverWith, Order}
use Rattle.spec_expect.specs.Leaves.{is_marked}
use Rattle.spec_expect.specs.Stories.{Happening, Sight, Story, facts_after, happenings_in}

-- ---- Facts

-- a fault is not true
abbrev pub is_yes : Result Bool Cause → Bool
is_yes (Ok b) = b
is_yes (Err cause) = false

-- whether an expression over the facts of these names is true of their values, as that of a condition is
abbrev pub is_so : List Fact → Expr → List ℤ → Bool
is_so names e facts = is_yes (test_of (place_of [] names) e [] facts)

-- ---- What a note tells

abbrev pub is_same : Answer → Answer → Bool
is_same Running Running = true
is_same Success Success = true
is_same Failure Failure = true
is_same Skipped Skipped = true
is_same _ _ = false

-- one of these leaves was started
abbrev pub is_start : List Bool → Note → Bool
is_start leaves (Started uid answer) = is_marked leaves uid
is_start leaves _ = false

-- a call of one of these leaves was answered so
abbrev pub is_end : List Bool → Answer → Note → Bool
is_end leaves answer (Started uid given) = is_marked leaves uid && is_same given answer
is_end leaves answer (Ran uid given) = is_marked leaves uid && is_same given answer
is_end leaves answer _ = false

-- a tick of this runner was answered so
abbrev pub is_root : ℕ → Answer → Note → Bool
is_root runner answer (Root ticked given) = nat_eq ticked runner && is_same given answer
is_root runner answer _ = false

-- ---- Leaves that are held

-- a leaf of a runner, by the runner and its uid
abbrev pub Held : Type 0
Held = ℕ × ℕ

abbrev pub is_this : ℕ → ℕ → Held → Bool
is_this runner uid leaf = nat_eq leaf.0 runner && nat_eq leaf.1 uid

abbrev pub without : ℕ → ℕ → List Held → List Held
without runner uid held = filter (λ (leaf : Held). not (is_this runner uid leaf)) held

abbrev pub with_leaf : ℕ → ℕ → List Held → List Held
with_leaf runner uid held = if list_any (is_this runner uid) held then held else held ++ (runner, uid) ∷ []

-- the leaves that are held after a call of one that was answered so: it is held where it is RUNNING
abbrev pub after_call : Answer → ℕ → ℕ → List Held → List Held
after_call Running runner uid held = with_leaf runner uid held
after_call _ runner uid held = without runner uid held

-- .. after a note of a runner
abbrev pub held_after : ℕ → Note → List Held → List Held
held_after runner (Started uid answer) held = after_call answer runner uid held
held_after runner (Ran uid answer) held = after_call answer runner uid held
held_after runner (Halted uid) held = without runner uid held
held_after runner (Quenched own uid) held = without runner uid held
held_after runner _ held = held

-- .. after some happenings, where these were held before
abbrev pub held_from : List Held → List Happening → List Held
held_from held [] = held
held_from held (h ∷ happenings) = held_from (held_after h.runner h.note held) happenings

-- one of the first leaves is held, and another one, of the second ones, at the same runner
abbrev pub are_together : List Bool → List Bool → List Held → Bool
are_together first second held =
    list_any (λ (a : Held). is_marked first a.1 && list_any (λ (b : Held). nat_eq b.0 a.0 && is_marked second b.1 && not (nat_eq b.1 a.1)) held) held

-- ---- What an expectation says

-- the events up to a moment: those before the first one that is past it
abbrev pub until : ℕ → List Sight → List Sight
until ms sights = take (position_or_len (λ (s : Sight). nat_lt ms s.at) sights) sights

-- whether each happening is so, by those before it
abbrev pub each_after : (List Happening → Happening → Bool) → List Happening → List Happening → Bool
each_after is_so past [] = true
each_after is_so past (h ∷ happenings) = is_so past h && each_after is_so (past ++ h ∷ []) happenings

-- how often one of these leaves was started
abbrev pub starts_in : List Bool → List Sight → ℕ
starts_in leaves sights = count_by (λ (h : Happening). is_start leaves h.note) (happenings_in sights)

-- whether a run in a world with these facts meets an expectation
abbrev pub meets : List Fact → Expectation → Story → Bool
meets names (Always e) story = is_so names e story.facts && list_all (λ (s : Sight). is_so names e s.facts) story.sights
meets names (At ms e) story = is_so names e (facts_after story.facts (until ms story.sights))
meets names (By ms runner answer) story =
    list_any (λ (h : Happening). is_root runner answer h.note) (happenings_in (until ms story.sights))
meets names (NeverAnswers runner answer) story =
    list_all (λ (h : Happening). not (is_root runner answer h.note)) (happenings_in story.sights)
meets names (StartsOnly leaves e) story =
    list_all (λ (h : Happening). not (is_start leaves h.note) || is_so names e h.facts) (happenings_in story.sights)
meets names (Starts leaves op n) story = compares op (nat_cmp (starts_in leaves story.sights) n)
meets names (Ends leaves answer ms) story =
    list_any (λ (h : Happening). is_end leaves answer h.note) (happenings_in (until ms story.sights))
meets names (NeverWith first second) story =
    each_after (λ past h. not (are_together first second (held_from [] (past ++ h ∷ [])))) [] (happenings_in story.sights)
meets names (Order first second) story =
    each_after (λ past h. not (is_start second h.note) || list_any (λ (p : Happening). is_end first Success p.note) past) []
    (happenings_in story.sights)

-- ---- When an expectation is lost

-- no event is past a moment
abbrev pub are_until : ℕ → List Sight → Bool
are_until ms sights = list_all (λ (s : Sight). nat_le s.at ms) sights

-- whether a count, from which on it may still rise, may come to compare so
abbrev pub may_compare : Cmp → ℕ → ℕ → Bool
may_compare Equal count n = nat_le count n
may_compare Differ count n = true
may_compare Less count n = nat_lt count n
may_compare AtMost count n = nat_le count n
may_compare More count n = true
may_compare AtLeast count n = true

-- whether events that are still to come may mend what a run does not meet so far: before a moment is past, and where a count
-- is too low
abbrev pub may_mend : Expectation → Story → Bool
may_mend (At ms e) story = are_until ms story.sights
may_mend (By ms runner answer) story = are_until ms story.sights
may_mend (Ends leaves answer ms) story = are_until ms story.sights
may_mend (Starts leaves op n) story = may_compare op (starts_in leaves story.sights) n
may_mend _ story = false

-- whether an expectation is lost, whatever comes after these events
abbrev pub is_lost : List Fact → Expectation → Story → Bool
is_lost names expectation story = not (meets names expectation story) && not (may_mend expectation story)

-- the moment of the first event with which it is lost, after those events; of the last event where it is lost with none
abbrev pub lost_from : List Fact → Expectation → Story → List Sight → ℕ → ℕ
lost_from names expectation past [] at = at
lost_from names expectation past (s ∷ sights) at =
    if is_lost names expectation past then at
    else lost_from names expectation (record { facts = past.facts; sights = past.sights ++ s ∷ [] }) sights s.at

-- .. from the facts before the first event on, which have the moment 0
abbrev pub lost_at : List Fact → Expectation → Story → ℕ
lost_at names expectation story = lost_from names expectation (record { facts = story.facts; sights = [] }) story.sights 0
