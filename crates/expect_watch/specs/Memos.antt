-- What is kept for one expectation, note by note and event by event, and when it is lost.
use Rattle.std.specs.Prelude.{ℕ, ℤ, ◌+◌, ◌-◌, ◌^◌, ◌≡◌, ◌≤◌, min, List, nat_le, nat_lt, Bool, true, false, not, ◌&&◌, ◌||◌, if◌then◌else◌}
use Rattle.std.specs.Ordering.{nat_cmp}
use Rattle.spec_script.specs.Operators.{compares}
use Rattle.spec_run.specs.declared.note.Note.{Note}
use Rattle.spec_run.specs.declared.status.Answer.TheVariants as answer
use Rattle.spec_world.specs.declared.world.Fact.{Fact}
use Rattle.run_driver.specs.Ready.{expr_reach}
use Rattle.spec_expect.specs.declared.expectation.Expectation.{Expectation}
use Rattle.spec_expect.specs.declared.expectation.Expectation.TheVariants as expected
use Rattle.spec_expect.specs.Met.{Held, are_together, is_end, is_root, is_so, is_start, may_compare}
use Rattle.expect_watch.specs.declared.memo.Memo.{Memo}
use Rattle.expect_watch.specs.declared.memo.Memo.TheVariants.{Always, At, By, NeverAnswers, StartsOnly, Starts, Ends, NeverWith, Order}
use Rattle.expect_watch.specs.Tests.{is_ready_so}

-- ---- Before the first event

-- the memo of an expectation of a run with these facts, which have these values
abbrev pub IsMemoOf : List Fact → List ℤ → Expectation → Memo → Type 0
IsMemoOf names facts (expected.Always e) (Always ready) = is_ready_so ready ≡ is_so names e
IsMemoOf names facts (expected.At ms e) (At ms2 ready is_past was_so) =
    (ms2 ≡ ms) × (is_ready_so ready ≡ is_so names e) × (is_past ≡ false) × (was_so ≡ is_so names e facts)
IsMemoOf names facts (expected.By ms runner answer) memo = memo ≡ By ms runner answer false
IsMemoOf names facts (expected.NeverAnswers runner answer) memo = memo ≡ NeverAnswers runner answer
IsMemoOf names facts (expected.StartsOnly leaves e) (StartsOnly leaves2 ready) = (leaves2 ≡ leaves) × (is_ready_so ready ≡ is_so names e)
IsMemoOf names facts (expected.Starts leaves op count) memo = memo ≡ Starts leaves op count 0
IsMemoOf names facts (expected.Ends leaves answer ms) memo = memo ≡ Ends leaves answer ms false
IsMemoOf names facts (expected.NeverWith first second) memo = memo ≡ NeverWith first second
IsMemoOf names facts (expected.Order first second) memo = memo ≡ Order first second false
IsMemoOf names facts _ memo = ⊥

-- how many places the expression of a memo looks at: eight of inputs, and the facts
abbrev pub reach_of : Memo → ℕ
reach_of (Always ready) = expr_reach ready
reach_of (At ms ready is_past was_so) = expr_reach ready
reach_of (StartsOnly leaves ready) = expr_reach ready
reach_of _ = 0

-- it looks at so many facts at most
abbrev pub Fits : ℕ → Memo → Type 0
Fits facts memo = reach_of memo ≤ 8 + facts

-- ---- Notes

-- one more, in 64 bits
abbrev pub one_more : ℕ → ℕ
one_more count = min (count + 1) (2 ^ 64 - 1)

-- after a note of an event at a moment
abbrev pub after_note : ℕ → Note → Memo → Memo
after_note at note (By ms runner answer is_met) = By ms runner answer (is_met || nat_le at ms && is_root runner answer note)
after_note at note (Starts leaves op count starts) = Starts leaves op count (if is_start leaves note then one_more starts else starts)
after_note at note (Ends leaves answer ms is_met) = Ends leaves answer ms (is_met || nat_le at ms && is_end leaves answer note)
after_note at note (Order first second has_ended) = Order first second (has_ended || is_end first answer.Success note)
after_note at note memo = memo

-- whether it is lost by a note, with these facts before it and these leaves held after it
abbrev pub is_lost_by : Note → List ℤ → List Held → Memo → Bool
is_lost_by note facts held (NeverAnswers runner answer) = is_root runner answer note
is_lost_by note facts held (StartsOnly leaves ready) = is_start leaves note && not (is_ready_so ready facts)
is_lost_by note facts held (NeverWith first second) = are_together first second held
is_lost_by note facts held (Order first second has_ended) = is_start second note && not has_ended
is_lost_by note facts held memo = false

-- ---- Events

-- after an event at a moment, with these facts after it
abbrev pub after_event : ℕ → List ℤ → Memo → Memo
after_event at facts (At ms ready is_past was_so) =
    At ms ready (is_past || nat_lt ms at) (if is_past || nat_lt ms at then was_so else is_ready_so ready facts)
after_event at facts memo = memo

-- whether it is lost by what was seen so far, before any event too
abbrev pub is_lost_now : List ℤ → Memo → Bool
is_lost_now facts (Always ready) = not (is_ready_so ready facts)
is_lost_now facts (Starts leaves op count starts) = not (may_compare op starts count)
is_lost_now facts memo = false

-- whether it is not met up to its moment, and this one is past it
abbrev pub is_late : ℕ → Memo → Bool
is_late at (By ms runner answer is_met) = nat_lt ms at && not is_met
is_late at (Ends leaves answer ms is_met) = nat_lt ms at && not is_met
is_late at memo = false

-- whether it is lost with the end of an event at a moment
abbrev pub is_lost_after : ℕ → List ℤ → Memo → Bool
is_lost_after at facts (At ms ready is_past was_so) = (is_past || nat_lt ms at) && not was_so
is_lost_after at facts memo = is_late at memo || is_lost_now facts memo

-- whether a run that ends here meets it, where it is not lost
abbrev pub is_met : Memo → Bool
is_met (At ms ready is_past was_so) = was_so
is_met (By ms runner answer met) = met
is_met (Ends leaves answer ms met) = met
is_met (Starts leaves op count starts) = compares op (nat_cmp starts count)
is_met memo = true
