-- What is read of an input up to a line feed, and what comes next of it.
use Rattle.std.proofs.Common.{◌≡◌, ◌≢◌, ◌&&◌, ap₂, true≢false, refl, ℕ, ◌+◌, ◌-◌, ◌<◌, ◌≤◌, Bool, true, false, List, [], ◌++◌, All, length, Option, None, Some, Result, Ok, Err, OnSome, ◌∷◌, append-nil, append_assoc, cond, ltb, ne_eqb, take, take_at, sym, ap, subst, ◌∙◌, arith, ⊎_elim, get_or, length-append, eq-eqb}
use Rattle.std.proofs.KnownBytes.{Consumes-trans}
use Rattle.std.proofs.Transfers.{All-of_StopsAt, StopsAt-append}
use Rattle.std.proofs.lemmas.Bool.{cases_lt, le-ltb, lt-ltb}
use Rattle.std.proofs.lemmas.List.{get_or-append-add, get_or_default}
use Rattle.std.proofs.lemmas.List.Elements.{All-head, All-tail}
use Rattle.std.specs.Io.{IsEmptyOrEndsWith, StopsAt}
use Rattle.std.specs.Io.BufRead.{ends_with_byte}
use Rattle.std.specs.Io.KnownBytes.{Consumes, IsAtEnd}
use Rattle.base_outside.specs.InLines.{IsLine, IsRead, Took, WasRead}
use Rattle.spec_outside.specs.declared.line_fault.LineFault.{LineFault}
use Rattle.spec_outside.specs.declared.line_fault.LineFault.TheVariants as fault
use Rattle.spec_outside.specs.Lines.{IsTaken, Line, Long, TakesNext, before_feed, from_feed, most_line_bytes, next_by, next_in}

-- what ends with a line feed does so behind other bytes
ends_behind : (room part : List ℕ) → 0 < length part → IsEmptyOrEndsWith part 10 → ends_with_byte 10 (room ++ part) ≡ true
ends_behind room part some ends =
    let last : get_or (room ++ part) (length (room ++ part) - 1) 0 ≡ 10 =
    ap (λ n. get_or (room ++ part) n 0) (let place : length (room ++ part) - 1 ≡ length room + (length part - 1) = omega (arith, length-append room part, some) in place)
    ∙ get_or-append-add room part (length part - 1) 0 ∙ ends some in
    let long : 0 < length (room ++ part) = omega (arith, length-append room part, some) in
    ap₂ (λ a b. a && b) (lt-ltb 0 _ long) (eq-eqb _ 10 last)

-- an input that had told its bytes, and had none left
was_at_end : (bytes room : List ℕ) (b : Option (List ℕ)) (rest : List ℕ) → Consumes (Some bytes) b room → OnSome b (IsAtEnd (Some rest)) → rest ≡ []
was_at_end bytes room None rest consumed ended = absurd consumed
was_at_end bytes room (Some left) rest consumed ended = ended

-- the turn that reads the last bytes of a line, or too many
pub was_read : (a b c : Option (List ℕ)) (room new : List ℕ) (met : Bool) → Consumes a b room → All (λ x. x ≢ 10) room
    → Took met room new b c → (met ≡ false → most_line_bytes < length new) → length new ≤ most_line_bytes + 1 → WasRead a new c
was_read None b c room new met consumed unmet took last few = tt
was_read (Some bytes) b None room new met consumed unmet took last few = absurd (Consumes-trans (Some bytes) b None room took.part consumed took.consumed)
was_read (Some bytes) b (Some rest) room new met consumed unmet took last few =
    record {
      all = Consumes-trans (Some bytes) b (Some rest) room took.part consumed took.consumed ∙ ap (λ l. l ++ rest) (sym took.added);
      stops = subst (λ l. StopsAt l 10) (sym took.added) (StopsAt-append room took.part 10 unmet took.stops);
      few = few;
      ends = ended met refl;
    }
  where
    ended : (m : Bool) → met ≡ m → ends_with_byte 10 new ≡ false → length new ≤ most_line_bytes → rest ≡ []
    ended true is no_feed short =
        ⊎_elim
        (λ some. absurd (true≢false (sym (ends_behind room took.part some (took.ends is)) ∙ ap (ends_with_byte 10) (sym took.added) ∙ no_feed)))
        (λ none. was_at_end bytes room b rest consumed (took.at_end is (omega (arith, none))))
        (cases_lt 0 (length took.part))
    ended false is no_feed short = absurd (omega (arith, last is, short))

-- ---- What comes next

-- a front without a line feed is before it
before_open : (xs ys : List ℕ) → All (λ x. x ≢ 10) xs → before_feed (xs ++ ys) ≡ xs ++ before_feed ys
before_open [] ys unmet = refl
before_open (x ∷ xs) ys unmet =
    ap (λ b. cond b [] (x ∷ before_feed (xs ++ ys))) (ne_eqb x 10 (All-head (λ y. y ≢ 10) x xs unmet))
    ∙ ap (λ l. x ∷ l) (before_open xs ys (All-tail (λ y. y ≢ 10) x xs unmet))

from_open : (xs ys : List ℕ) → All (λ x. x ≢ 10) xs → from_feed (xs ++ ys) ≡ from_feed ys
from_open [] ys unmet = refl
from_open (x ∷ xs) ys unmet =
    ap (λ b. cond b (x ∷ xs ++ ys) (from_feed (xs ++ ys))) (ne_eqb x 10 (All-head (λ y. y ≢ 10) x xs unmet))
    ∙ from_open xs ys (All-tail (λ y. y ≢ 10) x xs unmet)

-- a line with its line feed, and what comes after it
next_line : (text rest : List ℕ) → All (λ x. x ≢ 10) text → length text ≤ most_line_bytes → next_in (text ++ 10 ∷ rest) ≡ Line text rest
next_line text rest unmet short =
    let before : before_feed (text ++ 10 ∷ rest) ≡ text = before_open text (10 ∷ rest) unmet ∙ append-nil text in
    ap₂ (λ b l. cond b Long (next_by (before_feed (text ++ 10 ∷ rest)) l)) (ap (λ l. ltb most_line_bytes (length l)) before ∙ le-ltb most_line_bytes _ short) (from_open text (10 ∷ rest) unmet)
    ∙ ap (λ l. Line l rest) before

-- bytes without a line feed, at the end of the input
next_open : (bytes : List ℕ) → All (λ x. x ≢ 10) bytes → length bytes ≤ most_line_bytes → next_in bytes ≡ next_by bytes []
next_open bytes unmet short =
    let before : before_feed bytes ≡ bytes = ap before_feed (sym (append-nil bytes)) ∙ before_open bytes [] unmet ∙ append-nil bytes in
    let from : from_feed bytes ≡ [] = ap from_feed (sym (append-nil bytes)) ∙ from_open bytes [] unmet in
    ap (λ b. cond b Long (next_by (before_feed bytes) (from_feed bytes))) (ap (λ l. ltb most_line_bytes (length l)) before ∙ le-ltb most_line_bytes _ short)
    ∙ ap₂ next_by before from

-- too many bytes without a line feed
next_long : (bytes rest : List ℕ) → All (λ x. x ≢ 10) bytes → most_line_bytes < length bytes → next_in (bytes ++ rest) ≡ Long
next_long bytes rest unmet long =
    let before = before_open bytes rest unmet in
    let longer : most_line_bytes < length (before_feed (bytes ++ rest)) = omega (arith, ap length before, length-append bytes (before_feed rest), long) in
    ap (λ b. cond b Long (next_by (before_feed (bytes ++ rest)) (from_feed (bytes ++ rest)))) (lt-ltb most_line_bytes _ longer)

-- bytes that do not end with a line feed, of which no other one is one, have none
unmet_in : (read : List ℕ) → StopsAt read 10 → ends_with_byte 10 read ≡ false → All (λ x. x ≢ 10) read
unmet_in read stops no_feed =
    ⊎_elim
    (λ some.
    let last = get_or read (length read - 1) 0 in
    All-of_StopsAt read 10 (length read) last refl (λ none. absurd (omega (arith, none, some))) (get_or_default read (length read - 1) 0 last (omega (arith, some)))
    (λ is. absurd (true≢false (sym (ap₂ (λ a b. a && b) (lt-ltb 0 _ some) (eq-eqb last 10 is)) ∙ no_feed))) stops)
    (λ none. λ k d within. absurd (omega (arith, none, within)))
    (cases_lt 0 (length read))

taken_of : (bytes read rest left : List ℕ) (result : Result Bool LineFault) → IsRead bytes read rest → IsLine read result left → IsTaken (next_in bytes) result left (Some rest)
taken_of bytes read rest left (Ok true) was is =
    let whole : bytes ≡ left ++ 10 ∷ rest = was.all ∙ ap (λ l. l ++ rest) is ∙ append_assoc left (10 ∷ []) rest in
    let long : length read ≡ length left + 1 = ap length is ∙ length-append left (10 ∷ []) in
    let unmet : All (λ x. x ≢ 10) left =
    subst (All (λ x. x ≢ 10)) (ap₂ take (let n : length read - 1 ≡ length left = omega (arith, long) in n) is ∙ take_at left (10 ∷ []) (length left) refl) was.stops in
    subst (λ n. IsTaken n (Ok true) left (Some rest)) (sym (ap next_in whole ∙ next_line left rest unmet (omega (arith, long, was.few)))) (refl, refl)
taken_of bytes read rest left (Ok false) was is =
    let none : rest ≡ [] = was.ends (ap (ends_with_byte 10) is) (omega (arith, ap length is)) in
    subst (λ n. IsTaken n (Ok false) left (Some rest)) (sym (ap next_in (was.all ∙ ap₂ (λ a b. a ++ b) is none))) tt
taken_of bytes read rest left (Err fault.TooLong) was is =
    subst (λ n. IsTaken n (Err fault.TooLong) left (Some rest)) (sym (ap next_in was.all ∙ next_long read rest (unmet_in read was.stops is.0) is.1)) tt
taken_of bytes read rest left (Err fault.Cut) was is =
    let none : rest ≡ [] = was.ends is.0 is.2 in
    let whole : bytes ≡ read = was.all ∙ ap (λ l. read ++ l) none ∙ append-nil read in
    subst (λ n. IsTaken n (Err fault.Cut) left (Some rest)) (sym (ap next_in whole ∙ next_open read (unmet_in read was.stops is.0) is.2)) (cut read is.1)
  where
    cut : (bytes : List ℕ) → 0 < length bytes → IsTaken (next_by bytes []) (Err fault.Cut) left (Some rest)
    cut [] some = absurd (omega (arith, some))
    cut (b ∷ bytes) some = tt
taken_of bytes read rest left (Err fault.Failed) was is = absurd is
taken_of bytes read rest left (Err fault.NoMemory) was is = absurd is

-- what was read, as it comes next of the input
pub taken : (ahead after : Option (List ℕ)) (read left : List ℕ) (result : Result Bool LineFault) → WasRead ahead read after → IsLine read result left
    → TakesNext ahead result left after
taken None after read left result was is = tt
taken (Some bytes) None read left result was is = absurd was
taken (Some bytes) (Some rest) read left result was is = taken_of bytes read rest left result was is
