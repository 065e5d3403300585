-- Places of codes that stand one after the other, and what is said of each instruction of a code.
use Rattle.std.proofs.Common.{◌≡◌, ℕ, zero, suc, ◌+◌, ◌≤◌, max, Bool, true, false, ◌&&◌, List, [], ◌∷◌, ◌++◌, length, refl, sym, ap, ◌∙◌, arith, true≢false}
use Rattle.std.specs.Prelude.{Some, Result, Ok, Err, ◌||◌, slice_get, slice_index_or}
use Rattle.std.proofs.lemmas.Option.{slice_get_within}
use Rattle.std.proofs.lemmas.List.Sums.{sum_by-append, sum_by-cons}
use Rattle.spec_script.specs.declared.value.Value.{Value}
use Rattle.spec_script.specs.declared.fault.ExecFault.{ExecFault}
use Rattle.spec_script.specs.declared.cells.Seen.{Seen}
use Rattle.spec_script.specs.declared.cells.Seen.TheVariants as seen
use Rattle.spec_script.specs.Entries.{seen_number, look_of}
use Rattle.script_code.specs.declared.instr.Instr.{Instr}
use Rattle.script_code.specs.declared.instr.Instr.TheVariants as instr
use Rattle.script_code.specs.Meeting.{gives_text, is_ok_and}
use Rattle.script_code.specs.Places.{at_place}
use Rattle.script_code.specs.Rooms.{fits_from}
use Rattle.script_code.specs.Running.{Step, step_of, puts_text, meets_from, code_meets, instr_reach, code_reach, instr_texts, code_texts}

module _ {R : Type 0} (makes : Instr → (ℕ → R) → R) (end past : R) where
  -- a place behind the first of two codes
  pub following : (a b : List Instr) (n : ℕ) → at_place makes end past (a ++ b) (length a + n) ≡ at_place makes end past b n
  following [] b n = let e : length {A = Instr} [] + n ≡ n = omega arith in ap (at_place makes end past b) e
  following (i ∷ a) b n =
      let e : length (i ∷ a) + n ≡ suc (length a + n) = omega arith in
      ap (at_place makes end past ((i ∷ a) ++ b)) e ∙ following a b n

  -- what the instruction at a place makes of those behind it
  pub opens : (code : List Instr) (place : ℕ) (i : Instr) → slice_get code place ≡ Some i → at_place makes end past code place ≡ makes i (λ n. at_place makes end past code (place + 1 + n))
  opens [] place i is = absurd (omega (arith, slice_get_within [] place i is))
  opens (j ∷ code) zero i is =
      let same : j ≡ i = cc in
      let shift : (n : ℕ) → at_place makes end past code n ≡ at_place makes end past (j ∷ code) (0 + 1 + n) =
      λ n. let e : suc n ≡ 0 + 1 + n = omega arith in ap (at_place makes end past (j ∷ code)) e in
      λ k. makes (same k) (λ n. shift n k)
  opens (j ∷ code) (suc place) i is =
      let shift : (n : ℕ) → at_place makes end past code (place + 1 + n) ≡ at_place makes end past (j ∷ code) (suc place + 1 + n) =
      λ n. let e : suc (place + 1 + n) ≡ suc place + 1 + n = omega arith in ap (at_place makes end past (j ∷ code)) e in
      opens code place i is ∙ (λ k. makes i (λ n. shift n k))

-- a place that a stack has room for is no place past the end
pub place_within : (room : ℕ) (code : List Instr) (place height : ℕ) → fits_from room code place height ≡ true → place ≤ length code
place_within room [] zero height fit = omega arith
place_within room [] (suc n) height fit = absurd (true≢false (sym fit))
place_within room (i ∷ code) zero height fit = omega arith
place_within room (i ∷ code) (suc n) height fit = omega (arith, place_within room code n height fit)

pub and_first : (a b : Bool) → (a && b) ≡ true → a ≡ true
and_first true b h = refl
and_first false b h = h

pub and_second : (a b : Bool) → (a && b) ≡ true → b ≡ true
and_second true b h = h
and_second false b h = absurd (true≢false (sym h))

-- the slots that one instruction of a code needs
pub reach_at : (code : List Instr) (place : ℕ) (i : Instr) → slice_get code place ≡ Some i → instr_reach i ≤ code_reach code
reach_at [] place i is = absurd (omega (arith, slice_get_within [] place i is))
reach_at (j ∷ code) zero i is = let same : j ≡ i = cc in omega (arith, ap instr_reach same)
reach_at (j ∷ code) (suc place) i is = omega (arith, reach_at code place i is)

pub reach-append : (a b : List Instr) → code_reach (a ++ b) ≡ max (code_reach a) (code_reach b)
reach-append [] b = omega arith
reach-append (i ∷ a) b = omega (arith, reach-append a b)

module _ (look : ℕ → Result Value ExecFault) (textless : (k : ℕ) → gives_text (look k) ≡ false) where
  none_put : (i : Instr) → instr_texts i ≡ 0 → puts_text look i ≡ false
  none_put (instr.Text t) none = absurd (omega (arith, none))
  none_put (instr.Slot k) none = textless k
  none_put i none = refl

  met_next : (code : List Instr) → ((place : ℕ) (stack : List Value) → meets_from look code place stack ≡ false) → (r : Result Step ExecFault) → is_ok_and r (λ s. meets_from look code s.0 s.1) ≡ false
  met_next code none (Ok s) = none s.0 s.1
  met_next code none (Err f) = refl

  -- a code without text literals, over slots that give no text
  textless_meets : (code : List Instr) → code_texts code ≡ 0 → (place : ℕ) (stack : List Value) → meets_from look code place stack ≡ false
  textless_meets [] none zero stack = refl
  textless_meets [] none (suc place) stack = refl
  textless_meets (i ∷ code) none zero stack =
      ap (λ b. b || is_ok_and (step_of look i stack) (λ s. meets_from look code s.0 s.1)) (none_put i (omega (arith, sum_by-cons instr_texts i code, none)))
      ∙ met_next code (textless_meets code (omega (arith, none, sum_by-cons instr_texts i code))) (step_of look i stack)
  textless_meets (i ∷ code) none (suc place) stack = textless_meets code (omega (arith, sum_by-cons instr_texts i code, none)) place stack

no_text_seen : (slot : ℕ) (s : Seen) → gives_text (seen_number slot s) ≡ false
no_text_seen slot (seen.Int n) = refl
no_text_seen slot seen.Text = refl
no_text_seen slot seen.Absent = refl

-- a code without text literals, where a text that is looked at is a fault
pub none_met : (sights : List Seen) (code : List Instr) → code_texts code ≡ 0 → code_meets (look_of sights) code ≡ false
none_met sights code none = textless_meets (look_of sights) (λ k. no_text_seen k (slice_index_or sights k seen.Absent)) code none 0 []

pub texts-append : (a b : List Instr) → code_texts (a ++ b) ≡ code_texts a + code_texts b
texts-append a b = sum_by-append instr_texts a b
