-- What a write leaves of the record of an event.
use Rattle.std.proofs.Common.{◌≡◌, inl, inr, ℕ, ◌<◌, ◌*◌, ◌/◌, ◌%◌, ◌^◌, w64, List, Option, Some, None, true, false, get_or, is_some, length, replicate, set, zero, suc, refl, sym, ap, ◌∙◌, arith}
use Rattle.std.proofs.lemmas.Bool.{cases_eq}
use Rattle.std.proofs.lemmas.List.{get_or-set_other, get_or-set_same, length-replicate, length-set}
use Rattle.std.proofs.lemmas.Nat.Bits.{bit_at_set_other, bit_at_set_same}
use Rattle.std.specs.Int.{bit_at}
use Rattle.std.specs.Prelude.{bit_or}
use Rattle.spec_script.specs.declared.value.Value.{Value}
use Rattle.tree_board.specs.Records.{AreMarked, IsEmptyRecord, IsRecord, held_before}

-- nothing is kept of a slot whose group has no bit
clear_slot : (kept : Option (Option Value)) (bit : ℕ) → (is_some kept ≡ true → bit ≡ 1) → bit ≡ 0 → kept ≡ None
clear_slot None bit marked clear = refl
clear_slot (Some e) bit marked clear = absurd (omega (arith, clear, marked refl))

pub not_kept : (before : List (Option (Option Value))) (groups slot : ℕ) → AreMarked before groups → bit_at groups (slot / 64 % 64) ≡ 0 → get_or before slot None ≡ None
not_kept before groups slot marked clear = clear_slot (get_or before slot None) _ (marked slot) clear

pub none_from : (kept : Option (Option Value)) → is_some kept ≡ false → kept ≡ None
none_from None is = refl
none_from (Some e) is = cc

none_in : {A : Type 0} (count slot : ℕ) → get_or (replicate {A = Option A} count None) slot None ≡ None
none_in zero slot = refl
none_in (suc count) zero = refl
none_in (suc count) (suc slot) = none_in count slot

-- nothing is kept in places that are all empty
pub empty_record : (entries : List (Option Value)) (places : List (Option (Option Value))) (count : ℕ) → places ≡ replicate count None → length entries ≡ count → IsEmptyRecord entries places
empty_record entries places count none many =
    (ap length none ∙ length-replicate count None ∙ sym many, λ slot. ap (λ xs. get_or xs slot None) none ∙ none_in count slot)

-- what a slot held, of which something is kept, does not depend on what it holds
held_still : (kept : Option (Option Value)) (old new : Option Value) → is_some kept ≡ true → held_before kept old ≡ held_before kept new
held_still (Some e) old new is = refl
held_still None old new is = cc

module _ (opening entries : List (Option Value)) (before : List (Option (Option Value))) (groups : ℕ) (r : IsRecord opening entries before groups)
    (slot : ℕ) (low : slot < length entries) (value : Option Value) where
  abbrev after : List (Option Value)
  after = set entries slot value

  -- a slot is written of which something is kept
  pub written_again : is_some (get_or before slot None) ≡ true → IsRecord opening after before groups
  written_again kept = record {
    places = r.places ∙ sym (length-set entries slot value);
    many = r.many ∙ sym (length-set entries slot value);
    past = λ other within. elim (cases_eq other slot) [
      | inl here ↦ r.past other (omega (arith, within, length-set entries slot value))
          ∙ held_still (get_or before other None) _ _ (ap (λ s. is_some (get_or before s None)) here ∙ kept)
      | inr there ↦ r.past other (omega (arith, within, length-set entries slot value))
          ∙ ap (held_before (get_or before other None)) (sym (get_or-set_other entries slot other value None there))
    ];
    marked = r.marked;
  }

  -- a slot is written of which nothing was kept: what it held is kept, and its group gets its bit
  pub written_first : (more : ℕ) → get_or before slot None ≡ None → bit_at more (slot / 64 % 64) ≡ 1 →
      ((bit : ℕ) → bit_at groups bit ≡ 1 → bit_at more bit ≡ 1) → IsRecord opening after (set before slot (Some (get_or entries slot None))) more
  written_first more none set_now still =
      let entry : Option (Option Value) = Some (get_or entries slot None) in
      let there_too : slot < length before = omega (arith, low, r.places) in
      record {
        places = length-set before slot entry ∙ r.places ∙ sym (length-set entries slot value);
        many = r.many ∙ sym (length-set entries slot value);
        past = λ other within. elim (cases_eq other slot) [
          | inl here ↦ r.past other (omega (arith, within, length-set entries slot value))
              ∙ (λ i. held_before (get_or before (here i) None) (get_or entries (here i) None))
              ∙ ap (λ kept. held_before kept (get_or entries slot None)) none
              ∙ ap (λ kept. held_before kept (get_or after other None)) (sym (ap (λ s. get_or (set before slot entry) s None) here ∙ get_or-set_same before slot entry None there_too))
          | inr there ↦ r.past other (omega (arith, within, length-set entries slot value))
              ∙ (λ i. held_before (sym (get_or-set_other before slot other entry None there) i) (sym (get_or-set_other entries slot other value None there) i))
        ];
        marked = λ other kept. elim (cases_eq other slot) [
          | inl here ↦ ap (λ s. bit_at more (s / 64 % 64)) here ∙ set_now
          | inr there ↦ still _ (r.marked other (ap is_some (sym (get_or-set_other before slot other entry None there)) ∙ kept))
        ];
      }

-- the bit of a group is set, and the others stay
pub marks_bit : (groups k : ℕ) → k < 64 → bit_at (bit_or groups (1 * 2 ^ k % 18446744073709551616)) k ≡ 1
marks_bit groups k low = bit_at_set_same w64 groups k low

pub keeps_bits : (groups k : ℕ) → k < 64 → (bit : ℕ) → bit_at groups bit ≡ 1 → bit_at (bit_or groups (1 * 2 ^ k % 18446744073709551616)) bit ≡ 1
keeps_bits groups k low bit is = elim (cases_eq bit k) [
  | inl here ↦ ap (bit_at (bit_or groups (1 * 2 ^ k % 18446744073709551616))) here ∙ bit_at_set_same w64 groups k low
  | inr there ↦ bit_at_set_other w64 groups k low bit there ∙ is
]
