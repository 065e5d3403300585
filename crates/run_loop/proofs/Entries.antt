-- The entries of a blackboard that changed, and those that did not.
use Rattle.std.proofs.Common.{◌≡◌, ℕ, ℤ, zero, suc, ◌+◌, ◌-◌, ◌<◌, ◌≤◌, true, cond, List, [], ◌∷◌, ◌++◌, Option, Some, None, length, drop, get_or, refl, sym, ap, ◌∙◌, arith}
use Rattle.std.proofs.lemmas.Bool.Decides.{Decides-int_eq}
use Rattle.std.proofs.lemmas.List.{append-nil, drop_all, drop_more}
use Rattle.std.proofs.lemmas.Slice.Eq.{bytes_eq-Decides}
use Rattle.std.specs.Ordering.{int_eq}
use Rattle.std.specs.Str.{bytes_eq}
use Rattle.spec_script.specs.declared.value.Value.{Value}
use Rattle.spec_script.specs.declared.value.Value.TheVariants.{Int, Text}
use Rattle.spec_run.specs.Run.{changed_entries, had, with_change}

-- ---- An entry that did not change

bytes_same : (x : List ℕ) → bytes_eq x x ≡ true
bytes_same x = (bytes_eq-Decides x x).1 refl

int_same : (x : ℤ) → int_eq x x ≡ true
int_same x = (Decides-int_eq x x).1 refl

had_same : (v : Value) → had (Some v) v ≡ true
had_same (Int n) = int_same n
had_same (Text t) = bytes_same t

pub no_change : (runner slot : ℕ) (e : Option Value) (rest : List (ℕ × ℕ × Value)) → with_change runner slot e e rest ≡ rest
no_change runner slot None rest = refl
no_change runner slot (Some v) rest = ap (λ b. cond b rest ((runner, slot, v) ∷ rest)) (had_same v)

-- ---- Entries in a row

abbrev changed_on : ℕ → List (Option Value) → List (Option Value) → ℕ → List (ℕ × ℕ × Value)
changed_on runner olds news slot = changed_entries runner slot (drop slot olds) (drop slot news)

module _ (runner : ℕ) (olds news : List (Option Value)) (same : length olds ≡ length news) where
  -- what changed from a slot on is what this slot gives, and what the others give
  pub changed_here : (slot : ℕ) → slot < length news →
      changed_entries runner slot (drop slot olds) (drop slot news)
      ≡ with_change runner slot (get_or olds slot None) (get_or news slot None) (changed_entries runner (slot + 1) (drop (slot + 1) olds) (drop (slot + 1) news))
  changed_here slot within = λ i. changed_entries runner slot (drop_more olds slot None (omega (arith, within, same)) i) (drop_more news slot None within i)

  skipped : (n from : ℕ) → from + n ≤ length news → ((slot : ℕ) → from ≤ slot → slot < from + n → get_or news slot None ≡ get_or olds slot None) →
      changed_on runner olds news from ≡ changed_on runner olds news (from + n)
  skipped zero from within alike = let e : from ≡ from + 0 = omega arith in ap (changed_on runner olds news) e
  skipped (suc n) from within alike =
      let e : from + 1 + n ≡ from + suc n = omega arith in
      changed_here from (omega (arith, within))
      ∙ ap (λ new. with_change runner from (get_or olds from None) new (changed_on runner olds news (from + 1))) (alike from (omega arith) (omega arith))
      ∙ no_change runner from (get_or olds from None) _
      ∙ skipped n (from + 1) (omega (arith, within)) (λ slot low high. alike slot (omega (arith, low)) (omega (arith, high)))
      ∙ ap (changed_on runner olds news) e

  -- slots that did not change are passed over
  pub passed_over : (from to : ℕ) → from ≤ to → to ≤ length news → ((slot : ℕ) → from ≤ slot → slot < to → get_or news slot None ≡ get_or olds slot None) →
      changed_entries runner from (drop from olds) (drop from news) ≡ changed_entries runner to (drop to olds) (drop to news)
  passed_over from to later within alike =
      let e : from + (to - from) ≡ to = omega (arith, later) in
      skipped (to - from) from (omega (arith, within, later)) (λ slot low high. alike slot low (omega (arith, high, later))) ∙ ap (changed_on runner olds news) e

  -- after the last slot there is nothing
  none_after : (slot : ℕ) → length news ≤ slot → changed_entries runner slot (drop slot olds) (drop slot news) ≡ []
  none_after slot past = λ i. changed_entries runner slot (drop_all slot olds (omega (arith, past, same)) i) (drop_all slot news past i)

  -- the entry of a slot is told, and slots that did not change are passed over
  pub told_next : (slot to : ℕ) (old new : Option Value) (before after whole : List (ℕ × ℕ × Value)) → slot < length news → old ≡ get_or olds slot None → new ≡ get_or news slot None →
      slot + 1 ≤ to → to ≤ length news → ((other : ℕ) → slot + 1 ≤ other → other < to → get_or news other None ≡ get_or olds other None) →
      ((rest : List (ℕ × ℕ × Value)) → after ++ rest ≡ before ++ with_change runner slot old new rest) →
      before ++ changed_entries runner slot (drop slot olds) (drop slot news) ≡ whole → after ++ changed_entries runner to (drop to olds) (drop to news) ≡ whole
  told_next slot to old new before after whole within is_old is_new later last alike told all =
      ap (λ xs. after ++ xs) (sym (passed_over (slot + 1) to later last alike))
      ∙ told (changed_on runner olds news (slot + 1))
      ∙ (λ i. before ++ with_change runner slot (is_old i) (is_new i) (changed_on runner olds news (slot + 1)))
      ∙ ap (λ xs. before ++ xs) (sym (changed_here slot within))
      ∙ all

  -- all is told after the last slot
  pub told_all : (slot : ℕ) (after whole : List (ℕ × ℕ × Value)) → length news ≤ slot → after ++ changed_entries runner slot (drop slot olds) (drop slot news) ≡ whole → after ≡ whole
  told_all slot after whole past all = sym (append-nil after) ∙ ap (λ xs. after ++ xs) (sym (none_after slot past)) ∙ all
