-- The events up to a moment, and what is true of some and of more events.
use Rattle.std.proofs.Common.{◌≡◌, ℕ, suc, ◌+◌, List, [], ◌∷◌, ◌++◌, take, Bool, true, false, not, ◌&&◌, cond, nat_le, nat_lt, refl, sym, ap, ◌∙◌, append_assoc, arith}
use Rattle.std.specs.List.{count_by, prefix_len}
use Rattle.std.proofs.lemmas.Bool.{and_parts, not-true}
use Rattle.std.proofs.lemmas.Bool.Decides.{nat_tests}
use Rattle.std.proofs.lemmas.Grind.{flat_map-append}
use Rattle.std.proofs.lemmas.List.{append-nil}
use Rattle.std.proofs.lemmas.List.Folds.{list_all-append}
use Rattle.std.proofs.lemmas.List.Sums.{sum_by-cons}
use Rattle.spec_expect.specs.Met.{are_until, until}
use Rattle.spec_expect.specs.Stories.{Happening, Sight, happenings_in}

pub le_not_lt : (a b : ℕ) → nat_le a b ≡ not (nat_lt b a)
le_not_lt a b = grind (arith, nat_tests)

pub until_late : (ms : ℕ) (s : Sight) (sights : List Sight) → nat_lt ms s.at ≡ true → until ms (s ∷ sights) ≡ []
until_late ms s sights late = ap (λ (b : Bool). take (cond (not b) (1 + prefix_len (λ (x : Sight). not (nat_lt ms x.at)) sights) 0) (s ∷ sights)) late

pub until_early : (ms : ℕ) (s : Sight) (sights : List Sight) → nat_lt ms s.at ≡ false → until ms (s ∷ sights) ≡ s ∷ until ms sights
until_early ms s sights early =
    let n : ℕ = prefix_len (λ (x : Sight). not (nat_lt ms x.at)) sights in
    let more : 1 + n ≡ suc n = omega arith in
    ap (λ (b : Bool). take (cond (not b) (1 + n) 0) (s ∷ sights)) early ∙ ap (λ (k : ℕ). take k (s ∷ sights)) more

early_is : (ms : ℕ) (s : Sight) → nat_le s.at ms ≡ true → nat_lt ms s.at ≡ false
early_is ms s early = not-true (nat_lt ms s.at) (sym (le_not_lt s.at ms) ∙ early)

-- where no event is past the moment, those that follow come after all of them
pub until_more : (ms : ℕ) (past more : List Sight) → are_until ms past ≡ true → until ms (past ++ more) ≡ past ++ until ms more
until_more ms [] more all = refl
until_more ms (s ∷ past) more all =
    let parts = and_parts (nat_le s.at ms) (are_until ms past) all in
    until_early ms s (past ++ more) (early_is ms s parts.0) ∙ ap (λ (xs : List Sight). s ∷ xs) (until_more ms past more parts.1)

-- where one is, none that follows counts
pub until_over : (ms : ℕ) (past more : List Sight) → are_until ms past ≡ false → until ms (past ++ more) ≡ until ms past
until_over ms [] more over = cc
until_over ms (s ∷ past) more over = by_first (λ rest. until_over ms past more rest) (nat_lt ms s.at) refl where
  by_first : (are_until ms past ≡ false → until ms (past ++ more) ≡ until ms past) → (late : Bool) → nat_lt ms s.at ≡ late → until ms ((s ∷ past) ++ more) ≡ until ms (s ∷ past)
  by_first again true late = until_late ms s (past ++ more) late ∙ sym (until_late ms s past late)
  by_first again false early =
      let first : nat_le s.at ms ≡ true = le_not_lt s.at ms ∙ ap not early in
      let rest : are_until ms past ≡ false = ap (λ (b : Bool). b && are_until ms past) (sym first) ∙ over in
      until_early ms s (past ++ more) early ∙ ap (λ (xs : List Sight). s ∷ xs) (again rest) ∙ sym (until_early ms s past early)

-- all of them
pub until_all : (ms : ℕ) (past : List Sight) → are_until ms past ≡ true → until ms past ≡ past
until_all ms past all =
    ap (until ms) (sym (append-nil past)) ∙ until_more ms past [] all ∙ append-nil past

pub are_until_both : (ms : ℕ) (xs ys : List Sight) → are_until ms (xs ++ ys) ≡ (are_until ms xs && are_until ms ys)
are_until_both ms xs ys = list_all-append (λ (s : Sight). nat_le s.at ms) xs ys

pub happenings_both : (xs ys : List Sight) → happenings_in (xs ++ ys) ≡ happenings_in xs ++ happenings_in ys
happenings_both xs ys = flat_map-append (λ (s : Sight). s.happenings) xs ys

-- .. and of one event more
pub happenings_more : (xs : List Sight) (s : Sight) → happenings_in (xs ++ s ∷ []) ≡ happenings_in xs ++ s.happenings
happenings_more xs s = happenings_both xs (s ∷ []) ∙ ap (λ (hs : List Happening). happenings_in xs ++ hs) (append-nil s.happenings)

pub count_cons : {X : Type 0} (p : X → Bool) (x : X) (xs : List X) → count_by p (x ∷ xs) ≡ cond (p x) 1 0 + count_by p xs
count_cons p x xs = sum_by-cons (λ y. cond (p y) 1 0) x xs

pub one_more_event : (past : List Sight) (s : Sight) (sights : List Sight) → (past ++ s ∷ []) ++ sights ≡ past ++ s ∷ sights
one_more_event past s sights = append_assoc past (s ∷ []) sights
