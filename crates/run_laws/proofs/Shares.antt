-- How the work of children adds up, each visited once.
use Rattle.std.proofs.Common.{◌≡◌, ℕ, zero, suc, ◌+◌, ◌-◌, ◌<◌, ◌≤◌, List, [], ◌∷◌, map, Some, slice_get, sum_by, cond, refl, sym, ap, ◌∙◌, arith, ⊎_elim}
use Rattle.std.proofs.lemmas.Bool.{cases_lt, le-ltb, lt-ltb}
use Rattle.std.proofs.lemmas.List.Sums.{sum_by-cons}
use Rattle.std.proofs.lemmas.Option.{same_Some}
use Rattle.spec_tree.specs.declared.term.Kind.TheVariants.{RecoveryNode}
use Rattle.spec_tree.specs.Terms.{once_more}
use Rattle.spec_run.specs.Rules.RoundRobins.{next_of}

module _ {X : Type 0} (work : X → ℕ) where
  -- the work of all items together
  abbrev pub whole : List X → ℕ
  whole cs = sum_by work cs

  -- the work of the item at a place; after the last one it is 0
  abbrev pub share : List X → ℕ → ℕ
  share [] place = 0
  share (c ∷ cs) zero = work c
  share (c ∷ cs) (suc place) = share cs place

  -- the work of the items from a place on
  abbrev pub left_from : List X → ℕ → ℕ
  left_from [] place = 0
  left_from (c ∷ cs) zero = work c + left_from cs zero
  left_from (c ∷ cs) (suc place) = left_from cs place

  pub share_of : (cs : List X) (place : ℕ) (c : X) → slice_get cs place ≡ Some c → share cs place ≡ work c
  share_of [] place c is = cc
  share_of (d ∷ cs) zero c is = ap work (same_Some d c is)
  share_of (d ∷ cs) (suc place) c is = share_of cs place c is

  pub one_and_rest : (cs : List X) (place : ℕ) → share cs place + left_from cs (place + 1) ≤ left_from cs place
  one_and_rest [] place = omega arith
  one_and_rest (c ∷ cs) zero = omega arith
  one_and_rest (c ∷ cs) (suc place) =
      let on : suc place + 1 ≡ suc (place + 1) = omega arith in
      let same : left_from (c ∷ cs) (suc place + 1) ≡ left_from cs (place + 1) = ap (left_from (c ∷ cs)) on in
      omega (arith, one_and_rest cs place, same)

  left_whole : (cs : List X) → left_from cs 0 ≡ whole cs
  left_whole [] = refl
  left_whole (c ∷ cs) = ap (λ k. work c + k) (left_whole cs) ∙ sym (sum_by-cons work c cs)

  pub left_most : (cs : List X) (place : ℕ) → left_from cs place ≤ whole cs
  left_most [] place = omega arith
  left_most (c ∷ cs) zero = omega (arith, left_whole (c ∷ cs))
  left_most (c ∷ cs) (suc place) = omega (arith, left_most cs place, sum_by-cons work c cs)

  pub share_most : (cs : List X) (place : ℕ) → share cs place ≤ whole cs
  share_most cs place = omega (arith, one_and_rest cs place, left_most cs place)

  -- the first item and a later one
  pub first_and_later : (cs : List X) (place : ℕ) → share cs 0 + share cs (place + 1) ≤ whole cs
  first_and_later [] place = omega arith
  first_and_later (c ∷ cs) place =
      let on : place + 1 ≡ suc place = omega arith in
      let same : share (c ∷ cs) (place + 1) ≡ share cs place = ap (share (c ∷ cs)) on in
      omega (arith, share_most cs place, same, sum_by-cons work c cs)

  -- the first item of a RecoveryNode is visited once more
  pub first_once_more : (cs : List X) → share cs 0 ≤ once_more RecoveryNode (map work cs)
  first_once_more [] = omega arith
  first_once_more (c ∷ cs) = omega arith

  -- ---- Items in turn, where the first of n comes after the last

  left_later : (cs : List X) (place more : ℕ) → left_from cs (place + more) ≤ left_from cs place
  left_later cs place zero = let same : left_from cs (place + 0) ≡ left_from cs place = ap (left_from cs) (let e : place + 0 ≡ place = omega arith in e) in omega (arith, same)
  left_later cs place (suc more) =
      let same : left_from cs (place + suc more) ≡ left_from cs (place + more + 1) = ap (left_from cs) (let e : place + suc more ≡ place + more + 1 = omega arith in e) in
      omega (arith, same, left_later cs place more, one_and_rest cs (place + more))

  module _ (n : ℕ) (cs : List X) where
    -- the work of so many items in turn, from a place on
    abbrev pub in_turn : ℕ → ℕ → ℕ
    in_turn zero place = 0
    in_turn (suc count) place = share cs place + in_turn count (next_of n place)

    goes_next : (count place : ℕ) → place + 1 < n → in_turn count (next_of n place) ≡ in_turn count (place + 1)
    goes_next count place there = ap (λ b. in_turn count (cond b (place + 1) 0)) (lt-ltb (place + 1) n there)

    goes_round : (count place : ℕ) → n ≤ place + 1 → in_turn count (next_of n place) ≡ in_turn count 0
    goes_round count place past = ap (λ b. in_turn count (cond b (place + 1) 0)) (le-ltb (place + 1) n past)

    -- where the last of n is not passed
    straight_on : (count place : ℕ) → place + count ≤ n → in_turn count place + left_from cs (place + count) ≤ left_from cs place
    straight_on zero place within = omega (arith, left_later cs place 0)
    straight_on (suc zero) place within = omega (arith, one_and_rest cs place)
    straight_on (suc (suc count)) place within =
        let on : in_turn (suc count) (next_of n place) ≡ in_turn (suc count) (place + 1) = goes_next (suc count) place (omega (arith, within)) in
        let same : left_from cs (place + suc (suc count)) ≡ left_from cs (place + 1 + suc count) = ap (left_from cs) (let e : place + suc (suc count) ≡ place + 1 + suc count = omega arith in e) in
        omega (arith, on, same, one_and_rest cs place, straight_on (suc count) (place + 1) (omega (arith, within)))

    -- where it is passed, some more items come from the first on
    round_to : (count place more : ℕ) → place < n → place + count ≡ n + more → in_turn count place ≤ left_from cs place + in_turn more 0
    round_to zero place more there sums = absurd (omega (arith, there, sums))
    round_to (suc count) place more there sums = ⊎_elim
        (λ next. let on : in_turn count (next_of n place) ≡ in_turn count (place + 1) = goes_next count place next in
        omega (arith, on, one_and_rest cs place, round_to count (place + 1) more next (omega (arith, sums))))
        (λ past. let on : in_turn count (next_of n place) ≡ in_turn count 0 = goes_round count place past in
        let same : in_turn count 0 ≡ in_turn more 0 = ap (λ k. in_turn k 0) (let e : count ≡ more = omega (arith, there, past, sums) in e) in
        omega (arith, on, same, one_and_rest cs place))
        (cases_lt (place + 1) n)

    -- the items from a place on, and some before this place
    both_ways : (place more : ℕ) → more ≤ place → more ≤ n → left_from cs place + in_turn more 0 ≤ whole cs
    both_ways place more before within =
        let same : left_from cs place ≡ left_from cs (more + (place - more)) = ap (left_from cs) (let e : place ≡ more + (place - more) = omega (arith, before) in e) in
        let first : in_turn more 0 + left_from cs (0 + more) ≤ left_from cs 0 = straight_on more 0 (omega (arith, within)) in
        let zero_more : left_from cs (0 + more) ≡ left_from cs more = ap (left_from cs) (let e : 0 + more ≡ more = omega arith in e) in
        omega (arith, same, left_later cs more (place - more), first, zero_more, left_whole cs)

    -- no item comes twice among n
    pub in_turn_most : (count place : ℕ) → count ≤ n → in_turn count place ≤ whole cs
    in_turn_most zero place few = omega arith
    in_turn_most (suc count) place few = ⊎_elim
        (λ there. ⊎_elim
        (λ round. let more : ℕ = place + suc count - n in
        omega (arith, round_to (suc count) place more there (omega (arith, round)), both_ways place more (omega (arith, few)) (omega (arith, few, there))))
        (λ straight. omega (arith, straight_on (suc count) place (omega (arith, straight)), left_most cs place))
        (cases_lt n (place + suc count)))
        (λ past. let on : in_turn count (next_of n place) ≡ in_turn count 0 = goes_round count place (omega (arith, past)) in
        omega (arith, on, one_and_rest cs place, both_ways place count (omega (arith, past, few)) (omega (arith, few))))
        (cases_lt place n)
