-- The goals of a valid world have tests, whose facts are there.
use Rattle.std.proofs.Common.{arith, ◌≡◌, ℕ, zero, suc, ◌+◌, ◌<◌, true, List, [], ◌∷◌, ◌++◌, length, map, take, get_or, Option, Some, None, refl, ap, sym, ◌∙◌, subst, inl, inr}
use Rattle.std.specs.Prelude.{option_map, slice_get}
use Rattle.std.specs.Option.{option_and_then}
use Rattle.std.proofs.lemmas.List.{map-append, take_more}
use Rattle.std.proofs.lemmas.Option.{slice_get_cases}
use Rattle.spec_world.specs.declared.world.Fact.{Fact}
use Rattle.spec_world.specs.declared.world.Row.{Row}
use Rattle.spec_world.specs.declared.world.RowSort.{RowSort}
use Rattle.spec_world.specs.declared.world.RowSort.TheVariants.{Is, When, Timed, TimedBy, Replay, Gate, Sensed, Told}
use Rattle.spec_world.specs.declared.world.World.{World}
use Rattle.spec_world.specs.Worlds.{IsComparisonIn, IsValidRow, IsValidSort, IsValidWorld, is_comparison}
use Rattle.spec_plan.specs.declared.domain.Test.{Test}
use Rattle.spec_plan.specs.Templates.{test_in}
use Rattle.spec_plan.specs.Achievers.{test_of}
use Rattle.plan_trial.specs.Tasks.{HaveFacts}

get_map : {X Y : Type 0} (f : X → Y) (xs : List X) (n : ℕ) → slice_get (map f xs) n ≡ option_map f (slice_get xs n)
get_map f [] n = refl
get_map f (x ∷ xs) zero = refl
get_map f (x ∷ xs) (suc n) = get_map f xs n

module _ (facts : List Fact) (ports : List (List ℕ)) where
  pub record Known (sort : RowSort) : Type 0 where
    pub test : Test
    pub is : test_in sort ≡ Some test
    pub within : test.fact < length facts

  by_sort : (sort : RowSort) → is_comparison sort ≡ true → IsValidSort facts ports sort → Known sort
  by_sort (Is fact op value) is valid = record { test = record { fact = fact; op = op; value = value }; is = refl; within = valid.0 }
  by_sort (When e) is valid = cc is
  by_sort (Timed ms fails) is valid = cc is
  by_sort (TimedBy length fails) is valid = cc is
  by_sort (Replay ms outcomes) is valid = cc is
  by_sort (Gate e) is valid = cc is
  by_sort Sensed is valid = cc is
  by_sort (Told outs) is valid = cc is

-- the test of a goal
pub record Wanted (world : World) (goal : ℕ) : Type 0 where
  pub test : Test
  pub is : test_of world.rows goal ≡ Some test
  pub within : test.fact < length world.facts

pub wanted : (world : World) → IsValidWorld world → (i d : ℕ) → i < length world.goals → Wanted world (get_or world.goals i d)
wanted world valid i d within =
    let goal = get_or world.goals i d in
    let compares : IsComparisonIn world.rows goal = valid.wanted i d within in
    elim (slice_get_cases world.rows goal).1 [
      | inl (row, low, there, at) ↦
          let fits : IsValidRow world.facts world.rows row = subst (λ (r : Row). IsValidRow world.facts world.rows r) at (valid.rows goal row low) in
          let both : Some (is_comparison row.sort) ≡ Some true = ap (λ (o : Option Row). option_map (λ (r : Row). is_comparison r.sort) o) (sym there) ∙ sym (get_map (λ (r : Row). is_comparison r.sort) world.rows goal) ∙ compares in
          let known = by_sort world.facts row.ports row.sort (cc both) fits.sort in
          record { test = known.test; is = ap (λ (o : Option Row). option_and_then (λ (r : Row). test_in r.sort) o) there ∙ known.is; within = known.within }
      | inr (past, none) ↦
          let gone : None ≡ Some true = ap (λ (o : Option Row). option_map (λ (r : Row). is_comparison r.sort) o) (sym none) ∙ sym (get_map (λ (r : Row). is_comparison r.sort) world.rows goal) ∙ compares in
          absurd (cc gone)
    ]

pub have_more : (facts : ℕ) (tests : List Test) (test : Test) → HaveFacts facts tests → test.fact < facts → HaveFacts facts (tests ++ test ∷ [])
have_more facts [] test have low = (low, tt)
have_more facts (t ∷ tests) test have low = (have.0, have_more facts tests test have.1 low)

-- a test at a place compares a fact that is there
pub have_at : (facts : ℕ) (tests : List Test) (place : ℕ) (d : Test) → HaveFacts facts tests → place < length tests → (get_or tests place d).fact < facts
have_at facts [] place d have within = absurd (omega (arith, within))
have_at facts (t ∷ tests) zero d have within = have.0
have_at facts (t ∷ tests) (suc place) d have within = have_at facts tests place d have.1 (omega (arith, within))

-- the tests of one goal more
pub tests_more : (rows : List Row) (tests : List Test) (goals : List ℕ) (i d : ℕ) (test : Test) → i < length goals → map (λ (t : Test). Some t) tests ≡ map (test_of rows) (take i goals) → test_of rows (get_or goals i d) ≡ Some test →
    map (λ (t : Test). Some t) (tests ++ test ∷ []) ≡ map (test_of rows) (take (i + 1) goals)
tests_more rows tests goals i d test within are is =
    map-append (λ (t : Test). Some t) tests (test ∷ [])
    ∙ ap (λ (l : List (Option Test)). l ++ Some test ∷ []) are
    ∙ ap (λ (o : Option Test). map (test_of rows) (take i goals) ++ o ∷ []) (sym is)
    ∙ sym (ap (λ (l : List ℕ). map (test_of rows) l) (take_more goals i d within) ∙ map-append (test_of rows) (take i goals) (get_or goals i d ∷ []))

-- the fact of a goal's test is there
pub fact_within : (world : World) → IsValidWorld world → (goals : List ℕ) → goals ≡ world.goals → (i d : ℕ) → i < length goals → (test : Test) → test_of world.rows (get_or goals i d) ≡ Some test → test.fact < length world.facts
fact_within world valid goals same i d within test is =
    let w = wanted world valid i d (subst (λ (l : List ℕ). i < length l) same within) in
    let both : Some test ≡ Some w.test = sym is ∙ ap (λ (l : List ℕ). test_of world.rows (get_or l i d)) same ∙ w.is in
    let e : w.test ≡ test = cc both in
    subst (λ (t : Test). t.fact < length world.facts) e w.within
