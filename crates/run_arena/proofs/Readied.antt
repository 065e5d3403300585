-- Rows that are made ready one after the other, and what is ready of a row at its number.
use Rattle.std.proofs.Common.{◌≡◌, ℕ, zero, suc, List, [], ◌∷◌, ◌++◌, Option, Some, subst}
use Rattle.std.specs.Prelude.{MatchOption, slice_get}
use Rattle.spec_world.specs.declared.world.Fact.{Fact}
use Rattle.spec_world.specs.declared.world.Row.{Row}
use Rattle.run_driver.specs.declared.row.ReadyRow.{ReadyRow}
use Rattle.run_arena.specs.Rows.{AreReady, IsReadyRow}

module _ (facts : List Fact) where
  -- one more row is ready
  pub ready_more : (rows : List Row) (all : List ReadyRow) (row : Row) (ready : ReadyRow) → AreReady facts rows all → IsReadyRow facts row ready
      → AreReady facts (rows ++ row ∷ []) (all ++ ready ∷ [])
  ready_more [] [] row ready are is = (is, tt)
  ready_more [] (other ∷ all) row ready are is = absurd are
  ready_more (first ∷ rows) [] row ready are is = absurd are
  ready_more (first ∷ rows) (other ∷ all) row ready are is = (are.0, ready_more rows all row ready are.1 is)

  -- what is ready of the row at a number stands there
  pub ready_at : (rows : List Row) (all : List ReadyRow) (number : ℕ) (row : Row) → AreReady facts rows all → slice_get rows number ≡ Some row
      → MatchOption (slice_get all number) ⊥ (IsReadyRow facts row)
  ready_at [] [] number row are is = absurd (cc (is))
  ready_at [] (other ∷ all) number row are is = absurd are
  ready_at (first ∷ rows) [] number row are is = absurd are
  ready_at (first ∷ rows) (other ∷ all) zero row are is = subst (λ (o : Option Row). MatchOption o ⊥ (λ r. IsReadyRow facts r other)) is are.0
  ready_at (first ∷ rows) (other ∷ all) (suc number) row are is = ready_at rows all number row are.1 is
