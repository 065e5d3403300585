-- The events of a valid world can all come, where each of them that tells a leaf something finds it.
use Rattle.std.proofs.Common.{◌≡◌, ℕ, suc, ◌<◌, ◌≤◌, List, [], ◌∷◌, Option, Some, None, length, refl, arith}
use Rattle.std.specs.Prelude.{slice_index_or}
use Rattle.std.specs.List.{All}
use Rattle.std.specs.List.Sorted.{IsNonDecreasingBy}
use Rattle.std.specs.Option.{option_or}
use Rattle.spec_world.specs.declared.world.Event.{Event}
use Rattle.spec_world.specs.Worlds.{IsValidEvent, IsValidWorld}
use Rattle.spec_run.specs.Joins.{event_lacks, first_untold}
use Rattle.spec_run.specs.Served.{Setup}
use Rattle.spec_tree.specs.Trees.{nodes_of}
use Rattle.text_trace.specs.Traces.{CanAllCome}

-- where the first that is there of two is none, neither is there
pub neither : {A : Type 0} (a b : Option A) → option_or a b ≡ None → (a ≡ None) × (b ≡ None)
neither None b none = (refl, none)
neither (Some x) b none = cc

module _ (of : Setup) where
  -- for none of these events something is missing
  abbrev pub AllTold : List Event → Type 0
  AllTold events = first_untold of.world.rows (nodes_of of.tree.term) events ≡ None

  all_can_come : (last : ℕ) (events : List Event) → All (IsValidEvent of.world.facts of.world.runners) events → IsNonDecreasingBy (λ (e : Event). e.at) events →
      ((k : ℕ) (d : Event) → k < length events → last ≤ (slice_index_or events k d).at) → AllTold events → CanAllCome of last events
  all_can_come last [] valid order following told = tt
  all_can_come last (e ∷ events) valid order following told =
      let each = neither (event_lacks of.world.rows (nodes_of of.tree.term) e.what) (first_untold of.world.rows (nodes_of of.tree.term) events) told in (
        ((valid 0 e (omega arith)).1, following 0 e (omega arith), each.0),
        all_can_come e.at events (λ k d within. valid (suc k) d (omega (arith, within))) (λ i j d low within. order (suc i) (suc j) d (omega (arith, low)) (omega (arith, within))) (λ k d within. order 0 (suc k) d (omega arith) (omega (arith, within)))
            each.1,
      )

  -- from the moment 0 on
  pub events_of_world : IsValidWorld of.world → AllTold of.world.events → CanAllCome of 0 of.world.events
  events_of_world valid told = all_can_come 0 of.world.events valid.events valid.in_order (λ k d within. omega arith) told
