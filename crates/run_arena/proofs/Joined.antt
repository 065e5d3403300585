-- The rows of a world can be made ready, and a leaf for which nothing is missing has a place of a driver.
use Rattle.std.proofs.Common.{◌≡◌, ℕ, ◌+◌, ◌<◌, List, [], ◌∷◌, Bool, true, false, if◌then◌else◌, Option, Some, None, length, subst, arith}
use Rattle.std.specs.List.{All, IsDistinct}
use Rattle.std.specs.Option.{option_map}
use Rattle.std.specs.Str.{bytes_eq}
use Rattle.std.proofs.lemmas.List.{length-map}
use Rattle.spec_run.specs.declared.leaf.DriverKind.{DriverKind}
use Rattle.spec_world.specs.declared.world.Fact.{Fact}
use Rattle.spec_world.specs.declared.world.Row.{Row}
use Rattle.spec_world.specs.declared.world.RowSort.{RowSort}
use Rattle.spec_world.specs.declared.world.RowSort.TheVariants as sort
use Rattle.spec_world.specs.declared.world.World.{World}
use Rattle.spec_run.specs.Drivers.{DriverState, kind_of_row, place_of_kind, same_kind}
use Rattle.spec_world.specs.Runnable.{IsRunnableSort, IsRunnableWorld}
use Rattle.spec_world.specs.Worlds.{outs_told}
use Rattle.run_driver.proofs.Runnable.{can_be_ready, told_not_modelled}
use Rattle.run_driver.specs.Places.{CanBeReady}
use Rattle.spec_run.specs.Joins.{place_by}
use Rattle.run_arena.specs.Rows.{TellsEachOnce}

abbrev IsBelow : ℕ → Option ℕ → Type 0
IsBelow n (Some k) = k < n
IsBelow n None = Unit {0}

below_more : (n : ℕ) (o : Option ℕ) → IsBelow n o → IsBelow (1 + n) (option_map (λ k. k + 1) o)
below_more n None below = tt
below_more n (Some k) below = omega (arith, below)

first_or : (b : Bool) (n : ℕ) (o : Option ℕ) → IsBelow (1 + n) o → IsBelow (1 + n) (if b then Some 0 else o)
first_or true n o below = omega arith
first_or false n o below = below

place_below : (ds : List DriverState) (kind : DriverKind) → IsBelow (length ds) (place_of_kind ds kind)
place_below [] kind = tt
place_below (d ∷ ds) kind = let e : 1 + length ds ≡ length (d ∷ ds) = omega arith in
    subst (λ n. IsBelow n (place_of_kind (d ∷ ds) kind)) e (first_or (same_kind d.kind kind) (length ds) _ (below_more (length ds) (place_of_kind ds kind) (place_below ds kind)))

-- the place of a driver is less than the number of drivers
pub place_within : (ds : List DriverState) (kind : DriverKind) (place : ℕ) → place_of_kind ds kind ≡ Some place → place < length ds
place_within ds kind place is = subst (IsBelow (length ds)) is (place_below ds kind)

no_names_alike : IsDistinct bytes_eq []
unfolding IsDistinct
no_names_alike = tt

names_differ : (facts : List Fact) (ports : List (List ℕ)) (s : RowSort) → IsRunnableSort facts ports s → IsDistinct bytes_eq (outs_told s)
names_differ facts ports (sort.Told outs) can = can.distinct
names_differ facts ports _ can = no_names_alike

-- the rows of a world tell each value once
pub rows_once : (world : World) → IsRunnableWorld world → All TellsEachOnce world.rows
rows_once world can k row within =
    let is = can.rows k row within in
    record {
      bare = λ told. (is.bare (told_not_modelled _ told)).2;
      distinct = names_differ world.facts _ _ is.sort;
    }

-- the rows of a world can be made ready
pub rows_ready : (world : World) → IsRunnableWorld world → All (CanBeReady world.facts) world.rows
rows_ready world can k row within =
    can_be_ready world.facts world.rows _ (omega (arith, can.facts.few, length-map world.facts (λ (f : Fact). f.name))) (can.rows k row within)

-- the place of the driver that serves a row is less than the number of drivers
pub place_by_within : (found : Option Row) (ds : List DriverState) (place : ℕ) → place_by found ds ≡ Some place → place < length ds
place_by_within None ds place is = absurd (cc)
place_by_within (Some row) ds place is = place_within ds (kind_of_row row) place is
