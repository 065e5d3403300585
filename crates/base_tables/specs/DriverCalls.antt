-- What a call of a driver leaves, and what its roster must be for it.
use Rattle.std.specs.Prelude.{ℕ, ◌+◌, ◌<◌, ◌≤◌, ℤ, List, [], ◌∷◌, length, slice_set, count_by, Option, MatchOption}
use Rattle.spec_script.specs.declared.cells.Seen.{Seen}
use Rattle.spec_script.specs.declared.value.Value.{Value}
use Rattle.spec_run.specs.declared.leaf.DriverKind.{DriverKind}
use Rattle.spec_run.specs.declared.leaf.Instance.{Instance}
use Rattle.spec_run.specs.declared.leaf.Phase.{Phase}
use Rattle.spec_world.specs.declared.world.RowSort.TheVariants.{Timed, Replay, Gate}
use Rattle.spec_world.specs.declared.world.Telling.{Telling}
use Rattle.spec_run.specs.Leaf.{Way, Tests, Lasts, LastsBy, Replays, Waits, Heeds, Obeys, Rule, Answered, keeping, released, rule_answer, told}
use Rattle.spec_run.specs.Drivers.{DriverState, instance_of, is_held, after_call, driver_at}
use Rattle.spec_run.specs.declared.leaf.DriverKind.TheVariants as driver
use Rattle.spec_run.specs.declared.leaf.Phase.TheVariants as phase

-- the kind of driver that serves the rows that answer so
abbrev pub kind_of_way : Way → DriverKind
kind_of_way (Tests test) = driver.Condition
kind_of_way (Lasts ms fails) = driver.Timed
kind_of_way (LastsBy length fails) = driver.Timed
kind_of_way (Replays ms outcomes) = driver.Replay
kind_of_way (Waits test) = driver.Gate
kind_of_way Heeds = driver.Told
kind_of_way Obeys = driver.Told

-- how many instances are held
abbrev pub held_count : DriverState → ℕ
held_count d = count_by is_held d.table

-- an instance is held since a moment that is not above this one
abbrev pub IsHeldBy : Instance → ℕ → Type 0
IsHeldBy instance now = MatchOption instance.since ⊥ (λ since. since ≤ now)

-- the driver after the call `halted` of an instance
abbrev pub after_halted : DriverState → ℕ → DriverState
after_halted d instance = after_call d phase.Halted instance (released (instance_of d instance))

-- the driver after an instance was told something
abbrev pub after_told : DriverState → ℕ → Telling → DriverState
after_told d instance telling = after_call d phase.Told instance (told telling (instance_of d instance))

-- the driver after an instance was made to keep these values of its inputs
abbrev pub after_kept : DriverState → ℕ → List (Option Value) → DriverState
after_kept d instance inputs = record d { table = slice_set d.table instance (keeping inputs (instance_of d instance)) }

-- what a call of `start` or `running` of an instance leaves by this rule
abbrev pub driver_answer : DriverState → ℕ → Rule → Phase → List Seen → List ℤ → ℕ → Answered
driver_answer d instance rule phase inputs facts now = rule_answer rule phase (instance_of d instance) inputs facts now

-- an instance of the driver at a place
abbrev pub instance_at : List DriverState → ℕ → ℕ → Instance
instance_at ds place instance = instance_of (driver_at ds place) instance

-- the drivers after the call `halted` of an instance
abbrev pub roster_halted : List DriverState → ℕ → ℕ → List DriverState
roster_halted ds place instance = slice_set ds place (after_halted (driver_at ds place) instance)

-- the drivers after an instance of the one at a place was told something
abbrev pub roster_told : List DriverState → ℕ → ℕ → Telling → List DriverState
roster_told ds place instance telling = slice_set ds place (after_told (driver_at ds place) instance telling)

-- the drivers after an instance of the one at a place was made to keep these values
abbrev pub roster_kept : List DriverState → ℕ → ℕ → List (Option Value) → List DriverState
roster_kept ds place instance inputs = slice_set ds place (after_kept (driver_at ds place) instance inputs)

-- there is this instance of the driver at this place
abbrev pub IsThere : List DriverState → ℕ → ℕ → Type 0
IsThere ds place instance = (place < length ds) × (instance < length (driver_at ds place).table)

-- how many instances are held by all drivers together
abbrev pub total_held : List DriverState → ℕ
total_held [] = 0
total_held (d ∷ ds) = held_count d + total_held ds

-- what a call of `start` or `running` leaves by this rule of an instance of the driver at a place
abbrev pub roster_answer : List DriverState → ℕ → ℕ → Rule → Phase → List Seen → List ℤ → ℕ → Answered
roster_answer ds place instance rule phase inputs facts now = driver_answer (driver_at ds place) instance rule phase inputs facts now
