-- Drivers, seen from outside: what each keeps, and what a call leaves of one and of a whole roster.
use Rattle.std.specs.Prelude.{◌≡◌, ℕ, ◌+◌, ◌-◌, ◌*◌, ◌%◌, ◌^◌, min, Bool, true, false, if◌then◌else◌, List, [], ◌∷◌, replicate, slice_index_or, slice_set, Option, Some, None, is_some, option_map}
use Rattle.spec_run.specs.declared.leaf.DriverKind.{DriverKind}
use Rattle.spec_run.specs.declared.leaf.Instance.{Instance}
use Rattle.spec_run.specs.declared.leaf.Phase.{Phase}
use Rattle.spec_run.specs.declared.leaf.Totals.{Totals}
use Rattle.spec_world.specs.declared.world.Row.{Row}
use Rattle.spec_world.specs.declared.world.RowSort.{RowSort}
use Rattle.spec_world.specs.declared.world.RowSort.TheVariants.{Is, When, Timed, TimedBy, Replay, Gate, Sensed, Told}
use Rattle.spec_run.specs.Leaf.{fresh}
use Rattle.spec_run.specs.declared.leaf.DriverKind.TheVariants as driver
use Rattle.spec_run.specs.declared.leaf.Phase.TheVariants as phase

-- ---- Kinds

-- the kind of driver that serves the rows of this sort
abbrev pub kind_of_sort : RowSort → DriverKind
kind_of_sort (Is fact op value) = driver.Condition
kind_of_sort (When test) = driver.Condition
kind_of_sort (Timed ms fails) = driver.Timed
kind_of_sort (TimedBy length fails) = driver.Timed
kind_of_sort (Replay ms outcomes) = driver.Replay
kind_of_sort (Gate test) = driver.Gate
kind_of_sort Sensed = driver.Told
kind_of_sort (Told outs) = driver.Told

-- the kind of driver that serves a row
abbrev pub kind_of_row : Row → DriverKind
kind_of_row row = kind_of_sort row.sort

-- whether two kinds of drivers are the same
abbrev pub same_kind : DriverKind → DriverKind → Bool
same_kind driver.Condition driver.Condition = true
same_kind driver.Timed driver.Timed = true
same_kind driver.Replay driver.Replay = true
same_kind driver.Gate driver.Gate = true
same_kind driver.Told driver.Told = true
same_kind _ _ = false

-- ---- Totals

-- one more, up to the last value
abbrev pub raised : ℕ → ℕ
raised n = min (n + 1) (2 ^ 64 - 1)

-- the number of a call in a trail
abbrev pub mark_of : Phase → ℕ
mark_of phase.Start = 1
mark_of phase.Running = 2
mark_of phase.Halted = 3
mark_of phase.Told = 4

-- a trail after a call for an instance
abbrev pub trail_after : ℕ → Phase → ℕ → ℕ
trail_after trail phase instance = (1000003 * trail + 3 * instance + mark_of phase) % 2 ^ 64

-- the totals after a call for an instance: its own count rises, where it has one, and the trail takes it
abbrev pub counted : Totals → Phase → ℕ → Totals
counted t phase.Start instance = record t { starts = raised t.starts; trail = trail_after t.trail phase.Start instance }
counted t phase.Running instance = record t { runnings = raised t.runnings; trail = trail_after t.trail phase.Running instance }
counted t phase.Halted instance = record t { haltings = raised t.haltings; trail = trail_after t.trail phase.Halted instance }
counted t phase.Told instance = record t { trail = trail_after t.trail phase.Told instance }

-- before the first call
abbrev pub no_calls : Totals
no_calls = record { starts = 0; runnings = 0; haltings = 0; trail = 0 }

-- ---- One driver

-- all that a driver keeps: its kind and its mark, which never change, its instances by their number, and its totals
pub record DriverState : Type 0 where
  pub kind : DriverKind
  pub mark : ℕ
  pub table : List Instance
  pub totals : Totals

-- a driver that was just made
abbrev pub new_driver : DriverKind → DriverState
new_driver kind = record { kind = kind; mark = 0; table = []; totals = no_calls }

-- an instance; one that is not there is not held
abbrev pub instance_of : DriverState → ℕ → Instance
instance_of d instance = slice_index_or d.table instance fresh

-- whether an instance is held
abbrev pub is_held : Instance → Bool
is_held instance = is_some instance.since

-- no instance is held
abbrev pub HoldsNothing : DriverState → Type 0
HoldsNothing d = (instance : ℕ) → is_held (instance_of d instance) ≡ false

-- the driver with this many instances, of which none was ever held
abbrev pub prepared : DriverState → ℕ → DriverState
prepared d count = record d { table = replicate count fresh }

-- the driver after a call that leaves this of an instance
abbrev pub after_call : DriverState → Phase → ℕ → Instance → DriverState
after_call d phase instance left = record d { table = slice_set d.table instance left; totals = counted d.totals phase instance }

-- ---- A roster: the drivers of a run, by their place

-- the place of the first driver of a kind, which serves it
abbrev pub place_of_kind : List DriverState → DriverKind → Option ℕ
place_of_kind [] kind = None
place_of_kind (d ∷ ds) kind = if same_kind d.kind kind then Some 0 else option_map (λ place. place + 1) (place_of_kind ds kind)

-- the driver at a place; one that is not there has no instance
abbrev pub driver_at : List DriverState → ℕ → DriverState
driver_at ds place = slice_index_or ds place (new_driver driver.Condition)

-- the drivers after a call that leaves this of an instance
abbrev pub roster_called : List DriverState → ℕ → Phase → ℕ → Instance → List DriverState
roster_called ds place phase instance left = slice_set ds place (after_call (driver_at ds place) phase instance left)

-- the drivers, of which the first have as many instances as is said, none of them ever held
abbrev pub roster_prepared : List DriverState → List ℕ → List DriverState
roster_prepared ds [] = ds
roster_prepared [] (count ∷ counts) = []
roster_prepared (d ∷ ds) (count ∷ counts) = prepared d count ∷ roster_prepared ds counts

-- no driver holds an instance
abbrev pub NothingHeld : List DriverState → Type 0
NothingHeld ds = (place : ℕ) → HoldsNothing (driver_at ds place)
