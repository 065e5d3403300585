-- A call of a driver: when it may be made, and what it leaves.
use Rattle.std.specs.Prelude.{◌≡◌, ℕ, ℤ, if◌then◌else◌, List, Option, None, slice_set}
use Rattle.spec_script.specs.declared.value.Value.{Value}
use Rattle.spec_run.specs.declared.leaf.Instance.{Instance}
use Rattle.spec_run.specs.declared.leaf.Phase.{Phase}
use Rattle.spec_run.specs.declared.leaf.Phase.TheVariants as phase
use Rattle.spec_run.specs.declared.leaf.DriverKind.TheVariants as driver
use Rattle.spec_run.specs.Drivers.{DriverState, after_call, driver_at, same_kind}
use Rattle.base_tables.specs.DriverCalls.{IsHeldBy, after_kept, after_told, driver_answer}
use Rattle.spec_world.specs.declared.world.Telling.{Telling}
use Rattle.spec_run.specs.Leaf.{Answered}
use Rattle.run_driver.specs.declared.call.Call.{Call}
use Rattle.run_driver.specs.declared.call.CallPhase.{CallPhase}
use Rattle.run_driver.specs.declared.call.CallPhase.TheVariants.{Start, Running}
use Rattle.run_driver.specs.Rules.{rule}

-- the phase of the definition
abbrev pub phase_asked : CallPhase → Phase
phase_asked Start = phase.Start
phase_asked Running = phase.Running

-- a driver is asked to begin at an instance that is not held, and to go on at one that is held since a moment not later
abbrev pub IsAskedIn : CallPhase → Instance → ℕ → Type 0
IsAskedIn Start instance now = instance.since ≡ None
IsAskedIn Running instance now = IsHeldBy instance now

-- what a driver answers, and what its answer leaves
abbrev pub call_answer : DriverState → Call → List ℤ → Answered
call_answer d call facts = driver_answer d call.instance (rule call.row.now) (phase_asked call.phase) call.inputs.now facts call.moment

-- the driver after it
abbrev pub call_left : DriverState → Call → List ℤ → DriverState
call_left d call facts = after_call d (phase_asked call.phase) call.instance (call_answer d call facts).instance

-- the driver after it was told something of an instance: that of another kind of row stays as it is
abbrev pub told_left : DriverState → ℕ → Telling → DriverState
told_left d instance telling = if same_kind d.kind driver.Told then after_told d instance telling else d

-- the driver after an instance was made to keep the values of its inputs: that of another kind of row stays as it is
abbrev pub kept_left : DriverState → ℕ → List (Option Value) → DriverState
kept_left d instance inputs = if same_kind d.kind driver.Told then after_kept d instance inputs else d

-- ---- A call of the driver at a place of a roster

-- what it answers
abbrev pub answer_at : List DriverState → ℕ → Call → List ℤ → Answered
answer_at ds place call facts = call_answer (driver_at ds place) call facts

-- the drivers after it
abbrev pub roster_left : List DriverState → ℕ → Call → List ℤ → List DriverState
roster_left ds place call facts = slice_set ds place (call_left (driver_at ds place) call facts)
