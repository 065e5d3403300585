-- What the last event has done, as C is told it.
use Rattle.std.specs.Prelude.{◌≡◌, ℕ, ℤ, pos, min, List, ◌++◌, length, map, take, drop, Option, Some, None, if◌then◌else◌}
use Rattle.spec_run.specs.declared.block.Header.{Header}
use Rattle.spec_run.specs.declared.block.Header.TheVariants as header
use Rattle.spec_run.specs.declared.fault.Cause.{Cause}
use Rattle.spec_run.specs.declared.fault.Cause.TheVariants as cause
use Rattle.spec_run.specs.declared.fault.NumericPort.{NumericPort}
use Rattle.spec_run.specs.declared.fault.NumericPort.TheVariants as port
use Rattle.spec_run.specs.declared.note.Note.{Note}
use Rattle.spec_run.specs.declared.note.Note.TheVariants as note
use Rattle.spec_script.specs.declared.value.Value.{Value}
use Rattle.host_library.specs.declared.notes.EntryTold.{EntryTold}
use Rattle.host_library.specs.declared.notes.EventTold.{EventTold}
use Rattle.host_library.specs.declared.notes.FactTold.{FactTold}
use Rattle.host_library.specs.declared.notes.NoteTold.{NoteTold}
use Rattle.host_library.specs.Numbers.{answer_number, no_status, status_number}

abbrev pub port_number : NumericPort → ℕ
port_number port.SuccessCount = 1
port_number port.FailureCount = 2
port_number port.NumAttempts = 3
port_number port.NumCycles = 4
port_number port.Msec = 5
port_number port.DelayMsec = 6
port_number port.ThenSkip = 7
port_number port.NumberOfRetries = 8
port_number port.Hz = 9

-- the number of a cause, and of the slot, the place or the port that it names
abbrev pub cause_numbers : Cause → ℕ × ℕ
cause_numbers (cause.NoEntry slot) = (1, slot)
cause_numbers (cause.NoInput place) = (2, place)
cause_numbers cause.Overflow = (3, 0)
cause_numbers cause.ZeroDivisor = (4, 0)
cause_numbers cause.NotWhole = (5, 0)
cause_numbers cause.Mixed = (6, 0)
cause_numbers cause.TextTooLong = (7, 0)
cause_numbers cause.Range = (8, 0)
cause_numbers (cause.BadPort named) = (9, port_number named)

-- a note that names no cause: its kind, runner, node, and the statuses before and after
abbrev pub plain : ℕ → ℕ → ℕ → ℕ → ℕ → NoteTold
plain kind runner uid before after =
    record { uid = uid; kind = kind; runner = runner; before = before; status = after; cause = 0; detail = 0 }

abbrev pub fault_told : ℕ → ℕ → Cause → NoteTold
fault_told runner uid why = record {
  uid = uid;
  kind = 6;
  runner = runner;
  before = no_status;
  status = no_status;
  cause = (cause_numbers why).0;
  detail = (cause_numbers why).1;
}

abbrev pub note_told : Note → NoteTold
note_told (note.Changed uid old new) = plain 1 0 uid (status_number old) (status_number new)
note_told (note.Started uid answer) = plain 2 0 uid no_status (answer_number answer)
note_told (note.Ran uid answer) = plain 3 0 uid no_status (answer_number answer)
note_told (note.Halted uid) = plain 4 0 uid no_status no_status
note_told (note.Root runner answer) = plain 5 runner 0 no_status (answer_number answer)
note_told (note.Faulted runner uid why) = fault_told runner uid why
note_told (note.Quenched runner uid) = plain 7 runner uid no_status no_status

-- the note at a place, if there is one
abbrev pub note_given : Option Note → NoteTold
note_given (Some n) = note_told n
note_given None = plain 0 0 0 no_status no_status

-- so many of the notes at the front of a room, and behind them what it held
abbrev pub notes_in : ℕ → List Note → List NoteTold → List NoteTold
notes_in count notes room = map note_told (take count notes) ++ drop count room

-- C is told how many notes there are, and as many of them as its room has place for
abbrev pub NotesTold : List Note → List NoteTold → ℕ → List NoteTold → Type 0
NotesTold notes room size after =
    (size ≡ length notes) × (after ≡ notes_in (min (length notes) (length room)) notes room)

abbrev pub event_told : Header → EventTold
event_told (header.Tick runner at) = record { kind = 1; runner = runner; status = no_status; number = 0; at_ms = at }
event_told (header.Halt runner at) = record { kind = 2; runner = runner; status = no_status; number = 0; at_ms = at }
event_told (header.Change fact value at) = record { kind = 3; runner = 0; status = no_status; number = fact; at_ms = at }
event_told (header.Finish runner at) = record { kind = 4; runner = runner; status = no_status; number = 0; at_ms = at }
event_told (header.Tell runner uid succeeds at) =
    record { kind = 5; runner = runner; status = if succeeds then 2 else 3; number = uid; at_ms = at }

-- the fact that has changed at a place, if there is one
abbrev pub fact_given : Option (ℕ × ℤ) → FactTold
fact_given (Some changed) = record { fact = changed.0; known = 1; value = changed.1 }
fact_given None = record { fact = 0; known = 0; value = pos 0 }

-- the entry that has changed or is new at a place, if there is one
abbrev pub entry_given : Option (ℕ × ℕ × Value) → EntryTold
entry_given (Some changed) = record { runner = changed.0; slot = changed.1; known = 1; unused = 0 }
entry_given None = record { runner = 0; slot = 0; known = 0; unused = 0 }
