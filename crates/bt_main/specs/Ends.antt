-- How the program ends over the words of its command line.
use Rattle.std.specs.Prelude.{◌≡◌, ◌⊎◌, ℕ, List, [], Option, Some, None}
use Rattle.std.specs.Io.KnownBytes.{Keeps}
use Rattle.base_outside.specs.OutSink.{OutState, written_so_far}
use Rattle.base_outside.specs.Reads.{count_after}
use Rattle.cli_serve.specs.Ends.{IsAnswered}
use Rattle.cli_serve.specs.Serving.{Out, sink}
use Rattle.spec_outside.specs.Counts.{Rose}
use Rattle.spec_outside.specs.Moments.{Moments}
use Rattle.spec_program.specs.declared.exit.Exit.{Exit}
use Rattle.spec_program.specs.declared.exit.Exit.TheVariants as exit
use Rattle.spec_program.specs.Answered.{WordsAnswered}
use Rattle.spec_program.specs.Answers.{Side, side}
use Rattle.spec_program.specs.Reads.{Reading}
use Rattle.spec_program.specs.Words.{Served, command_of, serve_of, status_of}
use Rattle.spec_run.specs.Drivers.{DriverState}
use Rattle.spec_serve.specs.Served.{IsHeard}
use Rattle.spec_session.specs.Opening.{new_drivers}

-- ---- What is called

-- the shelf of the host is its count of failures, which a read that fails raises by one
abbrev pub HostReads : Reading ℕ
HostReads old name answer new = new ≡ count_after answer old

-- what a sink tells `bt`, which finds this clock and these drivers
abbrev pub side_of : OutState → Option Moments → List DriverState → Side
side_of s clock drivers = side (written_so_far s) s.faults clock drivers

-- `bt` was called with the words, over a shelf whose reads have not failed yet and drivers that were not called yet, and
-- has answered so
pub record HasRun (words : List (List ℕ)) (result : Exit) (old new : OutState) : Type 0 where
  pub failures : ℕ
  pub before : Option Moments
  pub after : Option Moments
  pub drivers : List DriverState
  pub answered : WordsAnswered HostReads None (command_of words) (Rose 0 failures) 0 failures result
      (side_of old before new_drivers) (side_of new after drivers)

-- what a sink tells of a session
abbrev pub out_of : OutState → Out
out_of s = sink (written_so_far s) s.told s.faults

-- `serve_files` was called with what is served, over such a shelf and an input of which no read has failed yet, and has
-- answered so
pub record HasServed (served : Served) (result : Exit) (old new : OutState) : Type 0 where
  pub failures : ℕ
  pub ahead : Option (List ℕ)
  pub unheard : ℕ
  pub answered : IsAnswered HostReads None served (IsHeard ahead (Rose 0 unheard)) (Rose 0 failures) 0 failures result
      (out_of old) (out_of new)

-- what the words name to be served was served, or `bt` was called with the words
abbrev pub HasCalled : Option Served → List (List ℕ) → Exit → OutState → OutState → Type 0
HasCalled (Some served) words result old new = HasServed served result old new
HasCalled None words result old new = HasRun words result old new

-- The words were answered by one call; or memory ran out before it, and nothing was written.
abbrev pub AreAnswered : List (List ℕ) → Exit → OutState → OutState → Type 0
AreAnswered words result old new = HasCalled (serve_of words) words result old new ⊎ ((result ≡ exit.Memory) × (new ≡ old))

-- ---- What is handed on

-- All that was written is then handed on, and the exit stays; or that fails, and the exit is Write.
abbrev pub IsHandedOn : Exit → Exit → OutState → OutState → Type 0
IsHandedOn answered result old new =
    ((result ≡ answered) × (new.told ≡ written_so_far new)) ⊎ ((result ≡ exit.Write) × Rose old.faults new.faults)

-- words were answered, and what was written was handed on
pub record HasEnded (words : List (List ℕ)) (result : Exit) (old new : OutState) : Type 0 where
  pub answered : Exit
  pub between : OutState
  pub are : AreAnswered words answered old between
  pub handed : IsHandedOn answered result between new
  pub kept : Keeps (written_so_far between) (written_so_far new)

-- ---- The status

-- words have ended with the status of their exit
pub record HasStatus (words : List (List ℕ)) (status : ℕ) (old new : OutState) : Type 0 where
  pub result : Exit
  pub is : status ≡ status_of result
  pub ended : HasEnded words result old new

-- .. over a sink to which nothing was written
pub record Ended (status : ℕ) : Type 0 where
  pub words : List (List ℕ)
  pub told : Option (List ℕ)
  pub left : OutState
  pub ended : HasStatus words status (record { told = told; gathered = []; faults = 0 }) left

-- the status of words; or that of Memory, where memory ran out before the words or the sink were there
abbrev pub IsStatus : ℕ → Type 0
IsStatus status = Ended status ⊎ (status ≡ status_of exit.Memory)
