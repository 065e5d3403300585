-- A sink over a writer of the host, which gathers pieces before it hands them on.
use Rattle.std.specs.Prelude.{ℕ, ◌≡◌, List, Option, Result, Ok, Err}
use Rattle.std.specs.Io.KnownBytes.{append_known}
use Rattle.spec_outside.specs.Appending.{Appended, AppendedPrefix}
use Rattle.base_outside.specs.Counts.{next}
use Rattle.base_outside.specs.declared.sink.SinkFault.{SinkFault}
use Rattle.base_outside.specs.declared.sink.SinkFault.TheVariants as fault

-- what the writer tells of its bytes, the bytes that it has still to be handed, and the count of failures
pub record OutState : Type 0 where
  pub told : Option (List ℕ)
  pub gathered : List ℕ
  pub faults : ℕ

-- the bytes of the writer and then those that are gathered, where the writer tells
abbrev pub written_so_far : OutState → Option (List ℕ)
written_so_far s = append_known s.told s.gathered

-- a write of a piece gives this answer: the piece was written, or a prefix of it and a failure was counted; no memory is asked for
abbrev pub Gives : OutState → List ℕ → Result (Unit {0}) SinkFault → OutState → Type 0
Gives old piece (Ok done) new = Appended (written_so_far old) (written_so_far new) piece × (new.faults ≡ old.faults)
Gives old piece (Err fault.Failed) new = AppendedPrefix (written_so_far old) (written_so_far new) piece × (new.faults ≡ next old.faults)
Gives old piece (Err fault.NoMemory) new = ⊥
