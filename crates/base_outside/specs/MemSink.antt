-- A sink in memory of which some calls are to fail.
use Rattle.std.specs.Prelude.{ℕ, ◌≡◌, List, [], ◌∷◌, ◌++◌, Option, Some, None, IsNone, IsSome, Result, Ok, Err, take, nat_eq, if◌then◌else◌}
use Rattle.base_outside.specs.Counts.{next}
use Rattle.base_outside.specs.declared.sink.SinkFault.{SinkFault}
use Rattle.base_outside.specs.declared.sink.SinkFault.TheVariants as fault

-- what was written, the numbers of the calls that are to fail with the bytes that each still takes, and the counts so far
pub record SinkState : Type 0 where
  pub written : List ℕ
  pub fails : List (ℕ × ℕ)
  pub calls : ℕ
  pub faults : ℕ

-- how many bytes this call still takes, where it is to fail
abbrev pub takes_at : List (ℕ × ℕ) → ℕ → Option ℕ
takes_at [] call = None
takes_at (fail ∷ fails) call = if nat_eq fail.0 call then Some fail.1 else takes_at fails call

-- how many bytes the next call still takes, where it is to fail
abbrev pub takes_now : SinkState → Option ℕ
takes_now s = takes_at s.fails (next s.calls)

-- the sink once a call has ended this way
abbrev pub after_call : SinkState → List ℕ → Option ℕ → SinkState
after_call s piece None = record s { written = s.written ++ piece; calls = next s.calls }
after_call s piece (Some bytes) = record s { written = s.written ++ take bytes piece; calls = next s.calls; faults = next s.faults }

-- the sink after one more call, which took the whole piece or was to fail
abbrev pub after_write : SinkState → List ℕ → SinkState
after_write s piece = after_call s piece (takes_now s)

-- a write of a piece gives this answer: it is done or fails as the call is to, or there is no memory, and then it was only counted
abbrev pub Gives : SinkState → List ℕ → Result (Unit {0}) SinkFault → SinkState → Type 0
Gives old piece (Ok done) new = IsNone (takes_now old) × (new ≡ after_write old piece)
Gives old piece (Err fault.Failed) new = IsSome (takes_now old) × (new ≡ after_write old piece)
Gives old piece (Err fault.NoMemory) new = new ≡ record old { calls = next old.calls }
