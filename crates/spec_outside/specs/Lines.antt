-- What is told of an input of lines.
use Rattle.std.specs.Prelude.{ℕ, ◌≡◌, nat_eq, nat_lt, if◌then◌else◌, Bool, true, false, List, [], ◌∷◌, length, Option, Some, None, Result, Ok, Err}
use Rattle.spec_outside.specs.declared.line_fault.LineFault.{LineFault}
use Rattle.spec_outside.specs.declared.line_fault.LineFault.TheVariants as fault

-- the most bytes of a line, without its line feed
abbrev pub most_line_bytes : ℕ
most_line_bytes = 65536

-- what comes next of an input: a line, with the bytes after its line feed; the end of the input, at the beginning of a
-- line or in the middle of one; or a line that is too long
pub data Next : Type 0 where
  Line : (text rest : List ℕ) → Next
  End : Next
  Cut : Next
  Long : Next

-- the bytes before the first line feed, or all where there is none
abbrev pub before_feed : List ℕ → List ℕ
before_feed [] = []
before_feed (b ∷ bytes) = if nat_eq b 10 then [] else b ∷ before_feed bytes

-- the bytes from the first line feed on, or none where there is none
abbrev pub from_feed : List ℕ → List ℕ
from_feed [] = []
from_feed (b ∷ bytes) = if nat_eq b 10 then b ∷ bytes else from_feed bytes

-- what comes next where the first of these bytes are those of a line and the others begin with its line feed
abbrev pub next_by : List ℕ → List ℕ → Next
next_by text (feed ∷ rest) = Line text rest
next_by [] [] = End
next_by (b ∷ text) [] = Cut

-- what comes next of these bytes
abbrev pub next_in : List ℕ → Next
next_in bytes = if nat_lt most_line_bytes (length (before_feed bytes)) then Long else next_by (before_feed bytes) (from_feed bytes)

-- this is answered for what comes next: whether there is a line, which then is in the room, or why none was taken; a read
-- may fail and memory run out at any time
abbrev pub IsTaken : Next → Result Bool LineFault → List ℕ → Option (List ℕ) → Type 0
IsTaken (Line text rest) (Ok true) room ahead = (room ≡ text) × (ahead ≡ Some rest)
IsTaken End (Ok false) room ahead = Unit {0}
IsTaken Cut (Err fault.Cut) room ahead = Unit {0}
IsTaken Long (Err fault.TooLong) room ahead = Unit {0}
IsTaken next (Err fault.Failed) room ahead = Unit {0}
IsTaken next (Err fault.NoMemory) room ahead = Unit {0}
IsTaken next answer room ahead = ⊥

-- .. of the bytes that are still to come, where the input tells them
abbrev pub TakesNext : Option (List ℕ) → Result Bool LineFault → List ℕ → Option (List ℕ) → Type 0
TakesNext None answer room ahead = Unit {0}
TakesNext (Some bytes) answer room ahead = IsTaken (next_in bytes) answer room ahead
