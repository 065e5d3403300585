-- An input of lines over a reader of the host.
use Rattle.std.specs.Prelude.{◌≡◌, ◌≢◌, ◌<◌, ◌≤◌, ◌+◌, ℕ, true, false, List, [], ◌∷◌, ◌++◌, All, length, Option, Some, None, Result, Ok, Err, Bool, OnSome}
use Rattle.std.specs.Io.{IsEmptyOrEndsWith, StopsAt}
use Rattle.std.specs.Io.BufRead.{ends_with_byte}
use Rattle.std.specs.Io.KnownBytes.{Consumes, IsAtEnd}
use Rattle.spec_outside.specs.declared.line_fault.LineFault.{LineFault}
use Rattle.spec_outside.specs.declared.line_fault.LineFault.TheVariants as fault
use Rattle.spec_outside.specs.Lines.{most_line_bytes}

-- what the reader tells of the bytes that are still to come, and the count of failures
pub record InState : Type 0 where
  pub ahead : Option (List ℕ)
  pub faults : ℕ

-- bytes of a line were taken of an input into the room, and whether its line feed or the end of the input was met
pub record Took (met : Bool) (old new : List ℕ) (before after : Option (List ℕ)) : Type 0 where
  pub part : List ℕ
  pub added : new ≡ old ++ part
  pub consumed : Consumes before after part
  pub stops : StopsAt part 10
  pub ends : met ≡ true → IsEmptyOrEndsWith part 10
  pub at_end : met ≡ true → length part ≡ 0 → OnSome before (IsAtEnd after)
  pub free : met ≡ false → All (λ b. b ≢ 10) part

-- these bytes were read of an input that tells its own: up to the first line feed, or to the end, or too many for a line
pub record IsRead (bytes read rest : List ℕ) : Type 0 where
  pub all : bytes ≡ read ++ rest
  pub stops : StopsAt read 10
  pub few : length read ≤ most_line_bytes + 1
  pub ends : ends_with_byte 10 read ≡ false → length read ≤ most_line_bytes → rest ≡ []

-- .. where the input tells them
abbrev pub WasRead : Option (List ℕ) → List ℕ → Option (List ℕ) → Type 0
WasRead None read after = Unit {0}
WasRead (Some bytes) read None = ⊥
WasRead (Some bytes) read (Some rest) = IsRead bytes read rest

-- what bytes are that were read up to a line feed: a line, which is left without its line feed; the end; or why they are
-- no line
abbrev pub IsLine : List ℕ → Result Bool LineFault → List ℕ → Type 0
IsLine read (Ok true) left = read ≡ left ++ 10 ∷ []
IsLine read (Ok false) left = read ≡ []
IsLine read (Err fault.TooLong) left = (ends_with_byte 10 read ≡ false) × (most_line_bytes < length read)
IsLine read (Err fault.Cut) left = (ends_with_byte 10 read ≡ false) × (0 < length read) × (length read ≤ most_line_bytes)
IsLine read (Err other) left = ⊥
