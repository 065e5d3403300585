-- What is taken of an input, and what it asks.
use Rattle.std.specs.Prelude.{◌≡◌, ◌⊎◌, ℕ, nat_lt, List, MatchBool, Option, Some, None, Result, Ok, Err}
use Rattle.cli_serve.specs.declared.over.Over.{Over}
use Rattle.cli_serve.specs.declared.over.Over.TheVariants as over
use Rattle.cli_serve.specs.Serving.{TookLine}
use Rattle.spec_outside.specs.declared.line_fault.LineFault.{LineFault}
use Rattle.spec_outside.specs.declared.line_fault.LineFault.TheVariants as fault
use Rattle.spec_outside.specs.Lines.{Cut, End, Long, Next, next_in}
use Rattle.spec_serve.specs.declared.request.Request.{Request}
use Rattle.spec_serve.specs.declared.request.Request.TheVariants.{Finish}
use Rattle.spec_serve.specs.declared.request_fault.RequestFault.TheVariants as request
use Rattle.spec_serve.specs.Requests.{RequestReads}
use Rattle.spec_serve.specs.Talks.{last_line}
use Rattle.spec_world_file.specs.WorldFile.{Reading}
use Rattle.text_lines.specs.declared.stop.TextStop.TheVariants as stop

-- why no line was taken
abbrev pub untaken : LineFault → Over
untaken fault.TooLong = over.Refused request.TooLong
untaken fault.Failed = over.Refused request.End
untaken fault.Cut = over.Refused request.End
untaken fault.NoMemory = over.Stopped stop.NoMemory

-- what a line that is read asks, and what the next one is read after; or why none is; want of memory may come anywhere
abbrev pub Reads : List ℕ → Reading → Result Request Over → Reading → Type 0
Reads text r (Ok asked) left = RequestReads r text (Ok (asked, left))
Reads text r (Err (over.Refused (request.Line kind))) left = RequestReads r text (Err kind)
Reads text r (Err (over.Stopped stop.NoMemory)) left = Unit {0}
Reads text r (Err _) left = ⊥

-- what the line of a number asks
abbrev pub Asked : ℕ → List ℕ → Reading → Result Request Over → Reading → Type 0
Asked number text r result left =
    MatchBool (nat_lt last_line number) ((result ≡ Err (over.Refused request.TooMany)) × (left ≡ r)) (Reads text r result left)

-- this comes next of the bytes that are still to come, where the input tells them
abbrev pub Comes : Option (List ℕ) → Next → Type 0
Comes None next = Unit {0}
Comes (Some bytes) next = next_in bytes ≡ next

-- no line was taken: at the end of the input, in the middle of a line, at a line that is too long, or since a read failed
abbrev pub NoneTaken : Option (List ℕ) → Type 0 → Result Request Over → Type 0
NoneTaken ahead Failed (Ok Finish) = Comes ahead End
NoneTaken ahead Failed (Err (over.Refused request.End)) = Comes ahead Cut ⊎ Failed
NoneTaken ahead Failed (Err (over.Refused request.TooLong)) = Comes ahead Long
NoneTaken ahead Failed (Err (over.Stopped stop.NoMemory)) = Unit {0}
NoneTaken ahead Failed _ = ⊥

-- what the next line asks, which has this number; the end of the input asks for the finish
abbrev pub IsAsked : Option (List ℕ) → Type 0 → ℕ → Reading → Result Request Over → Option (List ℕ) → Reading → Type 0
IsAsked ahead Failed number r result rest left =
    ((text : List ℕ) × TookLine ahead text rest × Asked number text r result left) ⊎ (NoneTaken ahead Failed result × (left ≡ r))
