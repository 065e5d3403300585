-- What the lines of a host ask, each after what was read before it: the lines of a world script that its events may have,
-- and `finish`.
use Rattle.std.specs.Prelude.{◌≡◌, ℕ, Bool, true, false, List, [], ◌∷◌, codes, bytes_eq, MatchBool, MatchOption, Option, Some, None, option_and_then, if◌then◌else◌, Result, Ok, Err}
use Rattle.spec_serve.specs.declared.request.Request.{Request}
use Rattle.spec_serve.specs.declared.request.Request.TheVariants.{At, Finish, Make}
use Rattle.spec_world.specs.declared.world.Event.{Event}
use Rattle.spec_world_file.specs.declared.world_fault.WorldFaultKind.{WorldFaultKind}
use Rattle.spec_world_file.specs.declared.world_fault.WorldFaultKind.TheVariants.{BadLine}
use Rattle.spec_world_file.specs.WorldFile.{AfterForm, AtLine, HaltLine, Line, Reading, SetLine, TellLine, TickLine, content, line_in}

-- the forms of lines that a host may send: a moment, and the events
abbrev pub is_request : Line → Bool
is_request (AtLine ms) = true
is_request (TickLine runner) = true
is_request (HaltLine runner) = true
is_request (SetLine fact value) = true
is_request (TellLine runner uid succeeds outs) = true
is_request _ = false

-- what the content of a line says, if it has one of these forms
abbrev pub request_line : List ℕ → Option Line
request_line text = option_and_then (λ line. if is_request line then Some line else None) (line_in text)

-- what is asked by the events that a line has added
abbrev pub request_of : List Event → Request
request_of [] = At
request_of (event ∷ events) = Make event

-- what is asked and what the next line is read after, where a line has left this; the event is no longer part of it
abbrev pub asked : Result Reading WorldFaultKind → Result (Request × Reading) WorldFaultKind
asked (Ok r) = Ok (request_of r.events, record r { events = [] })
asked (Err kind) = Err kind

-- what the content of a line asks, where that is no finish
pub record Asks (r : Reading) (text : List ℕ) (asks : Result (Request × Reading) WorldFaultKind) : Type 0 where
  pub said : Result Reading WorldFaultKind
  pub after : AfterForm r (request_line text) said
  pub is : asks ≡ asked said

-- what the text of a line asks
abbrev pub RequestReads : Reading → List ℕ → Result (Request × Reading) WorldFaultKind → Type 0
RequestReads r text asks = MatchBool (bytes_eq (content text) (codes "finish")) (asks ≡ Ok (Finish, r)) (Asks r (content text) asks)
