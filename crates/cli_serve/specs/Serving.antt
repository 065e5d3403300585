-- What a session that is served keeps, and what a call of it has said.
use Rattle.std.specs.Prelude.{◌≡◌, ◌+◌, ◌<◌, ◌++◌, ℕ, List, [], ◌∷◌, length, true, Option, Some, None, Result, Ok, Err}
use Rattle.std.specs.List.{concat}
use Rattle.cli_serve.specs.declared.over.Over.{Over}
use Rattle.cli_serve.specs.declared.over.Over.TheVariants as over
use Rattle.cli_serve.specs.declared.serving.Serving.{Serving}
use Rattle.spec_output.specs.Lines.{line_names}
use Rattle.spec_outside.specs.Appending.{Appended, AppendedPrefix}
use Rattle.spec_outside.specs.Counts.{Rose}
use Rattle.spec_outside.specs.Lines.{Line, next_in}
use Rattle.spec_program.specs.declared.exit.Exit.{Exit}
use Rattle.spec_program.specs.declared.exit.Exit.TheVariants as exit
use Rattle.spec_serve.specs.declared.request_fault.RequestFault.TheVariants as request
use Rattle.spec_serve.specs.declared.request.Request.{Request}
use Rattle.spec_serve.specs.Inputs.{told_lines}
use Rattle.spec_serve.specs.Refusals.{misused}
use Rattle.spec_serve.specs.Talks.{AskedSaid, Heard, LinesSaid, Said, faulted, nothing_heard, refuse}
use Rattle.spec_session.specs.declared.ended.Ended.{Ended}
use Rattle.spec_session.specs.declared.ended.Ended.TheVariants as ended
use Rattle.spec_session.specs.Events.{after_step, event_step, misuse}
use Rattle.spec_session.specs.Labels.{labels}
use Rattle.spec_session.specs.Sessions.{Sitting}
use Rattle.spec_world.specs.declared.world.Event.{Event}
use Rattle.spec_world_file.specs.WorldFile.{Reading}
use Rattle.text_lines.specs.declared.stop.TextStop.{TextStop}
use Rattle.text_lines.specs.declared.stop.TextStop.TheVariants as stop

-- what holds as long as events are taken: the names are those of the session, and each uid has a place
pub record CanGoOn (s : Serving) : Type 0 where
  pub usable : s.session.usable ≡ true
  pub names : s.names ≡ line_names s.session.tree s.session.world
  pub places : length (labels s.session.tree) < length s.starts.places.items

-- what holds between two lines: besides, no event that was read is left
pub record CanRead (s : Serving) : Type 0 where
  pub goes_on : CanGoOn s
  pub events : s.reading.events ≡ []

-- a session takes these own events, one after another
abbrev pub TakesAll : List Event → Sitting → Type 0
TakesAll [] s = Unit {0}
TakesAll (event ∷ own) s = (misuse s event ≡ None) × TakesAll own (after_step (record s { own = own }) (event_step s event) true)

-- what holds at the beginning: besides, the world's own events are taken
pub record IsReady (s : Serving) : Type 0 where
  pub can_read : CanRead s
  pub own : TakesAll s.session.own s.session

-- ---- What is written

-- what a sink tells: the bytes that were written, those that were handed on, and the count of failures
pub record Out : Type 0 where
  pub written : Option (List ℕ)
  pub handed : Option (List ℕ)
  pub faults : ℕ

abbrev pub sink : Option (List ℕ) → Option (List ℕ) → ℕ → Out
sink written handed faults = record { written = written; handed = handed; faults = faults }

-- all that was written was handed on
abbrev pub IsHandedOn : Out → Type 0
IsHandedOn o = o.handed ≡ o.written

-- these lines were written
abbrev pub Wrote : List (List ℕ) → Out → Out → Type 0
Wrote lines old new = Appended old.written new.written (concat lines)

-- no more than these lines were written: for want of memory, or since a write failed
abbrev pub WroteFirst : TextStop → List (List ℕ) → Out → Out → Type 0
WroteFirst stop.WriteFault lines old new = Rose old.faults new.faults × AppendedPrefix old.written new.written (concat lines)
WroteFirst stop.NoMemory lines old new = AppendedPrefix old.written new.written (concat lines)

-- these lines are written, and then this is answered
abbrev pub Writes : List (List ℕ) → Result (Unit {0}) Over → Result (Unit {0}) Over → Out → Out → Type 0
Writes lines answer (Err (over.Stopped stop)) old new = WroteFirst stop lines old new
Writes lines answer result old new = (result ≡ answer) × Wrote lines old new

-- the exit where no more is written
abbrev pub stopped_exit : TextStop → Exit
stopped_exit stop.WriteFault = exit.Write
stopped_exit stop.NoMemory = exit.Memory

-- the exit where a finish comes to no end, by which it would have been this one
abbrev pub unfinished_exit : Over → Exit → Exit
unfinished_exit (over.Stopped stop) exit = stopped_exit stop
unfinished_exit other exit = faulted exit

-- ---- An event

-- the lines of the block of the last event of a session
abbrev pub last_lines : Sitting → List (List ℕ)
last_lines s = told_lines (line_names s.tree s.world) s.state s.block

-- an event that was made so is shown: its block is written; one that is not taken, or was cut off, has none
abbrev pub Shows : Result (Unit {0}) Ended → Sitting → Result (Unit {0}) Over → Out → Out → Type 0
Shows (Ok done) s result old new = Writes (last_lines s) (Ok done) result old new
Shows (Err (ended.Fault fault)) s result old new = Writes (last_lines s) (Err over.Faulted) result old new
Shows (Err ended.NoMemory) s result old new = (result ≡ Err (over.Stopped stop.NoMemory)) × (new ≡ old)
Shows (Err (ended.Misused misuse)) s result old new = (result ≡ Err (over.Refused (misused misuse))) × (new ≡ old)

-- ---- Parts of what is said

-- a part was said of what may be said in all: with whatever may be said after it
pub record IsPart (Whole Rest : Said → Type 0) (old new : Out) : Type 0 where
  pub lines : List (List ℕ)
  pub events : List Event
  pub wrote : Wrote lines old new
  pub all : (rest : Said) → Rest rest → Whole (record { lines = lines ++ rest.lines; events = events ++ rest.events; exit = rest.exit })

-- this is said to what the line of a number asks, and to what is heard after it, where that is read after what was read
abbrev pub Answers : Request → ℕ → Reading → Sitting → Heard → Said → Type 0
Answers asked number r s heard said = AskedSaid asked number s (λ after rest. LinesSaid heard.texts heard.broken (number + 1) r after rest) said

-- a part was said where no line is read any more, for this reason, at the line of a number in this session: before a
-- refusal; all, up to a fault; or no more than all
abbrev pub IsOver : Over → ℕ → Sitting → (Said → Type 0) → Out → Out → Type 0
IsOver over.Faulted number s Whole old new = (said : Said) × Whole said × (said.exit ≡ exit.Fault) × Wrote said.lines old new
IsOver (over.Refused fault) number s Whole old new = IsPart Whole (λ rest. rest ≡ refuse fault number s) old new
IsOver (over.Stopped stop) number s Whole old new = (said : Said) × Whole said × WroteFirst stop said.lines old new

-- whether not all may have been written
abbrev pub IsStop : Over → Type 0
IsStop (over.Stopped stop) = Unit {0}
IsStop _ = ⊥

-- before a line is read: of a program that was stopped it is said what an input has that can't be read
abbrev pub IsUnread : Over → Heard → Type 0
IsUnread (over.Stopped stop) heard = heard ≡ nothing_heard (Some request.End)
IsUnread _ heard = Unit {0}

-- a session has written what is said, and ends with its exit; or no more than that, at Write and Memory
abbrev pub HasSaid : Said → Exit → Out → Out → Type 0
HasSaid said exit.Write old new = WroteFirst stop.WriteFault said.lines old new
HasSaid said exit.Memory old new = WroteFirst stop.NoMemory said.lines old new
HasSaid said result old new = (said.exit ≡ result) × Wrote said.lines old new

-- no line is read any more, for this reason, at the line of a number: what is left to be said, and the exit
abbrev pub HasEnded : Over → ℕ → Sitting → Exit → Out → Out → Type 0
HasEnded over.Faulted number s result old new = (result ≡ exit.Fault) × (new ≡ old)
HasEnded (over.Refused fault) number s result old new = HasSaid (refuse fault number s) result old new
HasEnded (over.Stopped stop) number s result old new = (result ≡ stopped_exit stop) × (new ≡ old)

-- what holds where no line is read any more: where one is refused, the runners can be finished
abbrev pub CanEnd : Over → Serving → Type 0
CanEnd (over.Refused fault) s = CanGoOn s
CanEnd _ s = Unit {0}

-- what holds after a call by its answer: the next line can be read, or none is
abbrev pub IsLeft : {A : Type 0} → Result A Over → Serving → Type 0
IsLeft (Ok a) s = CanRead s
IsLeft (Err over) s = CanEnd over s

-- the finish of the runners has come to no end, by which it would have been this with this exit: it ended in a fault, or no
-- more was written
abbrev pub FinishOver : Over → Said → Exit → Out → Out → Type 0
FinishOver over.Faulted said exit old new = (said.exit ≡ faulted exit) × Wrote said.lines old new
FinishOver (over.Refused fault) said exit old new = ⊥
FinishOver (over.Stopped stop) said exit old new = WroteFirst stop said.lines old new

-- ---- The input

-- this line was taken of the bytes that were still to come, where the input tells them
abbrev pub TookLine : Option (List ℕ) → List ℕ → Option (List ℕ) → Type 0
TookLine None text ahead = Unit {0}
TookLine (Some bytes) text ahead = (rest : List ℕ) × (next_in bytes ≡ Line text rest) × (ahead ≡ Some rest)
