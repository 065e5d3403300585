-- How a session is served: the lines that are taken of an input, and what is said to each of them.
use Rattle.std.specs.Prelude.{◌≡◌, ◌==◌, ℕ, zero, suc, ◌+◌, nat_lt, true, List, [], ◌∷◌, ◌++◌, length, MatchBool, Option, Some, None, if◌then◌else◌, codes, decimal, Result, Ok, Err}
use Rattle.std.specs.List.{slice_split}
use Rattle.spec_outside.specs.Lines.{most_line_bytes}
use Rattle.spec_output.specs.Lines.{line_names}
use Rattle.spec_program.specs.declared.exit.Exit.{Exit}
use Rattle.spec_program.specs.declared.exit.Exit.TheVariants as exit
use Rattle.spec_run.specs.declared.fault.RunFault.{RunFault}
use Rattle.spec_run.specs.Run.{Stepped}
use Rattle.spec_serve.specs.declared.request_fault.RequestFault.{RequestFault}
use Rattle.spec_serve.specs.declared.request_fault.RequestFault.TheVariants as request
use Rattle.spec_serve.specs.Inputs.{told_lines}
use Rattle.spec_serve.specs.Refusals.{misused, refused_line}
use Rattle.spec_serve.specs.declared.request.Request.{Request}
use Rattle.spec_serve.specs.declared.request.Request.TheVariants.{At, Finish, Make}
use Rattle.spec_serve.specs.Requests.{RequestReads}
use Rattle.spec_session.specs.declared.ended.Misuse.{Misuse}
use Rattle.spec_session.specs.Events.{after_step, event_step, finish_step, misuse}
use Rattle.spec_session.specs.Labels.{labels}
use Rattle.spec_session.specs.Sessions.{Sitting}
use Rattle.spec_world.specs.declared.world.Event.{Event}
use Rattle.spec_world_file.specs.declared.world_fault.WorldFaultKind.{WorldFaultKind}
use Rattle.spec_world_file.specs.WorldFile.{Reading}

-- ---- The lines of an input

-- the lines that are taken of an input, and why no further one is, where that is not its end
pub record Heard : Type 0 where
  pub texts : List (List ℕ)
  pub broken : Option RequestFault

-- no line is taken, for this reason
abbrev pub nothing_heard : Option RequestFault → Heard
nothing_heard broken = record { texts = []; broken = broken }

-- what is taken of a part and of those after it, of which this is taken: the last part is no line
abbrev pub heard_from : List ℕ → List (List ℕ) → Heard → Heard
heard_from [] [] rest = nothing_heard None
heard_from (b ∷ part) [] rest = nothing_heard (Some request.End)
heard_from part (next ∷ parts) rest = record rest { texts = part ∷ rest.texts }

-- what is taken of the parts between the line feeds of an input
abbrev pub heard_in : List (List ℕ) → Heard
heard_in [] = nothing_heard None
heard_in (part ∷ parts) =
    if nat_lt most_line_bytes (length part) then nothing_heard (Some request.TooLong) else heard_from part parts (heard_in parts)

-- what is taken of the bytes of an input
abbrev pub heard_of : List ℕ → Heard
heard_of bytes = heard_in (slice_split (λ b. b == 10) bytes)

-- .. where a read fails, after any of these lines
pub record FailsAfter (heard whole : Heard) : Type 0 where
  pub rest : List (List ℕ)
  pub texts : whole.texts ≡ heard.texts ++ rest
  pub broken : heard.broken ≡ Some request.End

-- ---- What is said

-- lines, the events that were made, and how the program ends
pub record Said : Type 0 where
  pub lines : List (List ℕ)
  pub events : List Event
  pub exit : Exit

-- nothing more, but this exit
abbrev pub only : Exit → Said
only exit = record { lines = []; events = []; exit = exit }

-- some lines, and then this
abbrev pub then_said : List (List ℕ) → Said → Said
then_said lines said = record said { lines = lines ++ said.lines }

-- an event with its lines, and then this
abbrev pub after_event : Event → List (List ℕ) → Said → Said
after_event event lines said = record { lines = lines ++ said.lines; events = event ∷ said.events; exit = said.exit }

-- the line that says that a line was answered
abbrev pub ok_line : List ℕ
ok_line = codes "ok\n"

-- the line that says how many nodes a session has, and that lines are read
abbrev pub ready_line : Sitting → List ℕ
ready_line s = codes "ready " ++ decimal (length (labels s.tree)) ++ codes "\n"

-- the block of a step of a session
abbrev pub block_lines : Sitting → Stepped → List (List ℕ)
block_lines s d = told_lines (line_names s.tree s.world) d.state d.block

-- ---- The end

-- the exit where a finish ends in a fault
abbrev pub faulted : Exit → Exit
faulted exit.Done = exit.Fault
faulted other = other

-- what follows a finish: nothing where it ends in a fault
abbrev pub by_fault : Option RunFault → Exit → Said → Said
by_fault None exit rest = rest
by_fault (Some fault) exit rest = only (faulted exit)

-- so many runners are finished from this one on
abbrev pub finishes : ℕ → ℕ → Exit → Sitting → Said
finishes zero runner exit s = only exit
finishes (suc more) runner exit s =
    let d = finish_step s runner in
    then_said (block_lines s d) (by_fault d.fault exit (finishes more (runner + 1) exit (after_step s d true)))

-- all runners are
abbrev pub finish_all : Exit → Sitting → Said
finish_all exit s = finishes s.world.runners 1 exit s

-- the line of a number is refused
abbrev pub refuse : RequestFault → ℕ → Sitting → Said
refuse fault number s = then_said (refused_line fault number ∷ []) (finish_all exit.Request s)

-- no line is taken any more, where the next one would have this number
abbrev pub at_end : Option RequestFault → ℕ → Sitting → Said
at_end None number s = finish_all exit.Done s
at_end (Some fault) number s = refuse fault number s

-- ---- Answers

-- What lies ahead of a session: what may be said from there on.
abbrev pub Ahead : Type 1
Ahead = Sitting → Said → Type 0

-- this is said to an event that ends so: its block, and then these lines and what lies ahead, unless it ends in a fault
abbrev pub StepSaid : Option RunFault → Event → List (List ℕ) → List (List ℕ) → (Said → Type 0) → Said → Type 0
StepSaid (Some fault) event block lines Rest said = said ≡ record { lines = block; events = event ∷ []; exit = exit.Fault }
StepSaid None event block lines Rest said = (rest : Said) × Rest rest × (said ≡ after_event event (block ++ lines) rest)

-- this is said to an event that a session takes, before these lines
abbrev pub EventSaid : Sitting → Event → List (List ℕ) → Ahead → Said → Type 0
EventSaid s event lines Rest said =
    let d = event_step s event in StepSaid d.fault event (block_lines s d) lines (Rest (after_step s d true)) said

-- this is said to an event of a line, which is refused where a session does not take the event
abbrev pub TakenSaid : Option Misuse → ℕ → Sitting → Event → Ahead → Said → Type 0
TakenSaid (Some misuse) number s event Rest said = said ≡ refuse (misused misuse) number s
TakenSaid None number s event Rest said = EventSaid s event (ok_line ∷ []) Rest said

-- this is said to what the line of a number asks
abbrev pub AskedSaid : Request → ℕ → Sitting → Ahead → Said → Type 0
AskedSaid Finish number s Rest said = said ≡ finish_all exit.Done s
AskedSaid At number s Rest said = (rest : Said) × Rest s rest × (said ≡ then_said (ok_line ∷ []) rest)
AskedSaid (Make event) number s Rest said = TakenSaid (misuse s event) number s event Rest said

-- this is said to the line of a number that reads as this
abbrev pub LineSaid : Result (Request × Reading) WorldFaultKind → ℕ → Sitting → (Reading → Ahead) → Said → Type 0
LineSaid (Ok asked) number s Rest said = AskedSaid asked.0 number s (Rest asked.1) said
LineSaid (Err kind) number s Rest said = said ≡ refuse (request.Line kind) number s

-- the number of the last line that may be taken
abbrev pub last_line : ℕ
last_line = 4294967295

-- this is said to lines, of which the first has a number and is read after what was read, and to their end
abbrev pub LinesSaid : List (List ℕ) → Option RequestFault → ℕ → Reading → Sitting → Said → Type 0
LinesSaid [] broken number r s said = said ≡ at_end broken number s
LinesSaid (text ∷ texts) broken number r s said =
    MatchBool (nat_lt last_line number) (said ≡ refuse request.TooMany number s)
    ((asks : Result (Request × Reading) WorldFaultKind) × RequestReads r text asks
    × LineSaid asks number s (λ left after rest. LinesSaid texts broken (number + 1) left after rest) said)

-- this is said to what is heard, where lines are read after what was read
abbrev pub HeardSaid : Heard → Reading → Sitting → Said → Type 0
HeardSaid heard r s said =
    (rest : Said) × LinesSaid heard.texts heard.broken 1 r s rest × (said ≡ then_said (ready_line s ∷ []) rest)

-- this is said where these own events of the world are made first
abbrev pub Serves : List Event → Heard → Reading → Sitting → Said → Type 0
Serves [] heard r s said = HeardSaid heard r s said
Serves (event ∷ own) heard r s said =
    EventSaid (record s { own = own }) event [] (λ after rest. Serves own heard r after rest) said
