-- What is said to what is heard tells the run of the events that were made.
use Rattle.std.proofs.Common.{◌≡◌, ℕ, zero, suc, ◌+◌, nat_lt, List, [], ◌∷◌, ◌++◌, append_assoc, append-nil, Bool, true, false, MatchBool, Option, Some, None, Result, Ok, Err, refl, sym, ap, subst, ◌∙◌}
use Rattle.std.proofs.lemmas.List.Elements.{filter-append}
use Rattle.std.specs.List.{flat_map}
use Rattle.run_laws.proofs.Runs.{before_same}
use Rattle.spec_output.specs.Lines.{line_names, lines_of}
use Rattle.spec_program.specs.declared.exit.Exit.{Exit}
use Rattle.spec_program.specs.declared.exit.Exit.TheVariants as exit
use Rattle.spec_run.specs.declared.block.Block.{Block}
use Rattle.spec_run.specs.declared.fault.RunFault.{RunFault}
use Rattle.spec_run.specs.Run.{RunState, Runner, Stepped, Trace, before_rest, finish, finishes as run_finishes, opening, reset_step, run_from, runner_at, step, step_by, tick_step}
use Rattle.spec_run.specs.declared.block.Header.{Header}
use Rattle.spec_run.specs.declared.block.Header.TheVariants as header
use Rattle.spec_serve.specs.declared.request_fault.RequestFault.{RequestFault}
use Rattle.spec_serve.specs.declared.request_fault.RequestFault.TheVariants as request
use Rattle.spec_serve.specs.declared.request.Request.{Request}
use Rattle.spec_serve.specs.declared.request.Request.TheVariants.{At, Finish, Make}
use Rattle.spec_serve.specs.Refusals.{misused}
use Rattle.spec_serve.specs.Requests.{RequestReads}
use Rattle.spec_serve.specs.Talks.{Ahead, AskedSaid, EventSaid, Heard, HeardSaid, LineSaid, LinesSaid, Said, Serves, StepSaid, TakenSaid, at_end, block_lines, by_fault, finish_all, finishes, last_line, ok_line, refuse}
use Rattle.spec_serve.specs.Traces.{IsTrace}
use Rattle.spec_session.specs.declared.ended.Misuse.{Misuse}
use Rattle.spec_session.specs.Events.{after_step, event_step, finish_step, misuse}
use Rattle.spec_session.specs.Opening.{opened}
use Rattle.spec_session.specs.Sessions.{Sitting}
use Rattle.spec_tree.specs.declared.term.Tree.{Tree}
use Rattle.spec_world.specs.declared.world.Event.{Event}
use Rattle.spec_world.specs.declared.world.What.{What}
use Rattle.spec_world.specs.declared.world.What.TheVariants.{Tick, Halt, Change, Tell}
use Rattle.spec_world.specs.declared.world.World.{World}
use Rattle.spec_world_file.specs.declared.world_fault.WorldFaultKind.{WorldFaultKind}
use Rattle.spec_world_file.specs.WorldFile.{Reading}
use Rattle.cli_serve.proofs.Laws.TraceLines.{block_stays, kept_lines, stays}

-- the run of events from a session on
abbrev pub run_of : Sitting → List Event → Trace
run_of s events = run_from s.tree s.world events s.state

-- the lines of blocks
abbrev pub trace_of : Sitting → List Block → List (List ℕ)
trace_of s blocks = flat_map (lines_of (line_names s.tree s.world)) blocks

-- what is said from a session on is the trace of the run of the events that were made, but for the other lines
abbrev pub Traces : Sitting → Said → Type 0
Traces s said = kept_lines said.lines ≡ trace_of s (run_of s said.events).blocks

-- a block, before other lines
block_and : (s : Sitting) (d : Stepped) (more : List (List ℕ)) (blocks : List Block) → kept_lines more ≡ trace_of s blocks → kept_lines (block_lines s d ++ more) ≡ trace_of s (d.block ∷ blocks)
block_and s d more blocks is =
    filter-append stays (block_lines s d) more
    ∙ ap (λ lines. lines ++ kept_lines more) (block_stays (line_names s.tree s.world) d.state d.block)
    ∙ ap (λ lines. lines_of (line_names s.tree s.world) d.block ++ lines) is

-- ---- The end

finished_by : (fault : Option RunFault) (s : Sitting) (d : Stepped) (exit : Exit) (rest : Said) (goes : RunState → Trace) →
    kept_lines rest.lines ≡ trace_of s (goes d.state).blocks → kept_lines (block_lines s d ++ (by_fault fault exit rest).lines) ≡ trace_of s (before_rest fault d goes).blocks
finished_by None s d exit rest goes is = block_and s d rest.lines (goes d.state).blocks is
finished_by (Some f) s d exit rest goes is = block_and s d [] [] refl

finishes_trace : (more runner : ℕ) (exit : Exit) (s : Sitting) → kept_lines (finishes more runner exit s).lines ≡ trace_of s (run_finishes s.tree s.world runner more s.state).blocks
finishes_trace zero runner exit s = refl
finishes_trace (suc more) runner exit s =
    let d : Stepped = finish_step s runner in
    finished_by d.fault s d exit (finishes more (runner + 1) exit (after_step s d true)) (run_finishes s.tree s.world (runner + 1) more) (finishes_trace more (runner + 1) exit (after_step s d true))

no_event : (fault : Option RunFault) (exit : Exit) (rest : Said) → rest.events ≡ [] → (by_fault fault exit rest).events ≡ []
no_event None exit rest is = is
no_event (Some f) exit rest is = refl

-- no event is made by a finish
pub finishes_events : (more runner : ℕ) (exit : Exit) (s : Sitting) → (finishes more runner exit s).events ≡ []
finishes_events zero runner exit s = refl
finishes_events (suc more) runner exit s =
    let d : Stepped = finish_step s runner in
    no_event d.fault exit (finishes more (runner + 1) exit (after_step s d true)) (finishes_events more (runner + 1) exit (after_step s d true))

finish_traces : (exit : Exit) (s : Sitting) → Traces s (finish_all exit s)
finish_traces exit s =
    finishes_trace s.world.runners 1 exit s
    ∙ ap (λ (events : List Event). trace_of s (run_of s events).blocks) (sym (finishes_events s.world.runners 1 exit s))

refuse_traces : (fault : RequestFault) (number : ℕ) (s : Sitting) → Traces s (refuse fault number s)
refuse_traces fault number s = finish_traces exit.Request s

end_traces : (broken : Option RequestFault) (number : ℕ) (s : Sitting) → Traces s (at_end broken number s)
end_traces None number s = finish_traces exit.Done s
end_traces (Some fault) number s = refuse_traces fault number s

-- ---- Answers

-- what lies ahead tells its run
abbrev TellsRun : Ahead → Type 0
TellsRun Rest = (s : Sitting) (said : Said) → Rest s said → Traces s said

module _ (s : Sitting) (event : Event) (lines : List (List ℕ)) (gone : kept_lines lines ≡ []) (Rest : Ahead) (tells : TellsRun Rest) where
  abbrev d : Stepped
  d = event_step s event

  step_traces : (fault : Option RunFault) → d.fault ≡ fault → (said : Said) → StepSaid fault event (block_lines s d) lines (Rest (after_step s d true)) said → Traces s said
  step_traces (Some f) e said is =
      subst (λ (x : Said). Traces s x) (sym is)
      (subst (λ (fault : Option RunFault). kept_lines (block_lines s d) ≡ trace_of s (before_rest fault d (run_from s.tree s.world [])).blocks) (sym e)
      (ap kept_lines (sym (append-nil (block_lines s d))) ∙ block_and s d [] [] refl))
  step_traces None e said (rest, goes, is) =
      subst (λ (x : Said). Traces s x) (sym is)
      (subst (λ (fault : Option RunFault). kept_lines ((block_lines s d ++ lines) ++ rest.lines) ≡ trace_of s (before_rest fault d (run_from s.tree s.world rest.events)).blocks) (sym e)
      (ap kept_lines (append_assoc (block_lines s d) lines rest.lines)
      ∙ block_and s d (lines ++ rest.lines) (run_of (after_step s d true) rest.events).blocks
      (filter-append stays lines rest.lines ∙ ap (λ front. front ++ kept_lines rest.lines) gone ∙ tells (after_step s d true) rest goes)))

  event_traces : (said : Said) → EventSaid s event lines Rest said → Traces s said
  event_traces said is = step_traces d.fault refl said is

taken_traces : (misuse : Option Misuse) (number : ℕ) (s : Sitting) (event : Event) (Rest : Ahead) → TellsRun Rest → (said : Said) → TakenSaid misuse number s event Rest said → Traces s said
taken_traces (Some fault) number s event Rest tells said is = subst (λ (x : Said). Traces s x) (sym is) (refuse_traces (misused fault) number s)
taken_traces None number s event Rest tells said is = event_traces s event (ok_line ∷ []) refl Rest tells said is

asked_traces : (request : Request) (number : ℕ) (s : Sitting) (Rest : Ahead) → TellsRun Rest → (said : Said) → AskedSaid request number s Rest said → Traces s said
asked_traces Finish number s Rest tells said is = subst (λ (x : Said). Traces s x) (sym is) (finish_traces exit.Done s)
asked_traces At number s Rest tells said (rest, goes, is) = subst (λ (x : Said). Traces s x) (sym is) (tells s rest goes)
asked_traces (Make event) number s Rest tells said is = taken_traces (misuse s event) number s event Rest tells said is

line_traces : (asks : Result (Request × Reading) WorldFaultKind) (number : ℕ) (s : Sitting) (Rest : Reading → Ahead) → ((r : Reading) → TellsRun (Rest r)) → (said : Said) → LineSaid asks number s Rest said → Traces s said
line_traces (Ok asked) number s Rest tells said is = asked_traces asked.0 number s (Rest asked.1) (tells asked.1) said is
line_traces (Err kind) number s Rest tells said is = subst (λ (x : Said). Traces s x) (sym is) (refuse_traces (request.Line kind) number s)

-- .. and the lines after it, of which there may be no more
next_traces : (late : Bool) (text : List ℕ) (number : ℕ) (r : Reading) (s : Sitting) (Rest : Reading → Ahead) → ((left : Reading) → TellsRun (Rest left)) → (said : Said) →
    MatchBool late (said ≡ refuse request.TooMany number s) ((asks : Result (Request × Reading) WorldFaultKind) × RequestReads r text asks × LineSaid asks number s Rest said) → Traces s said
next_traces true text number r s Rest tells said refused = subst (λ (x : Said). Traces s x) (sym refused) (refuse_traces request.TooMany number s)
next_traces false text number r s Rest tells said (asks, reads, goes) = line_traces asks number s Rest tells said goes

lines_trace : (texts : List (List ℕ)) (broken : Option RequestFault) (number : ℕ) (r : Reading) → TellsRun (λ s said. LinesSaid texts broken number r s said)
lines_trace [] broken number r s said is = subst (λ (x : Said). Traces s x) (sym is) (end_traces broken number s)
lines_trace (text ∷ texts) broken number r s said is =
    next_traces (nat_lt last_line number) text number r s (λ left after rest. LinesSaid texts broken (number + 1) left after rest) (λ left. lines_trace texts broken (number + 1) left) said is

heard_traces : (heard : Heard) (r : Reading) → TellsRun (λ s said. HeardSaid heard r s said)
heard_traces heard r s said (rest, goes, is) = subst (λ (x : Said). Traces s x) (sym is) (lines_trace heard.texts heard.broken 1 r s rest goes)

serves_traces : (own : List Event) (heard : Heard) (r : Reading) → TellsRun (λ s said. Serves own heard r s said)
serves_traces [] heard r s said is = heard_traces heard r s said is
serves_traces (event ∷ own) heard r s said is =
    event_traces (record s { own = own }) event [] refl (λ after rest. Serves own heard r after rest) (serves_traces own heard r) said is

-- ---- The world's own events are no matter for a run

module _ (tree : Tree) (world : World) where
  abbrev pub alone : World
  alone = record world { events = [] }

  tick_same : (o : Option Runner) (runner at : ℕ) (s : RunState) → tick_step o tree alone runner at s ≡ tick_step o tree world runner at s
  tick_same (Some r) runner at s = refl
  tick_same None runner at s = refl

  reset_same : (o : Option Runner) (h : Header) (runner at : ℕ) (s : RunState) → reset_step o h tree alone runner at s ≡ reset_step o h tree world runner at s
  reset_same (Some r) h runner at s = refl
  reset_same None h runner at s = refl

  step_same : (what : What) (at : ℕ) (s : RunState) → step_by what tree alone at s ≡ step_by what tree world at s
  step_same (Tick runner) at s = tick_same (runner_at s runner) runner at s
  step_same (Halt runner) at s = reset_same (runner_at s runner) (header.Halt runner at) runner at s
  step_same (Change fact value) at s = refl
  step_same (Tell runner uid telling) at s = refl

  -- a step that is the same, before a rest that is
  then_same : (first other : Stepped) (rest goes : RunState → Trace) → first ≡ other → ((s : RunState) → rest s ≡ goes s) → before_rest first.fault first rest ≡ before_rest other.fault other goes
  then_same first other rest goes is same = before_same first.fault first rest goes (same first.state) ∙ ap (λ (d : Stepped). before_rest d.fault d goes) is

  finishes_same : (more runner : ℕ) (s : RunState) → run_finishes tree alone runner more s ≡ run_finishes tree world runner more s
  finishes_same zero runner s = refl
  finishes_same (suc more) runner s =
      then_same (finish tree alone runner s) (finish tree world runner s) (run_finishes tree alone (runner + 1) more) (run_finishes tree world (runner + 1) more)
      (reset_same (runner_at s runner) (header.Finish runner s.last) runner s.last s) (finishes_same more (runner + 1))

  pub run_same : (events : List Event) (s : RunState) → run_from tree alone events s ≡ run_from tree world events s
  run_same [] s = finishes_same world.runners 1 s
  run_same (e ∷ events) s =
      then_same (step tree alone e s) (step tree world e s) (run_from tree alone events) (run_from tree world events) (step_same e.what e.at s) (run_same events)

-- what is said of a tree and a world is the trace of the run of the events that were made, but for the other lines
pub is_trace : (tree : Tree) (world : World) (heard : Heard) (r : Reading) (said : Said) → Serves world.events heard r (opened tree world) said → IsTrace tree world said
is_trace tree world heard r said serves =
    serves_traces world.events heard r (opened tree world) said serves
    ∙ ap (λ (t : Trace). trace_of (opened tree world) t.blocks) (run_same tree world said.events (opening tree world))
