-- The events that are made in a session are in order, and each that is of a runner names one; so no leaf is left held.
use Rattle.std.proofs.Common.{◌≡◌, ℕ, ◌+◌, ◌≤◌, nat_le, nat_lt, List, [], ◌∷◌, Bool, true, false, ◌&&◌, MatchBool, Option, Some, None, Result, Ok, Err, refl, sym, subst, arith}
use Rattle.std.specs.List.{All, AllByRecursion}
use Rattle.std.specs.List.Sorted.{IsNonDecreasingBy}
use Rattle.std.specs.Option.{option_or}
use Rattle.std.proofs.lemmas.Bool.{and_parts, leb-true}
use Rattle.std.proofs.lemmas.List.Elements.{recursion_from_All}
use Rattle.host_session.proofs.Misuses.{moment_fits, neither, runner_fits}
use Rattle.run_laws.proofs.Runs.{InOrderFrom, order_after, step_last}
use Rattle.spec_program.specs.declared.exit.Exit.{Exit}
use Rattle.spec_program.specs.declared.exit.Exit.TheVariants as exit
use Rattle.spec_run.specs.declared.fault.RunFault.{RunFault}
use Rattle.spec_run.specs.Joins.{event_lacks}
use Rattle.spec_run.specs.Run.{Stepped}
use Rattle.spec_serve.specs.declared.request_fault.RequestFault.{RequestFault}
use Rattle.spec_serve.specs.declared.request_fault.RequestFault.TheVariants as request
use Rattle.spec_serve.specs.declared.request.Request.{Request}
use Rattle.spec_serve.specs.declared.request.Request.TheVariants.{At, Finish, Make}
use Rattle.spec_serve.specs.Requests.{RequestReads}
use Rattle.spec_serve.specs.Talks.{Ahead, AskedSaid, EventSaid, Heard, HeardSaid, LineSaid, LinesSaid, Said, Serves, StepSaid, TakenSaid, at_end, block_lines, finish_all, last_line, ok_line, refuse}
use Rattle.spec_serve.specs.Traces.{NoneIsHeld}
use Rattle.spec_session.specs.declared.ended.Misuse.{Misuse}
use Rattle.spec_session.specs.declared.ended.Misuse.TheVariants as misuses
use Rattle.spec_session.specs.Events.{after_step, event_step, lack_misuse, misuse, moment_misuse, runner_misuse, telling_misuse, unless, what_misuse}
use Rattle.spec_session.specs.Opening.{opened}
use Rattle.spec_session.specs.Sessions.{Sitting}
use Rattle.spec_tree.specs.declared.term.Tree.{Tree}
use Rattle.spec_tree.specs.Limits.{last_moment}
use Rattle.spec_tree.specs.Trees.{nodes_of}
use Rattle.spec_world.specs.declared.world.Event.{Event}
use Rattle.spec_world.specs.declared.world.Fact.{Fact}
use Rattle.spec_world.specs.declared.world.What.{What}
use Rattle.spec_world.specs.declared.world.What.TheVariants.{Tick, Halt, Change, Tell}
use Rattle.spec_world.specs.declared.world.World.{World}
use Rattle.spec_world.specs.Worlds.{IsValidEvent, IsValidWhat}
use Rattle.spec_world_file.specs.declared.world_fault.WorldFaultKind.{WorldFaultKind}
use Rattle.spec_world_file.specs.WorldFile.{Reading}
use Rattle.tree_exclusive.specs.Runs.{NamesRunner}
use Rattle.cli_serve.proofs.Laws.HeldEvents.{AreTaken}
use Rattle.cli_serve.proofs.Laws.HeldRuns.{run_leaves_none}
use Rattle.cli_serve.proofs.Laws.TraceRuns.{finishes_events}

-- ---- An event that a session takes

names_runner : (tree : Tree) (world : World) (what : What) → what_misuse tree world what ≡ None → NamesRunner what
names_runner tree world (Tick runner) none = (runner_fits world runner none).0
names_runner tree world (Halt runner) none = (runner_fits world runner none).0
names_runner tree world (Change fact value) none = tt
names_runner tree world (Tell runner uid telling) none =
    (runner_fits world runner (neither (runner_misuse world runner)
    (option_or (lack_misuse (event_lacks world.rows (nodes_of tree.term) (Tell runner uid telling))) (telling_misuse telling)) none).0).0

-- an event that is taken is not before the last one, and names a runner where it is of one
is_taken : (s : Sitting) (e : Event) → misuse s e ≡ None → (s.state.last ≤ e.at) × NamesRunner e.what
is_taken s e none =
    let rest : option_or (moment_misuse s.state.last e.at) (what_misuse s.tree s.world e.what) ≡ None =
    (neither (unless s.usable misuses.Over) (option_or (moment_misuse s.state.last e.at) (what_misuse s.tree s.world e.what)) none).1 in
    let each : (moment_misuse s.state.last e.at ≡ None) × (what_misuse s.tree s.world e.what ≡ None) = neither (moment_misuse s.state.last e.at) (what_misuse s.tree s.world e.what) rest in
    (moment_fits s.state.last e.at each.0, names_runner s.tree s.world e.what each.1)

-- ---- What is said

-- the events that are made from a session on
abbrev pub Takes : Sitting → Said → Type 0
Takes s said = AreTaken s.state.last said.events

abbrev TakesAhead : Ahead → Type 0
TakesAhead Rest = (s : Sitting) (said : Said) → Rest s said → Takes s said

finish_takes : (exit : Exit) (s : Sitting) → Takes s (finish_all exit s)
finish_takes exit s = subst (λ (events : List Event). AreTaken s.state.last events) (sym (finishes_events s.world.runners 1 exit s)) tt

end_takes : (broken : Option RequestFault) (number : ℕ) (s : Sitting) → Takes s (at_end broken number s)
end_takes None number s = finish_takes exit.Done s
end_takes (Some fault) number s = finish_takes exit.Request s

module _ (s : Sitting) (event : Event) (lines : List (List ℕ)) (taken : (s.state.last ≤ event.at) × NamesRunner event.what) (Rest : Ahead) (takes : (rest : Said) → Rest (after_step s (event_step s event) true) rest → Takes (after_step s (event_step s event) true) rest) where
  abbrev d : Stepped
  d = event_step s event

  step_takes : (fault : Option RunFault) (said : Said) → StepSaid fault event (block_lines s d) lines (Rest (after_step s d true)) said → Takes s said
  step_takes (Some f) said is = subst (λ (x : Said). Takes s x) (sym is) (taken.0, taken.1, tt)
  step_takes None said (rest, goes, is) =
      subst (λ (x : Said). Takes s x) (sym is)
      (taken.0, taken.1, subst (λ (last : ℕ). AreTaken last rest.events) (step_last event.what s.tree s.world event.at s.state) (takes rest goes))

  event_takes : (said : Said) → EventSaid s event lines Rest said → Takes s said
  event_takes said is = step_takes d.fault said is

taken_takes : (wrong : Option Misuse) (number : ℕ) (s : Sitting) (event : Event) → misuse s event ≡ wrong → (Rest : Ahead) → TakesAhead Rest → (said : Said) → TakenSaid wrong number s event Rest said → Takes s said
taken_takes (Some fault) number s event of Rest takes said is = subst (λ (x : Said). Takes s x) (sym is) (finish_takes exit.Request s)
taken_takes None number s event of Rest takes said is = event_takes s event (ok_line ∷ []) (is_taken s event of) Rest (takes (after_step s (event_step s event) true)) said is

asked_takes : (request : Request) (number : ℕ) (s : Sitting) (Rest : Ahead) → TakesAhead Rest → (said : Said) → AskedSaid request number s Rest said → Takes s said
asked_takes Finish number s Rest takes said is = subst (λ (x : Said). Takes s x) (sym is) (finish_takes exit.Done s)
asked_takes At number s Rest takes said (rest, goes, is) = subst (λ (x : Said). Takes s x) (sym is) (takes s rest goes)
asked_takes (Make event) number s Rest takes said is = taken_takes (misuse s event) number s event refl Rest takes said is

line_takes : (asks : Result (Request × Reading) WorldFaultKind) (number : ℕ) (s : Sitting) (Rest : Reading → Ahead) → ((r : Reading) → TakesAhead (Rest r)) → (said : Said) → LineSaid asks number s Rest said → Takes s said
line_takes (Ok asked) number s Rest takes said is = asked_takes asked.0 number s (Rest asked.1) (takes asked.1) said is
line_takes (Err kind) number s Rest takes said is = subst (λ (x : Said). Takes s x) (sym is) (finish_takes exit.Request s)

next_takes : (late : Bool) (text : List ℕ) (number : ℕ) (r : Reading) (s : Sitting) (Rest : Reading → Ahead) → ((left : Reading) → TakesAhead (Rest left)) → (said : Said) →
    MatchBool late (said ≡ refuse request.TooMany number s) ((asks : Result (Request × Reading) WorldFaultKind) × RequestReads r text asks × LineSaid asks number s Rest said) → Takes s said
next_takes true text number r s Rest takes said refused = subst (λ (x : Said). Takes s x) (sym refused) (finish_takes exit.Request s)
next_takes false text number r s Rest takes said (asks, reads, goes) = line_takes asks number s Rest takes said goes

lines_take : (texts : List (List ℕ)) (broken : Option RequestFault) (number : ℕ) (r : Reading) → TakesAhead (λ s said. LinesSaid texts broken number r s said)
lines_take [] broken number r s said is = subst (λ (x : Said). Takes s x) (sym is) (end_takes broken number s)
lines_take (text ∷ texts) broken number r s said is =
    next_takes (nat_lt last_line number) text number r s (λ left after rest. LinesSaid texts broken (number + 1) left after rest) (λ left. lines_take texts broken (number + 1) left) said is

heard_takes : (heard : Heard) (r : Reading) → TakesAhead (λ s said. HeardSaid heard r s said)
heard_takes heard r s said (rest, goes, is) = subst (λ (x : Said). Takes s x) (sym is) (lines_take heard.texts heard.broken 1 r s rest goes)

-- the world's own events come first
own_takes : (own : List Event) (heard : Heard) (r : Reading) (s : Sitting) → AreTaken s.state.last own → (said : Said) → Serves own heard r s said → Takes s said
own_takes [] heard r s taken said is = heard_takes heard r s said is
own_takes (event ∷ own) heard r s taken said is =
    let here : Sitting = record s { own = own } in
    let d : Stepped = event_step here event in
    event_takes here event [] (taken.0, taken.1) (λ after rest. Serves own heard r after rest)
    (own_takes own heard r (after_step here d true) (subst (λ (last : ℕ). AreTaken last own) (sym (step_last event.what s.tree s.world event.at s.state)) taken.2))
    said is

-- ---- Valid events

-- valid events in order are such as a session takes
pub events_taken : (facts : List Fact) (runners last : ℕ) (events : List Event) → InOrderFrom last events → AllByRecursion (IsValidEvent facts runners) events → AreTaken last events
events_taken facts runners last [] order valid = tt
events_taken facts runners last (e ∷ events) order valid =
    (order.following 0 e (omega arith), names e.what valid.0.1, events_taken facts runners e.at events (order_after last e events order) valid.1)
  where
    names : (what : What) → IsValidWhat facts runners what → NamesRunner what
    names (Tick runner) is = is.0
    names (Halt runner) is = is.0
    names (Change fact value) is = tt
    names (Tell runner uid telling) is = is.0

-- no leaf is left held by what is said of a tree in a world whose own events are valid and in order
pub none_is_held : (tree : Tree) (world : World) → All (IsValidEvent world.facts world.runners) world.events → IsNonDecreasingBy (λ (e : Event). e.at) world.events →
    (heard : Heard) (r : Reading) (said : Said) → Serves world.events heard r (opened tree world) said → NoneIsHeld tree world said
none_is_held tree world valid order heard r said serves =
    run_leaves_none tree world said.events (own_takes world.events heard r (opened tree world)
    (events_taken world.facts world.runners 0 world.events (record { in_order = order; following = λ k d within. omega arith }) (recursion_from_All (IsValidEvent world.facts world.runners) world.events valid))
    said serves)
