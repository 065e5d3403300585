-- An event whose block was shown is the first step of what is to come.
use Rattle.std.proofs.Common.{◌≡◌, ℕ, List, [], ◌∷◌, ◌++◌, Option, Some, None, Result, Ok, Err, OnOk, OnErr, true, false, refl, sym, ap, subst, ◌∙◌}
use Rattle.std.specs.List.{flat_map}
use Rattle.base_texts.specs.declared.stop.Stop.{Stop}
use Rattle.base_texts.specs.declared.stop.Stop.TheVariants as stop
use Rattle.spec_run.specs.declared.block.Block.{Block as Shown}
use Rattle.spec_run.specs.declared.fault.RunFault.{RunFault}
use Rattle.spec_tree.specs.declared.term.Tree.{Tree}
use Rattle.spec_world.specs.declared.world.Event.{Event}
use Rattle.spec_world.specs.declared.world.What.{What}
use Rattle.spec_world.specs.declared.world.World.{World}
use Rattle.spec_run.specs.Drivers.{DriverState, NothingHeld}
use Rattle.spec_run.specs.Run.{RunState, Stepped, Trace, before_rest, step, step_by, then_rest}
use Rattle.run_laws.proofs.Runs.{step_last as step_moment}
use Rattle.spec_outside.specs.Appending.{AppendedPrefix}
use Rattle.base_outside.proofs.Appends.{AppendedPrefix-longer, AppendedPrefix-nothing}
use Rattle.text_lines.specs.declared.stop.TextStop.{TextStop}
use Rattle.text_lines.specs.declared.stop.TextStop.TheVariants as text_stop
use Rattle.run_arena.specs.declared.block.Block.{Block}
use Rattle.run_arena.specs.declared.nodes.Node.{Node}
use Rattle.run_arena.specs.Blocks.{seen}
use Rattle.run_loop.specs.declared.runs.Runs.{Runs}
use Rattle.run_loop.specs.Runs.{AreRuns, roster_over}
use Rattle.spec_run.specs.Served.{Setup}
use Rattle.run_loop.specs.Steps.{EventEnds, EventLeft, EventSide, IsStep, event_side, kept_state}
use Rattle.text_trace.specs.declared.ended.Ended.{Ended}
use Rattle.text_trace.specs.declared.ended.Ended.TheVariants.{Done, Faulted}
use Rattle.text_trace.specs.Going.{Goes, Going, Makes, Shows, Stage, Stand, arenas_at, side_of, state_at}
use Rattle.text_trace.specs.Traces.{IsRun, Side, ended}
use Rattle.text_trace.specs.Watches.{StaysWatcher, WasShown, Watched}
use Rattle.text_trace.proofs.Cuts.{event_cut}
use Rattle.text_trace.proofs.Parts.{runs_of_stand}

-- ---- One step

module _ (arenas : List (List Node)) (old new : Side) (d : Stepped) (rest : RunState → Trace) where
  step_on : (s : RunState) → d.fault ≡ None → s ≡ d.state → new.drivers ≡ roster_over arenas d.calls old.drivers → WasShown old.watch new.watch (d.block ∷ []) → Going arenas old new (then_rest d rest) (rest s)
  step_on s none is drivers shown =
      let whole : then_rest d rest ≡ before_rest None d rest = ap (λ (o : Option RunFault). before_rest o d rest) none in
      record {
        told = d.block ∷ [];
        made = d.calls;
        blocks = ap (λ (x : RunState). d.block ∷ (rest x).blocks) is ∙ ap (λ (t : Trace). t.blocks) (sym whole);
        calls = ap (λ (x : RunState). d.calls ++ (rest x).calls) is ∙ ap (λ (t : Trace). t.calls) (sym whole);
        fault = ap (λ (x : RunState). (rest x).fault) is ∙ ap (λ (t : Trace). t.fault) (sym whole);
        shown = shown;
        drivers = drivers;
      }

  step_last : (fault : RunFault) → d.fault ≡ Some fault → new.drivers ≡ roster_over arenas d.calls old.drivers → WasShown old.watch new.watch (d.block ∷ []) → IsRun arenas old new Faulted (then_rest d rest)
  step_last fault some drivers shown =
      let whole : then_rest d rest ≡ before_rest (Some fault) d rest = ap (λ (o : Option RunFault). before_rest o d rest) some in
      record {
        ends = ap (λ (t : Trace). ended t.fault) (sym whole);
        shown = subst (λ (t : Trace). WasShown old.watch new.watch t.blocks) (sym whole) shown;
        drivers = drivers ∙ ap (λ (t : Trace). roster_over arenas t.calls old.drivers) (sym whole);
      }

-- the text of a step's block, whether or not a fault ends the run there
front_by : (text : Shown → List ℕ) (fault : Option RunFault) (d : Stepped) (rest : RunState → Trace) (a b : Option (List ℕ)) →
    AppendedPrefix a b (text d.block) → AppendedPrefix a b (flat_map text (before_rest fault d rest).blocks)
front_by text None d rest a b p = AppendedPrefix-longer a b (text d.block) (flat_map text (rest d.state).blocks) p
front_by text (Some fault) d rest a b p = AppendedPrefix-longer a b (text d.block) [] p

module _ (of : Setup) (old new : Stage) (block : Block) (d : Stepped) (same : arenas_at new ≡ arenas_at old) where
  abbrev Ends : Result (Unit {0}) (Stop RunFault) → Type 0
  Ends made = EventEnds made of.tree.term old.drivers new.drivers new.underway.runs block d

  abbrev Is : Type 0
  Is = IsStep of.tree.term old.drivers new.drivers new.underway.runs block d

  drivers_as : Is → new.drivers ≡ roster_over (arenas_at old) d.calls old.drivers
  drivers_as is = is.drivers ∙ ap (λ (x : List (List Node)). roster_over x d.calls old.drivers) same

  shown_as : Is → WasShown old.watch new.watch (seen block ∷ []) → WasShown old.watch new.watch (d.block ∷ [])
  shown_as is shown = subst (λ (x : Shown). WasShown old.watch new.watch (x ∷ [])) is.shown shown

  front_as : Is → (rest : RunState → Trace) → AppendedPrefix old.watch.written new.watch.written (old.watch.text (seen block)) → AppendedPrefix old.watch.written new.watch.written (flat_map old.watch.text (then_rest d rest).blocks)
  front_as is rest front = front_by old.watch.text d.fault d rest _ _ (subst (λ (x : Shown). AppendedPrefix old.watch.written new.watch.written (old.watch.text x)) is.shown front)

  -- an event and its block
  pub event_goes : (made : Result (Unit {0}) (Stop RunFault)) (result : Result Ended TextStop) → Ends made → Shows made result old.watch new.watch (seen block) → (rest : RunState → Trace) →
      Goes result (arenas_at old) (side_of old) (side_of new) (then_rest d rest) (rest (state_at of new))
  event_goes (Ok done) (Ok Done) ends shown rest = step_on (arenas_at old) (side_of old) (side_of new) d rest (state_at of new) ends.0 ends.1.state (drivers_as ends.1) (shown_as ends.1 shown)
  event_goes (Ok done) (Ok Faulted) ends shown rest = absurd shown
  event_goes (Ok done) (Err stopped) ends shown rest = record { front = front_as ends.1 rest shown; cut = event_cut (Ok done) of.tree.term (arenas_at old) old.drivers new.drivers new.underway.runs same block d ends rest }
  event_goes (Err (stop.Fault fault)) (Ok Faulted) ends shown rest = step_last (arenas_at old) (side_of old) (side_of new) d rest fault ends.0 (drivers_as ends.1) (shown_as ends.1 shown)
  event_goes (Err (stop.Fault fault)) (Ok Done) ends shown rest = absurd shown
  event_goes (Err (stop.Fault fault)) (Err stopped) ends shown rest =
      record { front = front_as ends.1 rest shown; cut = event_cut (Err (stop.Fault fault)) of.tree.term (arenas_at old) old.drivers new.drivers new.underway.runs same block d ends rest }
  event_goes (Err stop.NoMemory) (Ok Done) ends shown rest = absurd shown
  event_goes (Err stop.NoMemory) (Ok Faulted) ends shown rest = absurd shown
  event_goes (Err stop.NoMemory) (Err text_stop.NoMemory) ends shown rest = record {
    front = subst (λ (x : Watched). AppendedPrefix old.watch.written x.written (flat_map old.watch.text (then_rest d rest).blocks)) (sym shown) (AppendedPrefix-nothing old.watch.written _);
    cut = event_cut (Err stop.NoMemory) of.tree.term (arenas_at old) old.drivers new.drivers new.underway.runs same block d ends rest;
  }
  event_goes (Err stop.NoMemory) (Err text_stop.WriteFault) ends shown rest = absurd shown

-- ---- What an answer says of the event

pub made_whole : (made : Result (Unit {0}) (Stop RunFault)) (result : Result Ended TextStop) (a b : Watched) (block : Shown) → Shows made result a b block → result ≡ Ok Done → made ≡ Ok tt
made_whole (Ok done) result a b block shown is = refl
made_whole (Err (stop.Fault fault)) (Ok Done) a b block shown is = absurd shown
made_whole (Err (stop.Fault fault)) (Ok Faulted) a b block shown is = cc
made_whole (Err (stop.Fault fault)) (Err stopped) a b block shown is = cc
made_whole (Err stop.NoMemory) (Ok Done) a b block shown is = absurd shown
made_whole (Err stop.NoMemory) (Ok Faulted) a b block shown is = cc
made_whole (Err stop.NoMemory) (Err stopped) a b block shown is = cc

pub made_fault : (made : Result (Unit {0}) (Stop RunFault)) (result : Result Ended TextStop) (a b : Watched) (block : Shown) {P : Type 0} → Shows made result a b block → result ≡ Ok Faulted → OnErr made P → P
made_fault (Err e) result a b block shown is p = p
made_fault (Ok done) (Ok Done) a b block shown is p = cc
made_fault (Ok done) (Ok Faulted) a b block shown is p = absurd shown
made_fault (Ok done) (Err stopped) a b block shown is p = cc

-- runs after an event
pub stands : (of : Setup) (made : Result (Unit {0}) (Stop RunFault)) (drivers : List DriverState) (runs : Runs) → OnOk made (AreRuns of.tree of.world drivers runs) → OnErr made (NothingHeld drivers) → OnErr made (runs.usable ≡ false) → Stand of drivers runs
stands of (Ok done) drivers runs are none off = runs_of_stand of drivers runs are
stands of (Err e) drivers runs are none off = record { on = λ e. absurd (let w : true ≡ false = sym e ∙ off in cc); off = λ e. none }

usable_of : (of : Setup) (made : Result (Unit {0}) (Stop RunFault)) (drivers : List DriverState) (runs : Runs) → made ≡ Ok tt → OnOk made (AreRuns of.tree of.world drivers runs) → runs.usable ≡ true
usable_of of (Ok done) drivers runs is are = are.usable
usable_of of (Err e) drivers runs is are = cc

-- what an event finds of a run, and what it leaves
abbrev pub event_side_of : Stage → EventSide
event_side_of s = event_side s.drivers s.underway.runs s.underway.block

-- what an event leaves that was made and shown
pub event_makes : (of : Setup) (old new : Stage) (d : Stepped) (made : Result (Unit {0}) (Stop RunFault)) (result : Result Ended TextStop) →
    EventLeft of made (event_side_of old) (event_side_of new) d → Shows made result old.watch new.watch (seen new.underway.block) → StaysWatcher result old.watch new.watch → Makes of result old new (λ rest. then_rest d rest)
event_makes of old new d made result left shows watcher = record {
  goes = event_goes of old new new.underway.block d left.arenas made result left.step shows;
  stand = stands of made new.drivers new.underway.runs left.runs left.none left.usable;
  on = λ done. usable_of of made new.drivers new.underway.runs (made_whole made result old.watch new.watch (seen new.underway.block) shows done) left.runs;
  off = λ faulted. made_fault made result old.watch new.watch (seen new.underway.block) shows faulted left.usable;
  arenas = left.arenas;
  room = left.room;
  roster = left.roster;
  watcher = watcher;
}

-- ---- The moment of an event

-- after an event the last moment is its own
pub last_is : (made : Result (Unit {0}) (Stop RunFault)) (tree : Tree) (world : World) (before after : List DriverState) (runs : Runs) (block : Block) (what : What) (at : ℕ) (s : RunState) →
    made ≡ Ok tt → EventEnds made tree.term before after runs block (step_by what tree world at s) → runs.last ≡ at
last_is (Ok done) tree world before after runs block what at s is ends = ap (λ (x : RunState). x.last) ends.1.state ∙ step_moment what tree world at s
last_is (Err e) tree world before after runs block what at s is ends = cc

-- .. which was made
pub event_last : (of : Setup) (event : Event) (old new : EventSide) (made : Result (Unit {0}) (Stop RunFault)) → made ≡ Ok tt → EventLeft of made old new (step of.tree of.world event (kept_state of old)) → new.runs.last ≡ event.at
event_last of event old new made is left = last_is made of.tree of.world old.drivers new.drivers new.runs new.block event.what event.at (kept_state of old) is left.step
