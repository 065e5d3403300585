-- What a run gives that was joined.
use Rattle.std.proofs.Common.{◌≡◌, ◌≤◌, ◌++◌, ℕ, List, [], ◌∷◌, inl, Option, Some, None, refl, sym, ap, subst, ◌∙◌, append-nil, Result, Ok, Err}
use Rattle.std.specs.Prelude.{IfOk, IfSome, IsErrOf, OnErr, OnOk, length, option_map}
use Rattle.std.specs.List.{flat_map}
use Rattle.std.specs.Option.{option_or}
use Rattle.spec_run.specs.declared.join_fault.JoinFault.{JoinFault}
use Rattle.run_arena.specs.Joining.{Joins}
use Rattle.spec_program.specs.declared.exit.Exit.{Exit}
use Rattle.spec_program.specs.declared.exit.Exit.TheVariants as exit
use Rattle.text_trace.specs.Load.Loads.{IsLoad}
use Rattle.spec_output.specs.Summaries.{load_line}
use Rattle.run_loop.specs.declared.runs.Runs.{Runs}
use Rattle.spec_run.specs.Served.{Setup}
use Rattle.run_loop.specs.Begun.{AreBegun as IsBegun}
use Rattle.run_loop.specs.Runs.{arenas_of, roster_over}
use Rattle.spec_run.specs.Served.{calls_made, roster_after_run, serving_places}
use Rattle.spec_run.specs.Rosters.{IsSameRoster}
use Rattle.run_loop.proofs.Rising.{roster_both, same_roster}
use Rattle.spec_run.specs.declared.block.Block.{Block}
use Rattle.spec_run.specs.declared.fault.RunFault.{RunFault}
use Rattle.spec_tree.specs.declared.term.Tree.{Tree}
use Rattle.spec_world.specs.declared.world.Event.{Event}
use Rattle.spec_world.specs.declared.world.World.{World}
use Rattle.spec_run.specs.Drivers.{DriverState, NothingHeld}
use Rattle.spec_output.specs.Lines.{line_names}
use Rattle.spec_run.specs.Run.{RunState, RunnerCall, Trace, opening, run_from, run_over}
use Rattle.base_outside.proofs.Appends.{AppendedPrefix-nothing}
use Rattle.spec_outside.specs.Appending.{Appended, AppendedPrefix}
use Rattle.spec_outside.specs.Counts.{Rose}
use Rattle.spec_outside.specs.Moments.{Moments}
use Rattle.spec_program.specs.declared.course.Course.{Course}
use Rattle.spec_program.specs.declared.course.Course.TheVariants as course
use Rattle.cli_refusals.specs.declared.refusal.Refusal.TheVariants as refusal
use Rattle.spec_program.specs.Answers.{AtMoments, ClockLeft, ClockWithin, Gave, IfTold, Side, side}
use Rattle.cli_answers.specs.Courses.Courses.{exit_of}
use Rattle.cli_refusals.specs.Ends.{Ends, EndsAt, IsUntouched}
use Rattle.spec_program.specs.Output.{AreUncalled, UpToFault}
use Rattle.spec_program.specs.Courses.{Given, asked_by, given, joined_output, run_exit, run_output, traced}
use Rattle.spec_run.specs.Joins.{first_missing, first_untold, lack_of}
use Rattle.spec_tree.specs.Terms.{leaf_ids}
use Rattle.spec_tree.specs.Trees.{nodes_of}
use Rattle.cli_answers.specs.Courses.Joined.{JoinGives}
use Rattle.cli_refusals.specs.Refusing.{stopped_as}
use Rattle.cli_refusals.proofs.AboutLent.Moments.{at_any}
use Rattle.base_texts.specs.declared.stop.Stop.{Stop}
use Rattle.base_texts.specs.declared.stop.Stop.TheVariants as stop
use Rattle.text_lines.specs.declared.stop.TextStop.{TextStop}
use Rattle.text_lines.specs.declared.stop.TextStop.TheVariants as text_stop
use Rattle.text_trace.specs.declared.ended.Ended.{Ended}
use Rattle.text_trace.specs.declared.ended.Ended.TheVariants.{Done, Faulted}
use Rattle.spec_output.specs.Cuts.{IsCutOff}
use Rattle.text_trace.specs.Halted.{IsCut}
use Rattle.spec_output.specs.Rounds.{AreBegun, CanBegin, live_events, moments_after, taken}
use Rattle.text_trace.specs.RoundMoments.{AreMoments, WasAsked}
use Rattle.spec_output.specs.Texts.{block_text, text_of}
use Rattle.text_trace.specs.Traces.{AreKept, CanAllCome, CanRun, Leaves, ended, side as stage, state_in, trace_of}
use Rattle.text_trace.specs.Watches.{Watched}
use Rattle.text_trace.proofs.Worlds.{events_of_world, neither}

-- ---- Drivers

-- nothing was done
pub kept_still : (ds : List DriverState) → NothingHeld ds → AreKept ds ds
kept_still ds none = record { same = same_roster ds; none = none }

pub kept_both : (a b c : List DriverState) → IsSameRoster a b → AreKept b c → AreKept a c
kept_both a b c ab bc = record { same = roster_both a b c ab bc.same; none = bc.none }

-- ---- Events

-- before its first event the events of a world can come in order
pub all_come : (of : Setup) (drivers : List DriverState) (runs : Runs) (events : List Event) → CanRun of drivers runs → state_in of drivers runs ≡ opening of.tree of.world → events ≡ of.world.events
    → first_untold of.world.rows (nodes_of of.tree.term) of.world.events ≡ None → CanAllCome of runs.last events
all_come of drivers runs events can opened listed told =
    subst (λ (es : List Event). CanAllCome of runs.last es) (sym listed)
    (subst (λ (n : ℕ). CanAllCome of n of.world.events) (sym (ap (λ (s : RunState). s.last) opened)) (events_of_world of can.is_valid_world told))

-- where a run lacks nothing, no event of the script does
pub all_told : (of : Setup) (drivers : List DriverState) → lack_of of.tree of.world drivers ≡ None → first_untold of.world.rows (nodes_of of.tree.term) of.world.events ≡ None
all_told of drivers none = (neither (first_missing of.world.rows drivers (leaf_ids of.tree.term)) (first_untold of.world.rows (nodes_of of.tree.term) of.world.events) none).1

-- what is missing for the events, where nothing is for the leaves
pub untold_lacks : (of : Setup) (drivers : List DriverState) (untold : Option JoinFault) → first_missing of.world.rows drivers (leaf_ids of.tree.term) ≡ None
    → untold ≡ first_untold of.world.rows (nodes_of of.tree.term) of.world.events → lack_of of.tree of.world drivers ≡ untold
untold_lacks of drivers untold none is = ap (λ (o : Option JoinFault). option_or o (first_untold of.world.rows (nodes_of of.tree.term) of.world.events)) none ∙ sym is

-- what is missing for the leaves is missing for the run
pub leaves_lack : (of : Setup) (drivers : List DriverState) (stopped : Stop JoinFault) → Joins {A = Runs} (Err stopped) (first_missing of.world.rows drivers (leaf_ids of.tree.term)) → Joins {A = Runs} (Err stopped) (lack_of of.tree of.world drivers)
leaves_lack of drivers stop.NoMemory lacks = tt
leaves_lack of drivers (stop.Fault fault) lacks = ap (λ (o : Option JoinFault). option_or o (first_untold of.world.rows (nodes_of of.tree.term) of.world.events)) lacks

-- ---- Ends

-- the exit of a run is that of its trace's fault
ended_exit : (fault : Option RunFault) (ending : Ended) → ending ≡ ended fault → run_exit fault ≡ exit_of (Ok ending)
ended_exit None ending e = ap (λ (x : Ended). exit_of (Ok x)) (sym e)
ended_exit (Some fault) ending e = ap (λ (x : Ended). exit_of (Ok x)) (sym e)

-- a run has left this of the sink, the clock and the drivers
module _ (of : Setup) (g : Given) (trace : Trace) (after : List DriverState) (a b : Option (List ℕ)) (fell rose : ℕ) (clock asked : Option Moments) where
  -- how a run has ended says how often the clock was asked
  abbrev pub Asking : Ended → Type 0
  Asking ending = (fault : Option RunFault) → ending ≡ ended fault → ClockLeft (g.asked of.tree of.world fault) clock asked

  abbrev pub GivenBy : Exit → Type 0
  GivenBy result = Gave (traced of.tree of.world g trace) result (side a fell clock g.drivers) (side b rose asked after)

  -- .. with an end, its bytes, its drivers and its moments
  pub ending_gave : (ending : Ended) → ending ≡ ended trace.fault → Appended a b (g.bytes of.tree of.world trace) → after ≡ roster_after_run of.tree of.world g.drivers trace.calls → Asking ending → GivenBy (exit_of (Ok ending))
  ending_gave Done ends written drivers asking = (ended_exit trace.fault Done ends, written, drivers, asking trace.fault ends)
  ending_gave Faulted ends written drivers asking = (ended_exit trace.fault Faulted ends, written, drivers, asking trace.fault ends)

  -- where it was stopped
  abbrev pub AskingWithin : Type 0
  AskingWithin = (fault : Option RunFault) → ClockWithin (g.asked of.tree of.world fault) clock asked

  -- .. or was stopped after some of its bytes, and of its calls
  pub stopped_gave : (stopped : TextStop) → AppendedPrefix a b (g.bytes of.tree of.world trace) → (stopped ≡ text_stop.WriteFault → Rose fell rose) → IsCutOff of.tree of.world trace.calls g.drivers after → AskingWithin
      → GivenBy (exit_of (Err stopped))
  stopped_gave text_stop.WriteFault front failed cut asking = (failed refl, record { written = front; drivers = cut; clock = asking trace.fault })
  stopped_gave text_stop.NoMemory front failed cut asking = record { written = front; drivers = inl cut; clock = asking trace.fault }

-- ---- Drivers that were prepared

-- runs over drivers that were prepared for them
module _ (of : Setup) (runs : Runs) (before made : List DriverState) (begun : IsBegun of.tree of.world before made runs) where
  -- calls for leaves of these runs are those of the tree and the world
  pub calls_are : (calls : List RunnerCall) → roster_over (arenas_of runs) calls made ≡ roster_after_run of.tree of.world before calls
  calls_are calls =
      begun.calls calls made
      ∙ ap (λ (ds : List DriverState). calls_made of.world.runners (serving_places of.tree of.world before) calls ds) begun.prepared

  pub cut_off : (after : List DriverState) (trace : Trace) → IsCut (arenas_of runs) made after trace → IsCutOff of.tree of.world trace.calls before after
  cut_off after trace cut = record {
    made = cut.made;
    unmade = cut.unmade;
    halts = cut.halts;
    all = cut.all;
    are = cut.are;
    drivers = cut.drivers ∙ calls_are (cut.made ++ cut.halts);
  }

  -- all of the calls were made
  pub all_made : (after : List DriverState) (trace : Trace) → after ≡ roster_over (arenas_of runs) trace.calls made → IsCutOff of.tree of.world trace.calls before after
  all_made after trace drivers = record {
    made = trace.calls;
    unmade = [];
    halts = [];
    all = append-nil trace.calls;
    are = tt;
    drivers = drivers ∙ calls_are trace.calls ∙ ap (λ (calls : List RunnerCall). roster_after_run of.tree of.world before calls) (sym (append-nil trace.calls));
  }

-- ---- Moments

-- moments as a clock's
moments_are : (ms : List ℕ) (last : ℕ) → taken (length ms) (record { ahead = ms; last = last }) ≡ ms
moments_are [] last = refl
moments_are (m ∷ ms) last = ap (λ (rest : List ℕ). m ∷ rest) (moments_are ms m)

-- the moments of a clock, of which these were taken
record Gives (rounds : ℕ) (clock : Option Moments) (ms : List ℕ) : Type 0 where
  pub moments : Moments
  pub is : ms ≡ taken rounds moments
  pub told : IfTold clock (λ told. moments ≡ told)

gives : (rounds : ℕ) (clock : Option Moments) (ms : List ℕ) → AreMoments rounds clock ms → Gives rounds clock ms
gives rounds None ms are = record {
  moments = record { ahead = ms; last = 0 };
  is = subst (λ (n : ℕ). ms ≡ taken n (record { ahead = ms; last = 0 })) are.many (sym (moments_are ms 0));
  told = tt;
}
gives rounds (Some told) ms are = record { moments = told; is = are.given; told = refl }

-- ---- Courses

never_asked : (clock : Option Moments) (ending : Ended) (fault : Option RunFault) → ending ≡ ended fault → clock ≡ clock
never_asked clock ending fault e = refl

never_within : (clock : Option Moments) (fault : Option RunFault) → clock ≡ clock
never_within clock fault = refl

-- runs before their first event
module _ (of : Setup) (runs : Runs) (made after : List DriverState) (opened : state_in of made runs ≡ opening of.tree of.world) (before : List DriverState) (begun : IsBegun of.tree of.world before made runs) where
  -- a trace of these events is that of the definition
  trace_is : (events listed : List Event) → events ≡ listed → trace_of of made runs events ≡ run_over of.tree of.world listed
  trace_is events listed e = ap (λ (es : List Event). trace_of of made runs es) e ∙ ap (λ (s : RunState). run_from of.tree of.world listed s) opened

  -- a fact of the trace of these events is one of the output on a course
  on_course : (course : Course) (moments : Moments) (events : List Event) (result : Exit) (a b : Option (List ℕ)) (fell rose : ℕ) (clock asked : Option Moments) → events ≡ (given course moments before).events of.world
      → GivenBy of (given course moments before) (trace_of of made runs events) after a b fell rose clock asked result
      → Gave (run_output of.tree of.world (given course moments before)) result (side a fell clock before) (side b rose asked after)
  on_course course moments events result a b fell rose clock asked e gave =
      subst (λ (t : Trace). Gave (traced of.tree of.world (given course moments before) t) result (side a fell clock before) (side b rose asked after))
      (trace_is events ((given course moments before).events of.world) e) gave

  -- the events of the script were run, and their blocks were written
  module _ (old new : Watched) (named : old.text ≡ block_text (line_names of.tree of.world)) where
    abbrev Written : Trace → Type 0
    Written t = Appended old.written new.written (text_of (line_names of.tree of.world) t.blocks)

    lines_are : (blocks : List Block) → flat_map old.text blocks ≡ text_of (line_names of.tree of.world) blocks
    lines_are blocks = ap (λ (text : Block → List ℕ). flat_map text blocks) named

    -- whatever is answered, on a course that writes the lines of its blocks
    wrote : (course : Course) (moments : Moments) (t : Trace) (clock asked : Option Moments) → (given course moments before).bytes of.tree of.world t ≡ text_of (line_names of.tree of.world) t.blocks → (result : Result Ended TextStop)
        → Leaves result (arenas_of runs) (stage made old) (stage after new) t → (IsErrOf result text_stop.WriteFault → Rose old.faults new.faults)
        → IfOk result (Asking of (given course moments before) t after old.written new.written old.faults new.faults clock asked)
        → OnErr result (AskingWithin of (given course moments before) t after old.written new.written old.faults new.faults clock asked)
        → GivenBy of (given course moments before) t after old.written new.written old.faults new.faults clock asked (exit_of result)
    wrote course moments t clock asked bytes (Ok ending) leaves failed asking within =
        ending_gave of (given course moments before) t after old.written new.written old.faults new.faults clock asked ending leaves.whole.ends
        (subst (Appended old.written new.written) (lines_are t.blocks ∙ sym bytes) leaves.whole.shown.written) (leaves.whole.drivers ∙ calls_are of runs before made begun t.calls) asking
    wrote course moments t clock asked bytes (Err stopped) leaves failed asking within =
        stopped_gave of (given course moments before) t after old.written new.written old.faults new.faults clock asked stopped
        (subst (AppendedPrefix old.written new.written) (lines_are t.blocks ∙ sym bytes) leaves.front) (λ e. failed (ap Err e)) (cut_off of runs before made begun after t leaves.cut) within

    never : (ran : Result Ended TextStop) (clock : Option Moments) → IfOk ran (λ ending. (fault : Option RunFault) → ending ≡ ended fault → clock ≡ clock)
    never (Ok ending) clock = never_asked clock ending
    never (Err stopped) clock = tt

    within_never : (ran : Result Ended TextStop) (clock : Option Moments) → OnErr ran ((fault : Option RunFault) → clock ≡ clock)
    within_never (Ok ending) clock = tt
    within_never (Err stopped) clock = never_within clock

    pub script_gave : (events : List Event) → events ≡ of.world.events → (clock : Option Moments) (result : Result Ended TextStop)
        → Leaves result (arenas_of runs) (stage made old) (stage after new) (trace_of of made runs events) → (IsErrOf result text_stop.WriteFault → Rose old.faults new.faults)
        → AtMoments clock (λ moments. Gave (run_output of.tree of.world (given course.Script moments before)) (exit_of result) (side old.written old.faults clock before) (side new.written new.faults clock after))
    script_gave events listed clock result leaves failed =
        at_any clock (λ moments. Gave (run_output of.tree of.world (given course.Script moments before)) (exit_of result) (side old.written old.faults clock before) (side new.written new.faults clock after))
        (λ moments. on_course course.Script moments events (exit_of result) old.written new.written old.faults new.faults clock clock listed
        (wrote course.Script moments (trace_of of made runs events) clock clock refl result leaves failed (never result clock) (within_never result clock)))

    -- rounds were run by a clock
    module _ (rounds : ℕ) (clock asked : Option Moments) where
      -- a fact of rounds from the state that runs keep is one of rounds from the opening
      at_opening : (P : ℕ → List ℕ → RunState → ℕ → Type 0) (moments m : Moments) → moments ≡ m → (begun : ℕ) → P runs.last (taken rounds m) (state_in of made runs) begun → P 0 (taken rounds moments) (opening of.tree of.world) begun
      at_opening P moments m same begun p =
          subst (λ (z : RunState). P 0 (taken rounds moments) z begun) opened
          (subst (λ (n : ℕ). P n (taken rounds moments) (state_in of made runs) begun) (ap (λ (s : RunState). s.last) opened)
          (subst (λ (k : Moments). P runs.last (taken rounds k) (state_in of made runs) begun) (sym same) p))

      faulted_asks : (c : Option Moments) (moments : Moments) → IfTold c (λ m. moments ≡ m) → (begun : ℕ) → asked ≡ option_map (moments_after begun) c
          → IfSome c (λ m. AreBegun of.tree of.world runs.last (taken rounds m) (state_in of made runs) begun) → ClockLeft (UpToFault of.tree of.world (taken rounds moments)) c asked
      faulted_asks None moments same begun is are = tt
      faulted_asks (Some m) moments same begun is are = (begun, at_opening (AreBegun of.tree of.world) moments m same begun are, is)

      asks_until : (c : Option Moments) (moments : Moments) → IfTold c (λ m. moments ≡ m) → (begun : ℕ) → asked ≡ option_map (moments_after begun) c
          → IfSome c (λ m. CanBegin of.tree of.world runs.last (taken rounds m) (state_in of made runs) begun) → ClockWithin (UpToFault of.tree of.world (taken rounds moments)) c asked
      asks_until None moments same begun is can = tt
      asks_until (Some m) moments same begun is can = (begun, at_opening (CanBegin of.tree of.world) moments m same begun can, is)

      done_asks : (moments : Moments) (fault : Option RunFault) → Done ≡ ended fault → asked ≡ option_map (moments_after rounds) clock → ClockLeft (asked_by (course.Rounds rounds) moments of.tree of.world fault) clock asked
      done_asks moments None e all = all
      done_asks moments (Some f) e all = let x : Done ≡ Faulted = e in cc

      fault_asks : (moments : Moments) (fault : Option RunFault) → Faulted ≡ ended fault → ClockLeft (UpToFault of.tree of.world (taken rounds moments)) clock asked → ClockLeft (asked_by (course.Rounds rounds) moments of.tree of.world fault) clock asked
      fault_asks moments None e left = let x : Faulted ≡ Done = e in cc
      fault_asks moments (Some f) e left = left

      begun_of : (c : Option Moments) (ending : Ended) (begun : ℕ) → (let r : Result Ended TextStop = Ok ending in IfSome c (λ m. OnOk r (AreBegun of.tree of.world runs.last (taken rounds m) (state_in of made runs) begun)))
          → IfSome c (λ m. AreBegun of.tree of.world runs.last (taken rounds m) (state_in of made runs) begun)
      begun_of None ending begun x = tt
      begun_of (Some m) ending begun x = x

      asks : (result : Result Ended TextStop) (moments : Moments) → IfTold clock (λ m. moments ≡ m) → WasAsked result of.tree of.world rounds runs.last (state_in of made runs) clock asked
          → IfOk result (λ ending. (fault : Option RunFault) → ending ≡ ended fault → ClockLeft (asked_by (course.Rounds rounds) moments of.tree of.world fault) clock asked)
      asks (Ok Done) moments same was = λ fault e. done_asks moments fault e (subst (λ (n : ℕ). asked ≡ option_map (moments_after n) clock) (was.all refl) was.asked)
      asks (Ok Faulted) moments same was = λ fault e. fault_asks moments fault e (faulted_asks clock moments same was.begun was.asked (begun_of clock Faulted was.begun was.begin))
      asks (Err stopped) moments same was = tt

      at_most : (moments : Moments) → IfTold clock (λ m. moments ≡ m) → (fault : Option RunFault) (begun : ℕ) → begun ≤ rounds → asked ≡ option_map (moments_after begun) clock
          → IfSome clock (λ m. CanBegin of.tree of.world runs.last (taken rounds m) (state_in of made runs) begun) → ClockWithin (asked_by (course.Rounds rounds) moments of.tree of.world fault) clock asked
      at_most moments same None begun few is can = (begun, few, is)
      at_most moments same (Some f) begun few is can = asks_until clock moments same begun is can

      -- .. no more often than in the run, where it was stopped
      asks_within : (result : Result Ended TextStop) (moments : Moments) → IfTold clock (λ m. moments ≡ m) → WasAsked result of.tree of.world rounds runs.last (state_in of made runs) clock asked
          → OnErr result ((fault : Option RunFault) → ClockWithin (asked_by (course.Rounds rounds) moments of.tree of.world fault) clock asked)
      asks_within (Ok ending) moments same was = tt
      asks_within (Err stopped) moments same was = λ fault. at_most moments same fault was.begun was.within was.asked was.can

      listed : (ms : List ℕ) (moments : Moments) → ms ≡ taken rounds moments → live_events of.world runs.last ms ≡ live_events of.world 0 (taken rounds moments)
      listed ms moments e = ap (λ (n : ℕ). live_events of.world n ms) (ap (λ (s : RunState). s.last) opened) ∙ ap (λ (l : List ℕ). live_events of.world 0 l) e

      pub rounds_gave : (result : Result Ended TextStop) → (ms : List ℕ) × AreMoments rounds clock ms × Leaves result (arenas_of runs) (stage made old) (stage after new) (trace_of of made runs (live_events of.world runs.last ms))
          → (IsErrOf result text_stop.WriteFault → Rose old.faults new.faults) → WasAsked result of.tree of.world rounds runs.last (state_in of made runs) clock asked
          → AtMoments clock (λ moments. Gave (run_output of.tree of.world (given (course.Rounds rounds) moments before)) (exit_of result) (side old.written old.faults clock before) (side new.written new.faults asked after))
      rounds_gave result ran failed was =
          let m = gives rounds clock ran.0 ran.1 in
          record {
            moments = m.moments;
            told = m.told;
            holds = on_course (course.Rounds rounds) m.moments (live_events of.world runs.last ran.0) (exit_of result) old.written new.written old.faults new.faults clock asked (listed ran.0 m.moments m.is)
                (wrote (course.Rounds rounds) m.moments (trace_of of made runs (live_events of.world runs.last ran.0)) clock asked refl result ran.2 failed (asks result m.moments m.told was) (asks_within result m.moments m.told was));
          }

  -- a load was run
  module _ (leaves : ℕ) (events : List Event) (listed : events ≡ of.world.events) (clock : Option Moments) where
    abbrev load_trace : Trace
    load_trace = trace_of of made runs events

    load_gave : (result : Exit) (a b : Option (List ℕ)) (fell rose : ℕ)
        → ((moments : Moments) → GivenBy of (given (course.Load leaves) moments before) load_trace after a b fell rose clock clock result)
        → AtMoments clock (λ moments. Gave (run_output of.tree of.world (given (course.Load leaves) moments before)) result (side a fell clock before) (side b rose clock after))
    load_gave result a b fell rose gave =
        at_any clock (λ moments. Gave (run_output of.tree of.world (given (course.Load leaves) moments before)) result (side a fell clock before) (side b rose clock after))
        (λ moments. on_course (course.Load leaves) moments events result a b fell rose clock clock listed (gave moments))

    line_is : load_line leaves of.tree (length events) load_trace ≡ load_line leaves of.tree (length of.world.events) load_trace
    line_is = ap (λ (es : List Event). load_line leaves of.tree (length es) load_trace) listed

    -- its line was written
    pub line_gave : (ending : Ended) (line : List ℕ) (a b : Option (List ℕ)) (fell rose : ℕ) → IsLoad leaves of.tree (arenas_of runs) (length events) made after line ending load_trace → Appended a b line
        → AtMoments clock (λ moments. Gave (run_output of.tree of.world (given (course.Load leaves) moments before)) (exit_of (Ok ending)) (side a fell clock before) (side b rose clock after))
    line_gave ending line a b fell rose is written =
        load_gave (exit_of (Ok ending)) a b fell rose
        (λ moments. ending_gave of (given (course.Load leaves) moments before) load_trace after a b fell rose clock clock ending is.ends
        (subst (Appended a b) (is.told ∙ line_is) written) (is.drivers ∙ calls_are of runs before made begun load_trace.calls) (never_asked clock ending))

    -- .. or a prefix of it
    pub line_stopped : (stopped : TextStop) (ending : Ended) (line : List ℕ) (a b : Option (List ℕ)) (fell rose : ℕ) → IsLoad leaves of.tree (arenas_of runs) (length events) made after line ending load_trace → AppendedPrefix a b line
        → (stopped ≡ text_stop.WriteFault → Rose fell rose)
        → AtMoments clock (λ moments. Gave (run_output of.tree of.world (given (course.Load leaves) moments before)) (exit_of (Err stopped)) (side a fell clock before) (side b rose clock after))
    line_stopped stopped ending line a b fell rose is front failed =
        load_gave (exit_of (Err stopped)) a b fell rose
        (λ moments. stopped_gave of (given (course.Load leaves) moments before) load_trace after a b fell rose clock clock stopped
        (subst (AppendedPrefix a b) (is.told ∙ line_is) front) failed (all_made of runs before made begun after load_trace is.drivers) (never_within clock))

    -- .. or there was no memory for it
    pub no_line : (a : Option (List ℕ)) (fell : ℕ) → IsCut (arenas_of runs) made after load_trace
        → AtMoments clock (λ moments. Gave (run_output of.tree of.world (given (course.Load leaves) moments before)) exit.Memory (side a fell clock before) (side a fell clock after))
    no_line a fell cut = load_gave exit.Memory a a fell fell (λ moments. record {
      written = AppendedPrefix-nothing a (load_line leaves of.tree (length of.world.events) load_trace);
      drivers = inl (cut_off of runs before made begun after load_trace cut);
      clock = refl;
    })

-- ---- Joins

-- a leaf lacks what it needs, or memory ran out
pub join_stopped : (tree : Tree) (world : World) (course : Course) (stopped : Stop JoinFault) (a b : Side) → IsUntouched a b → Joins {A = Runs} (Err stopped) (lack_of tree world a.drivers) → EndsAt (JoinGives tree world course) AreUncalled (Err (stopped_as refusal.Join stopped)) a b
join_stopped tree world course (stop.Fault f) a b same lacks =
    at_any a.clock (λ moments. Ends (JoinGives tree world course moments a.drivers) AreUncalled (Err (refusal.Join f)) a b)
    (λ moments. (sym (ap (λ (lack : Option JoinFault). joined_output lack tree world (given course moments a.drivers)) lacks), same))
join_stopped tree world course stop.NoMemory a b same lacks =
    at_any a.clock (λ moments. Ends (JoinGives tree world course moments a.drivers) AreUncalled (Err refusal.NoMemory) a b) (λ moments. (tt, same))

-- the output of a run was given where nothing is lacking
pub joined_ends : (of : Setup) (before : List DriverState) (course : Course) → lack_of of.tree of.world before ≡ None → (result : Exit) (a b : Side)
    → AtMoments a.clock (λ moments. Gave (run_output of.tree of.world (given course moments before)) result (side a.written a.faults a.clock before) b)
    → EndsAt (JoinGives of.tree of.world course) AreUncalled (Ok result) (side a.written a.faults a.clock before) b
joined_ends of before course lacks result a b x = record {
  moments = x.moments;
  told = x.told;
  holds = inl (
    joined_output (lack_of of.tree of.world before) of.tree of.world (given course x.moments before),
    refl,
    subst (λ (lack : Option JoinFault). Gave (joined_output lack of.tree of.world (given course x.moments before)) result (side a.written a.faults a.clock before) b) (sym lacks) x.holds,
  );
}
