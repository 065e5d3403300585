-- What a run gives of which something is expected.
use Rattle.std.proofs.Common.{◌≡◌, ℕ, List, Bool, true, false, inl, Option, Some, None, refl, sym, ap, subst, ◌∙◌, Result, Ok, Err, nat_eq, if◌then◌else◌}
use Rattle.spec_run.specs.declared.fault.RunFault.{RunFault}
use Rattle.spec_run.specs.declared.join_fault.JoinFault.{JoinFault}
use Rattle.spec_run.specs.Drivers.{DriverState}
use Rattle.spec_run.specs.Joins.{lack_of}
use Rattle.spec_run.specs.Run.{RunState, Trace, opening, run, run_from}
use Rattle.spec_run.specs.Served.{Setup, roster_after_run}
use Rattle.spec_world.specs.declared.world.Event.{Event}
use Rattle.base_outside.proofs.Appends.{AppendedPrefix-nothing}
use Rattle.spec_outside.specs.Appending.{Appended, AppendedPrefix}
use Rattle.spec_outside.specs.Counts.{Rose}
use Rattle.spec_outside.specs.Moments.{Moments}
use Rattle.base_texts.specs.declared.stop.Stop.{Stop}
use Rattle.base_texts.specs.declared.stop.Stop.TheVariants as stop
use Rattle.spec_expect.specs.declared.expect_fault.ExpectFault.{ExpectFault}
use Rattle.spec_expect.specs.declared.expectation.Expected.{Expected}
use Rattle.spec_expect.specs.ExpectFile.{ReadsExpected}
use Rattle.spec_expect.specs.Told.{told_of}
use Rattle.spec_expect.specs.Verdicts.{failed}
use Rattle.spec_program.specs.declared.exit.Exit.{Exit}
use Rattle.spec_program.specs.declared.exit.Exit.TheVariants as exit
use Rattle.spec_program.specs.Answers.{Gave, Side, side}
use Rattle.spec_program.specs.Expecting.{JoinExpects, expect_exit, expecting}
use Rattle.spec_program.specs.Output.{AreUncalled, Ending}
use Rattle.spec_program.specs.RefusalOutputs.{expect_refused, join_refused}
use Rattle.run_arena.specs.Joining.{Joins}
use Rattle.run_loop.specs.declared.runs.Runs.{Runs}
use Rattle.run_loop.specs.Begun.{AreBegun}
use Rattle.run_loop.specs.Runs.{arenas_of}
use Rattle.text_lines.specs.declared.stop.TextStop.{TextStop}
use Rattle.text_lines.specs.declared.stop.TextStop.TheVariants as text_stop
use Rattle.text_trace.specs.declared.expecting.run.Expecting.{Expecting}
use Rattle.text_trace.specs.declared.expecting.run.Expecting.TheVariants.{Met, Unmet, Faulted}
use Rattle.text_trace.specs.Expected.{IsExpected, comes_out}
use Rattle.text_trace.specs.Halted.{IsCut}
use Rattle.spec_output.specs.Cuts.{IsCutOff}
use Rattle.text_trace.specs.Traces.{state_in, trace_of}
use Rattle.expect_reader.specs.Reading.{GivesItems}
use Rattle.cli_refusals.specs.declared.refusal.Refusal.TheVariants as refusal
use Rattle.cli_refusals.specs.Ends.{Ends, EndsAt, IsUntouched}
use Rattle.cli_refusals.specs.Refusing.{stopped_as}
use Rattle.cli_refusals.proofs.AboutLent.Moments.{at_any}
use Rattle.cli_answers.specs.Courses.Expecting.{ExpectGave, expect_exit_of}
use Rattle.cli_answers.proofs.AboutCourses.Runs.{all_made, calls_are, cut_off}

-- the exit of a run that came out as its trace does
exit_is : (fault : Option RunFault) (failed : ℕ) → expect_exit fault failed ≡ expect_exit_of (Ok (comes_out fault failed))
exit_is (Some fault) failed = refl
exit_is None failed = by_test (nat_eq failed 0) where
  by_test : (b : Bool) → (if b then exit.Done else exit.Unmet) ≡ expect_exit_of (Ok (if b then Met else Unmet))
  by_test true = refl
  by_test false = refl

module _ (of : Setup) (expected : List Expected) (before after : List DriverState) (a b : Option (List ℕ)) (fell rose : ℕ) (clock : Option Moments) (trace : Trace) where
  abbrev GivenBy : Exit → Type 0
  GivenBy result = Gave (expecting expected of trace) result (side a fell clock before) (side b rose clock after)

  -- its lines were written
  lines_gave : (text : List ℕ) (out : Expecting) → text ≡ told_of of expected trace → out ≡ comes_out trace.fault (failed of trace.blocks expected) → after ≡ roster_after_run of.tree of.world before trace.calls
      → Appended a b text → GivenBy (expect_exit_of (Ok out))
  lines_gave text out told came drivers written = by_out out (exit_is trace.fault (failed of trace.blocks expected) ∙ ap (λ (x : Expecting). expect_exit_of (Ok x)) (sym came)) where
    by_out : (x : Expecting) → expect_exit trace.fault (failed of trace.blocks expected) ≡ expect_exit_of (Ok x) → GivenBy (expect_exit_of (Ok x))
    by_out Met e = (e, subst (Appended a b) told written, drivers, refl)
    by_out Unmet e = (e, subst (Appended a b) told written, drivers, refl)
    by_out Faulted e = (e, subst (Appended a b) told written, drivers, refl)

  -- .. or a prefix of them
  lines_stopped : (stopped : TextStop) → AppendedPrefix a b (told_of of expected trace) → (stopped ≡ text_stop.WriteFault → Rose fell rose) → IsCutOff of.tree of.world trace.calls before after → GivenBy (expect_exit_of (Err stopped))
  lines_stopped text_stop.WriteFault front rises cut = (rises refl, record { written = front; drivers = cut; clock = refl })
  lines_stopped text_stop.NoMemory front rises cut = record { written = front; drivers = inl cut; clock = refl }

-- runs before their first event
module _ (of : Setup) (runs : Runs) (made after : List DriverState) (opened : state_in of made runs ≡ opening of.tree of.world) (expected : List Expected) (events : List Event) (listed : events ≡ of.world.events)
    (a b : Option (List ℕ)) (fell rose : ℕ) (clock : Option Moments) where
  abbrev trace : Trace
  trace = trace_of of made runs events

  trace_is : trace ≡ run of.tree of.world
  trace_is = ap (λ (es : List Event). trace_of of made runs es) listed ∙ ap (λ (s : RunState). run_from of.tree of.world of.world.events s) opened

  abbrev On : Exit → Option (List ℕ) → ℕ → Type 0
  On result w faults = ExpectGave of expected runs result (side a fell clock made) (side w faults clock after)

  as_run : (result : Exit) (w : Option (List ℕ)) (faults : ℕ)
      → ((before : List DriverState) → AreBegun of.tree of.world before made runs → Gave (expecting expected of trace) result (side a fell clock before) (side w faults clock after)) → On result w faults
  as_run result w faults gave before begun =
      subst (λ (t : Trace). Gave (expecting expected of t) result (side a fell clock before) (side w faults clock after)) trace_is (gave before begun)

  pub expected_gave : (text : List ℕ) (out : Expecting) → IsExpected of expected (arenas_of runs) made after text out trace → Appended a b text → On (expect_exit_of (Ok out)) b rose
  expected_gave text out is written = as_run (expect_exit_of (Ok out)) b rose
      (λ before begun. lines_gave of expected before after a b fell rose clock trace text out is.text is.out (is.drivers ∙ calls_are of runs before made begun trace.calls) written)

  pub expected_stopped : (stopped : TextStop) (text : List ℕ) (out : Expecting) → IsExpected of expected (arenas_of runs) made after text out trace → AppendedPrefix a b text → (stopped ≡ text_stop.WriteFault → Rose fell rose) → On (expect_exit_of (Err stopped)) b rose
  expected_stopped stopped text out is front rises = as_run (expect_exit_of (Err stopped)) b rose
      (λ before begun. lines_stopped of expected before after a b fell rose clock trace stopped (subst (AppendedPrefix a b) is.text front) rises (all_made of runs before made begun after trace is.drivers))

  -- there was no memory for the lines
  pub no_lines : IsCut (arenas_of runs) made after trace → On exit.Memory a fell
  no_lines cut = as_run exit.Memory a fell (λ before begun. record {
    written = AppendedPrefix-nothing a (told_of of expected trace);
    drivers = inl (cut_off of runs before made begun after trace cut);
    clock = refl;
  })

-- ---- Joins

abbrev pub Expects : Setup → List ℕ → Ending
Expects of expect moments drivers output = JoinExpects (lack_of of.tree of.world drivers) of expect output

-- a leaf lacks what it needs, or memory ran out
pub expect_join_stopped : (of : Setup) (expect : List ℕ) (stopped : Stop JoinFault) (a b : Side) → IsUntouched a b → Joins {A = Runs} (Err stopped) (lack_of of.tree of.world a.drivers) → EndsAt (Expects of expect) AreUncalled (Err (stopped_as refusal.Join stopped)) a b
expect_join_stopped of expect (stop.Fault f) a b same lacks =
    at_any a.clock (λ moments. Ends (Expects of expect moments a.drivers) AreUncalled (Err (refusal.Join f)) a b)
    (λ moments. (subst (λ (lack : Option JoinFault). JoinExpects lack of expect (join_refused f)) (sym lacks) refl, same))
expect_join_stopped of expect stop.NoMemory a b same lacks =
    at_any a.clock (λ moments. Ends (Expects of expect moments a.drivers) AreUncalled (Err refusal.NoMemory) a b) (λ moments. (tt, same))

-- the file of expectations has a faulty line
pub expect_file_stopped : (of : Setup) (expect : List ℕ) (fault : ExpectFault) (a b : Side) → IsUntouched a b → lack_of of.tree of.world a.drivers ≡ None → ReadsExpected of.tree of.world expect (Err fault) → EndsAt (Expects of expect) AreUncalled (Err (refusal.Expect fault)) a b
expect_file_stopped of expect fault a b same lacks reads =
    at_any a.clock (λ moments. Ends (Expects of expect moments a.drivers) AreUncalled (Err (refusal.Expect fault)) a b)
    (λ moments. (subst (λ (lack : Option JoinFault). JoinExpects lack of expect (expect_refused fault)) (sym lacks) (Err fault, reads, refl), same))

-- memory ran out
pub expect_no_memory : (of : Setup) (expect : List ℕ) (a b : Side) → IsUntouched a b → EndsAt (Expects of expect) AreUncalled (Err refusal.NoMemory) a b
expect_no_memory of expect a b same = at_any a.clock (λ moments. Ends (Expects of expect moments a.drivers) AreUncalled (Err refusal.NoMemory) a b) (λ moments. (tt, same))

-- .. or could not be read
pub expect_stopped : (of : Setup) (expect : List ℕ) (stopped : Stop ExpectFault) (a b : Side) → IsUntouched a b → lack_of of.tree of.world a.drivers ≡ None
    → (let read : Result (List Expected) (Stop ExpectFault) = Err stopped in GivesItems read (ReadsExpected of.tree of.world expect)) → EndsAt (Expects of expect) AreUncalled (Err (stopped_as refusal.Expect stopped)) a b
expect_stopped of expect (stop.Fault fault) a b same lacks reads = expect_file_stopped of expect fault a b same lacks reads
expect_stopped of expect stop.NoMemory a b same lacks reads = expect_no_memory of expect a b same

-- the output of a run was given where nothing is lacking
pub expected_ends : (of : Setup) (before : List DriverState) (expect : List ℕ) (expected : List Expected) → lack_of of.tree of.world before ≡ None → ReadsExpected of.tree of.world expect (Ok expected) → (result : Exit) (a b : Side)
    → Gave (expecting expected of (run of.tree of.world)) result (side a.written a.faults a.clock before) b → EndsAt (Expects of expect) AreUncalled (Ok result) (side a.written a.faults a.clock before) b
expected_ends of before expect expected lacks reads result a b gave =
    at_any a.clock (λ moments. Ends (Expects of expect moments before) AreUncalled (Ok result) (side a.written a.faults a.clock before) b)
    (λ moments. inl (
      expecting expected of (run of.tree of.world),
      subst (λ (lack : Option JoinFault). JoinExpects lack of expect (expecting expected of (run of.tree of.world))) (sym lacks) (Ok expected, reads, refl),
      gave,
    ))
