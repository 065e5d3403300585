-- What a run gives that was joined.
use Rattle.std.specs.Prelude.{List, Result, Ok, Err}
use Rattle.spec_program.specs.declared.course.Course.{Course}
use Rattle.spec_program.specs.declared.exit.Exit.{Exit}
use Rattle.spec_program.specs.declared.exit.Exit.TheVariants as exit
use Rattle.spec_program.specs.Answers.{AtMoments, Gave, Side, side}
use Rattle.spec_program.specs.Courses.{given, run_output}
use Rattle.spec_run.specs.Drivers.{DriverState}
use Rattle.spec_run.specs.Served.{Setup}
use Rattle.run_loop.specs.declared.runs.Runs.{Runs}
use Rattle.run_loop.specs.Begun.{AreBegun}
use Rattle.text_trace.specs.declared.ended.Ended.{Ended}
use Rattle.text_trace.specs.declared.ended.Ended.TheVariants.{Done, Faulted}
use Rattle.text_lines.specs.declared.stop.TextStop.{TextStop}
use Rattle.text_lines.specs.declared.stop.TextStop.TheVariants as stop

-- the exit of a run that was ended so
abbrev pub exit_of : Result Ended TextStop → Exit
exit_of (Ok Done) = exit.Done
exit_of (Ok Faulted) = exit.Fault
exit_of (Err stop.WriteFault) = exit.Write
exit_of (Err stop.NoMemory) = exit.Memory

-- the output of a run on this course was given, over whatever drivers were prepared for it
abbrev pub RunGave : Setup → Course → Runs → Exit → Side → Side → Type 0
RunGave of course runs result old new = (before : List DriverState) → AreBegun of.tree of.world before old.drivers runs →
    AtMoments old.clock (λ moments.
    Gave (run_output of.tree of.world (given course moments before)) result (side old.written old.faults old.clock before) new)
