-- What is told of a run of which something is expected.
use Rattle.std.specs.Prelude.{ℕ, List, [], ◌++◌, find, Bool, true, false, Option, Some, None}
use Rattle.spec_run.specs.declared.block.Block.{Block}
use Rattle.spec_run.specs.declared.fault.RunFault.{RunFault}
use Rattle.spec_run.specs.declared.note.Note.{Note}
use Rattle.spec_run.specs.declared.note.Note.TheVariants.{Faulted}
use Rattle.spec_run.specs.Run.{Trace}
use Rattle.spec_run.specs.Served.{Setup}
use Rattle.spec_output.specs.Counts.{notes_in}
use Rattle.spec_output.specs.Lines.{LineNames, line_names, note_line}
use Rattle.spec_expect.specs.declared.expectation.Expected.{Expected}
use Rattle.spec_expect.specs.Verdicts.{failed, lines_of, passed, sum_line}

-- the note of a fault
abbrev pub is_fault : Note → Bool
is_fault (Faulted runner uid cause) = true
is_fault _ = false

-- the line of a note, where there is one
abbrev pub line_of_note : LineNames → Option Note → List ℕ
line_of_note names (Some note) = note_line names note
line_of_note names None = []

-- the line of the fault in which a run ends, as its trace has it
abbrev pub fault_line : Setup → List Block → List ℕ
fault_line of blocks = line_of_note (line_names of.tree of.world) (find is_fault (notes_in blocks))

-- after a fault the line of it, and else the sum
abbrev pub last_line : Setup → List Expected → List Block → Option RunFault → List ℕ
last_line of expected blocks (Some fault) = fault_line of blocks
last_line of expected blocks None = sum_line (passed of blocks expected) (failed of blocks expected)

-- the line of each expectation in order, and the last one
abbrev pub told_of : Setup → List Expected → Trace → List ℕ
told_of of expected trace = lines_of of trace.blocks expected ++ last_line of expected trace.blocks trace.fault
