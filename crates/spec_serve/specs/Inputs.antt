-- The block of an event as it is told to a host: with what the inputs held of the leaves that it has started.
use Rattle.std.specs.Prelude.{ℕ, suc, zero, List, [], ◌∷◌, ◌++◌, Bool, true, false, ◌||◌, nat_eq, if◌then◌else◌, Option, Some, None, codes, decimal, slice_get, slice_index_or}
use Rattle.std.specs.List.{list_any}
use Rattle.spec_script.specs.declared.value.Value.{Value}
use Rattle.spec_run.specs.declared.block.Header.{Header}
use Rattle.spec_run.specs.declared.block.Header.TheVariants as header
use Rattle.spec_run.specs.declared.note.Note.{Note}
use Rattle.spec_run.specs.declared.note.Note.TheVariants as note
use Rattle.spec_run.specs.Leaf.{fresh}
use Rattle.spec_run.specs.Run.{Runner, RunState}
use Rattle.spec_output.specs.Lines.{LineNames, change_lines, header_line, node_inputs, note_line, value_words}
use Rattle.spec_run.specs.declared.block.Block.{Block}

-- the words of a value that an input held, or a sign that it held none
abbrev pub held_words : Option Value → List ℕ
held_words (Some value) = value_words value
held_words None = codes "-"

-- the line of an input of a leaf
abbrev pub input_line : ℕ → List ℕ → Option Value → List ℕ
input_line uid port value = codes "in " ++ decimal uid ++ codes " " ++ port ++ codes " " ++ held_words value ++ codes "\n"

-- the lines of the inputs of a leaf, by the names of its ports
abbrev pub input_lines : ℕ → List (List ℕ) → List (Option Value) → List (List ℕ)
input_lines uid (port ∷ ports) (value ∷ values) = input_line uid port value ∷ input_lines uid ports values
input_lines uid _ _ = []

-- whether a note says that the node of a uid was started
abbrev pub starts : ℕ → Note → Bool
starts uid (note.Started other answer) = nat_eq uid other
starts uid _ = false

-- the runner whose event has this header; 0 where it is that of no runner
abbrev pub runner_of : Header → ℕ
runner_of (header.Tick runner at) = runner
runner_of (header.Halt runner at) = runner
runner_of (header.Finish runner at) = runner
runner_of (header.Tell runner uid succeeds at) = runner
runner_of (header.Change fact value at) = 0

-- what a runner's leaf of a uid has kept of its last start; only a leaf that is told what it answers keeps something
abbrev pub kept_by : Option Runner → ℕ → List (Option Value)
kept_by (Some r) uid = (slice_index_or r.instances uid fresh).inputs
kept_by None uid = []

abbrev pub kept_inputs : RunState → ℕ → ℕ → List (Option Value)
kept_inputs s (suc place) uid = kept_by (slice_get s.runners place) uid
kept_inputs s zero uid = []

-- the lines of the inputs of a leaf that was started, unless one of the later notes says that it was started again
abbrev pub started_lines : LineNames → (ℕ → List (Option Value)) → ℕ → List Note → List (List ℕ)
started_lines names kept uid later = if list_any (starts uid) later then [] else input_lines uid (node_inputs names uid) (kept uid)

-- the lines of notes, with those of the inputs of the leaves that were started, after the last start of each
abbrev pub told_notes : LineNames → (ℕ → List (Option Value)) → List Note → List (List ℕ)
told_notes names kept [] = []
told_notes names kept (note.Started uid answer ∷ notes) =
    note_line names (note.Started uid answer) ∷ (started_lines names kept uid notes ++ told_notes names kept notes)
told_notes names kept (other ∷ notes) = note_line names other ∷ told_notes names kept notes

-- the lines of a block, where its event has left this state
abbrev pub told_lines : LineNames → RunState → Block → List (List ℕ)
told_lines names s block =
    header_line names block.header ∷ (told_notes names (kept_inputs s (runner_of block.header)) block.notes ++ change_lines names block)
