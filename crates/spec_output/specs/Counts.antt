-- What the notes of a run tell of its calls and of its ticks.
use Rattle.std.specs.Prelude.{ℕ, ◌-◌, ◌^◌, min, Bool, true, false, List}
use Rattle.std.specs.List.{count_by, flat_map}
use Rattle.spec_run.specs.declared.block.Block.{Block}
use Rattle.spec_run.specs.declared.note.Note.{Note}
use Rattle.spec_run.specs.declared.note.Note.TheVariants.{Started, Ran, Halted, Root}
use Rattle.spec_run.specs.declared.status.Answer.TheVariants.{Success}
use Rattle.spec_output.specs.declared.counts.Counts.{Counts}

-- the call `start` of a leaf
abbrev pub is_start : Note → Bool
is_start (Started uid answer) = true
is_start _ = false

-- the call `running` of a leaf
abbrev pub is_running_call : Note → Bool
is_running_call (Ran uid answer) = true
is_running_call _ = false

-- the call `halted` of a leaf whose node was halted or reset; a quench after a fault has a note of its own
abbrev pub is_halting : Note → Bool
is_halting (Halted uid) = true
is_halting _ = false

-- the end of a tick that answered SUCCESS
abbrev pub is_success : Note → Bool
is_success (Root runner Success) = true
is_success _ = false

-- how many of some notes are so, in 64 bits: the count stands still at its last value
abbrev pub count_of : (Note → Bool) → List Note → ℕ
count_of is_so notes = min (count_by is_so notes) (2 ^ 64 - 1)

abbrev pub counts_in : List Note → Counts
counts_in notes = record {
  starts = count_of is_start notes;
  runnings = count_of is_running_call notes;
  haltings = count_of is_halting notes;
  successes = count_of is_success notes;
}

-- the notes of some blocks, in order
abbrev pub notes_in : List Block → List Note
notes_in blocks = flat_map (λ (b : Block). b.notes) blocks

-- the counts of a run with these blocks
abbrev pub counts_of : List Block → Counts
counts_of blocks = counts_in (notes_in blocks)
