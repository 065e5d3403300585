-- The trace in what is said, and the leaves that were held in it.
use Rattle.std.specs.Prelude.{◌≡◌, ℕ, nat_eq, List, [], ◌∷◌, Bool, true, false, not, ◌||◌, ◌&&◌, codes, bytes_eq, map, filter}
use Rattle.std.specs.List.{flat_map, list_any, starts_with}
use Rattle.spec_output.specs.Lines.{line_names, lines_of}
use Rattle.spec_run.specs.declared.block.Block.{Block}
use Rattle.spec_run.specs.declared.note.Note.{Note}
use Rattle.spec_run.specs.declared.note.Note.TheVariants as note
use Rattle.spec_run.specs.declared.status.Answer.{Answer}
use Rattle.spec_run.specs.declared.status.Answer.TheVariants as answer
use Rattle.spec_run.specs.Run.{run_over}
use Rattle.spec_serve.specs.Inputs.{runner_of}
use Rattle.spec_serve.specs.Talks.{Said, ok_line}
use Rattle.spec_tree.specs.declared.term.Tree.{Tree}
use Rattle.spec_world.specs.declared.world.World.{World}

-- the lines that stand in no trace
abbrev pub is_extra : List ℕ → Bool
is_extra line =
    starts_with nat_eq line (codes "in ") || starts_with nat_eq line (codes "ready ") || starts_with nat_eq line (codes "refused ") || bytes_eq line ok_line

-- the blocks of the run of the events that were made
abbrev pub blocks_of : Tree → World → Said → List Block
blocks_of tree world said = (run_over tree world said.events).blocks

-- but for the other lines, what is said is the trace of that run
abbrev pub IsTrace : Tree → World → Said → Type 0
IsTrace tree world said =
    filter (λ line. not (is_extra line)) said.lines ≡ flat_map (lines_of (line_names tree world)) (blocks_of tree world said)

-- ---- Leaves that are held

-- a note of an event of this runner
pub record Noted : Type 0 where
  pub runner : ℕ
  pub note : Note

-- the notes of a block
abbrev pub noted_in : Block → List Noted
noted_in block = map (λ n. record { runner = runner_of block.header; note = n }) block.notes

-- whether a note is of a call of the leaf of a uid, of this runner in an event of that one; a quench names the runner itself
abbrev pub is_call : ℕ → ℕ → ℕ → Note → Bool
is_call runner uid by (note.Started other answer) = nat_eq runner by && nat_eq uid other
is_call runner uid by (note.Ran other answer) = nat_eq runner by && nat_eq uid other
is_call runner uid by (note.Halted other) = nat_eq runner by && nat_eq uid other
is_call runner uid by (note.Quenched of other) = nat_eq runner of && nat_eq uid other
is_call runner uid by _ = false

-- whether one of these notes is of a call of a runner's leaf
abbrev pub is_called : ℕ → ℕ → List Noted → Bool
is_called runner uid notes = list_any (λ (n : Noted). is_call runner uid n.runner n.note) notes

-- whether a leaf that answers so is called again in the notes that follow, if it is held
abbrev pub goes_on : Answer → ℕ → ℕ → List Noted → Bool
goes_on answer.Running runner uid later = is_called runner uid later
goes_on _ runner uid later = true

-- whether the leaf that a note leaves held, if it leaves one, has a later note
abbrev pub has_later : ℕ → Note → List Noted → Bool
has_later runner (note.Started uid answer) later = goes_on answer runner uid later
has_later runner (note.Ran uid answer) later = goes_on answer runner uid later
has_later runner _ later = true

-- whether each leaf that notes leave held has a later note: so its last one says that it has ended, was halted or quenched
abbrev pub all_ended : List Noted → Bool
all_ended [] = true
all_ended (n ∷ later) = has_later n.runner n.note later && all_ended later

-- no leaf is left held by what was said
abbrev pub NoneIsHeld : Tree → World → Said → Type 0
NoneIsHeld tree world said = all_ended (flat_map noted_in (blocks_of tree world said)) ≡ true
