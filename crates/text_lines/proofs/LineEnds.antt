-- Each line that is written ends with a line feed.
use Rattle.std.proofs.Common.{ℕ, ℤ, ◌≤◌, List, [], ◌∷◌, ◌++◌, map, length, length-take-le, take, append-nil, codes, arith}
use Rattle.std.specs.List.{concat}
use Rattle.std.specs.Prelude.{decimal, if◌then◌else◌}
use Rattle.std.specs.Fmt.{signed_decimal}
use Rattle.spec_script.specs.declared.value.Value.{Value}
use Rattle.spec_run.specs.declared.block.Header.{Header}
use Rattle.spec_run.specs.declared.block.Header.TheVariants as header
use Rattle.spec_run.specs.declared.note.Note.{Note}
use Rattle.spec_run.specs.declared.note.Note.TheVariants as note
use Rattle.spec_tree.specs.PrintedTree.{indented}
use Rattle.spec_output.specs.Lines.{LineNames, answer_word, cause_words, cell_at, cell_words, entry_line, fact_line, fact_name, header_line, note_line, status_word, value_words}
use Rattle.spec_outside.specs.Writes.{AreLines}
use Rattle.base_outside.proofs.Writings.{lines-after, lines-equal, lines-feed}

-- words and a line feed
pub line : (words : List ℕ) → AreLines (words ++ codes "\n")
line words = lines-after words (codes "\n") lines-feed

pub header_lines : (names : LineNames) (h : Header) → AreLines (header_line names h)
header_lines names (header.Tick runner at) = line (codes "tick " ++ decimal runner ++ codes " at " ++ decimal at)
header_lines names (header.Halt runner at) = line (codes "halt " ++ decimal runner ++ codes " at " ++ decimal at)
header_lines names (header.Change fact value at) =
    line (codes "set " ++ fact_name names.facts fact ++ codes " " ++ signed_decimal value ++ codes " at " ++ decimal at)
header_lines names (header.Finish runner at) = line (codes "finish " ++ decimal runner ++ codes " at " ++ decimal at)
header_lines names (header.Tell runner uid succeeds at) =
    line (codes "tell " ++ decimal runner ++ codes " " ++ decimal uid ++ (if succeeds then codes " SUCCESS at " else codes " FAILURE at ") ++ decimal at)

pub note_lines : (names : LineNames) (n : Note) → AreLines (note_line names n)
note_lines names (note.Changed uid old new) =
    line (codes "node " ++ decimal uid ++ codes " " ++ status_word old ++ codes " " ++ status_word new)
note_lines names (note.Started uid answer) = line (codes "call " ++ decimal uid ++ codes " start " ++ answer_word answer)
note_lines names (note.Ran uid answer) = line (codes "call " ++ decimal uid ++ codes " running " ++ answer_word answer)
note_lines names (note.Halted uid) = lines-after (codes "call " ++ decimal uid) (codes " halted\n") (line (codes " halted"))
note_lines names (note.Root runner answer) = line (codes "root " ++ decimal runner ++ codes " " ++ answer_word answer)
note_lines names (note.Faulted runner uid cause) =
    line (codes "fault " ++ decimal runner ++ codes " " ++ decimal uid ++ codes " " ++ cause_words names uid cause)
note_lines names (note.Quenched runner uid) = line (codes "quench " ++ decimal runner ++ codes " " ++ decimal uid)

-- the lines of one or more notes
lines_of_notes : (names : LineNames) (notes : List Note) → 1 ≤ length notes → AreLines (concat (map (note_line names) notes))
lines_of_notes names [] some = absurd (omega (arith, some))
lines_of_notes names (n ∷ []) some = lines-equal _ _ (append-nil (note_line names n)) (note_lines names n)
lines_of_notes names (n ∷ m ∷ ms) some =
    lines-after (note_line names n) (concat (map (note_line names) (m ∷ ms))) (lines_of_notes names (m ∷ ms) (omega arith))

pub lines_of_some :
    (names : LineNames) (notes : List Note) (count : ℕ) → 1 ≤ count → count ≤ length notes → AreLines (concat (map (note_line names) (take count notes)))
lines_of_some names notes count some within = lines_of_notes names (take count notes) (omega (arith, length-take-le count notes within))

pub fact_lines : (names : LineNames) (fact : ℕ × ℤ) → AreLines (fact_line names fact)
fact_lines names fact = line (codes "fact " ++ fact_name names.facts fact.0 ++ codes " " ++ signed_decimal fact.1)

pub entry_lines : (names : LineNames) (entry : ℕ × ℕ × Value) → AreLines (entry_line names entry)
entry_lines names entry =
    line (codes "board " ++ decimal entry.0 ++ codes " " ++ cell_words (cell_at names entry.1) ++ codes " " ++ value_words entry.2)

pub mark_lines : (blanks text : List ℕ) → AreLines (indented blanks text)
mark_lines blanks text = line (blanks ++ text)
