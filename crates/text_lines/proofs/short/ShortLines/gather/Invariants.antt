use Rattle.std.proofs.Common.{◌≡◌, ◌≤◌, length, map, take}
use Rattle.std.specs.List.{concat}
use Rattle.spec_output.specs.Lines.{LineNames, note_line}
use Rattle.text_lines.proofs.short.ShortLines.gather.Given as goal

-- the lines of so many notes are here, and before the first there is room
abbrev pub invariant-loop-note : goal.invariant-loop-note
invariant-loop-note l = record {
  count : l.count ≡ l.note-index;
  text : (names : LineNames) → l.self ≡ concat (map (note_line names) (take l.note-index l.notes));
  room : l.note-index ≡ 0 → length l.self ≤ 448;
}
