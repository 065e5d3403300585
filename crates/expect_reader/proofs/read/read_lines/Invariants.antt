use Rattle.std.proofs.Common.{◌≡◌, ◌+◌, drop, map}
use Rattle.expect_reader.specs.Reading.{IsAfter, subject_seen}
use Rattle.expect_reader.proofs.read.read_lines.Given as goal

abbrev pub invariant-loop-text : goal.invariant-loop-text
invariant-loop-text l = record {
  line : l.line ≡ 2 + l.text-index;
  after : IsAfter (subject_seen l.subject) (map (λ text. text.now) l.lines) l.initial.expected.items l.line (map (λ text. text.now) (drop l.text-index l.lines)) l.expected.items;
}
