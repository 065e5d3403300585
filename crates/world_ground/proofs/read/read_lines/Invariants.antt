use Rattle.std.proofs.Common.{◌≡◌, ◌+◌, drop, map}
use Rattle.spec_world_file.specs.GroundFile.{with_lines}
use Rattle.world_ground.proofs.read.read_lines.Given as goal

abbrev pub invariant-loop-text : goal.invariant-loop-text
invariant-loop-text l = record {
  line : l.line ≡ l.text-index + 2;
  said : with_lines (l.text-index + 2) (map (λ text. text.now) (drop l.text-index l.lines)) l.reading ≡ with_lines 2 (map (λ text. text.now) l.lines) l.fn.reading;
}
