use Rattle.std.proofs.Common.{◌≡◌, ◌+◌, drop, map}
use Rattle.std.specs.Prelude.{Result}
use Rattle.spec_world_file.specs.declared.world_fault.WorldFault.{WorldFault}
use Rattle.spec_world_file.specs.WorldFile.{AfterLines, Reading}
use Rattle.world_reader.proofs.read.read_lines.Given as goal

abbrev pub invariant-loop-text : goal.invariant-loop-text
invariant-loop-text l = record {
  line : l.line ≡ l.text-index + 2;
  said : (said : Result Reading WorldFault) → AfterLines (l.text-index + 2) (map (λ text. text.now) (drop l.text-index l.lines)) l.reading said → AfterLines 2 (map (λ text. text.now) l.lines) l.fn.reading said;
}
