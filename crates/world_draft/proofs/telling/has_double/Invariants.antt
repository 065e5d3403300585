use Rattle.std.proofs.Common.{◌≡◌, map, take, drop, []}
use Rattle.spec_world_file.specs.WorldFile.{repeats}
use Rattle.world_draft.specs.Tables.{names_of_set}
use Rattle.world_draft.proofs.telling.has_double.Given as goal

abbrev pub invariant-loop-out : goal.invariant-loop-out
invariant-loop-out l = record {
  held : names_of_set l.set ≡ take l.out-index (map (λ out. out.port) l.outs);
  rest : repeats (take l.out-index (map (λ out. out.port) l.outs)) (drop l.out-index (map (λ out. out.port) l.outs)) ≡ repeats [] (map (λ out. out.port) l.outs);
}
