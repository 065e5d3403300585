use Rattle.std.proofs.Common.{◌≡◌, take, drop, []}
use Rattle.spec_world_file.specs.WorldFile.{repeats}
use Rattle.world_draft.specs.Tables.{names_of_set}
use Rattle.world_draft.proofs.ports.Ports.of.Given as goal

abbrev pub invariant-loop-name : goal.invariant-loop-name
invariant-loop-name l = record {
  held : names_of_set l.set ≡ take l.name-index l.fn.names.items;
  rest : repeats (take l.name-index l.fn.names.items) (drop l.name-index l.fn.names.items) ≡ repeats [] l.fn.names.items;
}
