use Rattle.std.proofs.Common.{◌≡◌, take, drop, map}
use Rattle.std.specs.List.{list_all}
use Rattle.spec_world.specs.Worlds as worlds
use Rattle.world_lines.proofs.names.names_of.Given as goal

abbrev pub invariant-loop-word : goal.invariant-loop-word
invariant-loop-word l = record {
  held : l.names.items ≡ map (λ word. word.now) (take l.word-index l.words);
  rest : list_all worlds.is_name (map (λ word. word.now) (drop l.word-index l.words)) ≡ list_all worlds.is_name (map (λ word. word.now) l.words);
}
