use Rattle.std.proofs.Common.{◌≡◌, ◌++◌, ℕ, List, length, map, drop}
use Rattle.std.specs.List.{All}
use Rattle.spec_tree.specs.Boards.{slots}
use Rattle.run_arena.specs.Resolving.{view_in}
use Rattle.run_arena.specs.Sources.{IsSourceOf, source_at}
use Rattle.run_arena.proofs.ports.name_sources.Given as goal

-- the sources so far, followed by those still to come, are all
abbrev pub invariant-loop-name : goal.invariant-loop-name
invariant-loop-name g l = record {
  sources : l.sources.items ++ map (λ (name : List ℕ). source_at (view_in l.setting.tree.now l.setting.world.now l.scope) l.ports name) (drop l.name-index l.names) ≡ map (λ (name : List ℕ). source_at (view_in l.setting.tree.now l.setting.world.now l.scope) l.ports name) l.names;
  slots : All (IsSourceOf (length (slots l.setting.tree.now))) l.sources.items;
}
