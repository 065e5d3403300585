use Rattle.std.proofs.Common.{◌≡◌, ◌++◌, ℕ, List, length, map, drop}
use Rattle.std.specs.List.{All}
use Rattle.spec_tree.specs.Boards.{slots}
use Rattle.spec_world.specs.Worlds.{ports_written}
use Rattle.run_arena.specs.Resolving.{view_in}
use Rattle.run_arena.specs.Sources.{IsSourceOf, source_at}
use Rattle.run_arena.proofs.ports.out_sources.Given as goal

-- the sources so far, followed by those still to come, are all
abbrev pub invariant-loop-out : goal.invariant-loop-out
invariant-loop-out g l = record {
  sources : l.sources.items ++ map (λ (name : List ℕ). source_at (view_in l.setting.tree.now l.setting.world.now l.scope) l.ports name) (ports_written (drop l.out-index l.outs)) ≡ map (λ (name : List ℕ). source_at (view_in l.setting.tree.now l.setting.world.now l.scope) l.ports name) (ports_written l.outs);
  slots : All (IsSourceOf (length (slots l.setting.tree.now))) l.sources.items;
}
