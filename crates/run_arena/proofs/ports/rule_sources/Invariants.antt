use Rattle.std.proofs.Common.{◌≡◌, ◌++◌, length, map, drop}
use Rattle.std.specs.List.{All}
use Rattle.base_tables.specs.declared.built_ins.PortRule.{PortRule}
use Rattle.spec_tree.specs.Boards.{slots}
use Rattle.run_arena.specs.Resolving.{view_in}
use Rattle.run_arena.specs.Sources.{IsSourceOf, source_at}
use Rattle.run_arena.proofs.ports.rule_sources.Given as goal

-- the sources so far, followed by those still to come, are all
abbrev pub invariant-loop-rule : goal.invariant-loop-rule
invariant-loop-rule g l = record {
  sources : l.sources.items ++ map (λ (port : PortRule). source_at (view_in l.setting.tree.now l.setting.world.now l.scope) l.ports port.name.now) (drop l.rule-index l.rules) ≡ map (λ (port : PortRule). source_at (view_in l.setting.tree.now l.setting.world.now l.scope) l.ports port.name.now) l.rules;
  slots : All (IsSourceOf (length (slots l.setting.tree.now))) l.sources.items;
}
