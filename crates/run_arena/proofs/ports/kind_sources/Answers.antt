use Rattle.std.proofs.Common.{◌≡◌, List, map, ap, subst, ◌∙◌}
use Rattle.std.specs.Prelude.{IfOk}
use Rattle.run_arena.proofs.Opened.{map_twice}
use Rattle.spec_tree.specs.BuiltIns.{PortRule}
use Rattle.base_tables.specs.BuiltInRows.{rule_seen}
use Rattle.run_arena.specs.declared.source.Source.{Source}
use Rattle.run_arena.specs.Resolving.{view_in}
use Rattle.run_arena.specs.Sources.{source_at}
use Rattle.run_arena.proofs.ports.kind_sources.Goals as goal

pub returns-clause-sources : goal.returns-clause-sources
returns-clause-sources g c =
    let given = λ (port : PortRule). source_at (view_in c.args.setting.now.tree.now c.args.setting.now.world.now c.args.scope) c.args.ports.now port.name in
    let same = map_twice rule_seen given c.ports_of.result.now ∙ ap (map given) c.ports_of.ensures in
    subst (λ (all : List Source). IfOk c.rule_sources.result (λ sources. sources.items ≡ all)) same c.rule_sources.ensures.sources
