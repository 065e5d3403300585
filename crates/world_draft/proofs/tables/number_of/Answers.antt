use Rattle.std.proofs.Common.{sym, ◌∙◌}
use Rattle.std.specs.Prelude.{bytes_eq}
use Rattle.indexmap.specs.IndexMap.{keys}
use Rattle.world_draft.proofs.Named.{position-map}
use Rattle.world_draft.proofs.tables.number_of.Goals as goal

pub returns : goal.returns
returns g c = c.get_index_of.ensures.index ∙ sym (position-map (bytes_eq c.args.name.now) (λ key. key.items) (keys c.args.table.now))
