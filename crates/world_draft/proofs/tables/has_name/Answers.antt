use Rattle.std.proofs.Common.{sym, ◌∙◌}
use Rattle.std.specs.Prelude.{bytes_eq}
use Rattle.std.proofs.lemmas.Map.Made.{is_some-lookup}
use Rattle.indexmap.specs.IndexMap.{keys}
use Rattle.world_draft.proofs.Named.{any-map}
use Rattle.world_draft.proofs.tables.has_name.Goals as goal

pub returns : goal.returns
returns g c =
    c.contains_key.ensures ∙ is_some-lookup (λ key. bytes_eq c.args.name.now key.items) c.args.table.now.entries
    ∙ sym (any-map (bytes_eq c.args.name.now) (λ key. key.items) (keys c.args.table.now))
