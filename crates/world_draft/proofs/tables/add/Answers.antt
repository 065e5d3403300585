use Rattle.world_draft.proofs.Named.{added_name, added_value}
use Rattle.world_draft.proofs.tables.add.Goals as goal

pub returns-clause-names : goal.returns-clause-names
returns-clause-names g c = added_name c.args.table.now c.insert.new.self c.in_ok-key.key c.args.value c.args.name.now c.in_ok-key.ensures.items c.requires c.in_ok-insert.ensures.entries

pub returns-clause-values : goal.returns-clause-values
returns-clause-values g c = added_value c.args.table.now c.insert.new.self c.in_ok-key.key c.args.value c.args.name.now c.in_ok-key.ensures.items c.requires c.in_ok-insert.ensures.entries
