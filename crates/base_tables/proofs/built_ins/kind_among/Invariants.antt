use Rattle.std.proofs.Common.{◌≡◌, drop, map}
use Rattle.spec_tree.specs.BuiltIns.{kind_among}
use Rattle.base_tables.specs.BuiltInRows.{row_seen}
use Rattle.base_tables.proofs.built_ins.kind_among.Given as goal

abbrev pub invariant-loop-row : goal.invariant-loop-row
invariant-loop-row l = kind_among (map row_seen (drop l.row-index l.rows)) l.name ≡ kind_among (map row_seen l.rows) l.name
