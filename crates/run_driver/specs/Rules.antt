-- The rule that a row made ready stands for.
use Rattle.std.specs.Prelude.{map}
use Rattle.spec_run.specs.Leaf.{Rule}
use Rattle.run_driver.specs.declared.row.ReadyRow.{ReadyRow}
use Rattle.run_driver.specs.Ready.{ready_number, ready_way}

abbrev pub rule : ReadyRow → Rule
rule row = record { way = ready_way row.sort; sets = row.sets; outs = map ready_number row.outs }
