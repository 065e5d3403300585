use Rattle.std.proofs.Common.{◌≡◌, [], take}
use Rattle.std.specs.List.{flat_map}
use Rattle.std.specs.Str.{bytes_eq}
use Rattle.indexmap.specs.IndexSet.{insert_all}
use Rattle.spec_script.specs.Scripts.{stmt_names}
use Rattle.script_code.proofs.compiling.numbering_of.Given as goal

abbrev pub invariant-loop-stmt : goal.invariant-loop-stmt
invariant-loop-stmt l = l.names ≡ insert_all bytes_eq [] (flat_map stmt_names (take l.stmt-index l.stmts))
