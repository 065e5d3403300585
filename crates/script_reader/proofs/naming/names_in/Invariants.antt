use Rattle.std.proofs.Common.{◌≡◌, [], length, take}
use Rattle.std.specs.List.{flat_map}
use Rattle.std.specs.Str.{bytes_eq}
use Rattle.indexmap.specs.IndexSet.{insert_all}
use Rattle.spec_script.specs.Scripts.{stmt_names}
use Rattle.script_reader.proofs.naming.names_in.Given as goal

abbrev pub invariant-loop-stmt : goal.invariant-loop-stmt
invariant-loop-stmt l =
    let so_far = flat_map stmt_names (take l.stmt-index l.stmts) in
    (l.found.names.keys ≡ insert_all bytes_eq [] so_far) × (l.found.count ≡ length so_far)
