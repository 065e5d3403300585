use Rattle.std.proofs.Common.{◌≡◌, [], ap, ◌∙◌, arith, take}
use Rattle.std.proofs.lemmas.Grind.{common_steps}
use Rattle.std.proofs.lemmas.List.{take_all}
use Rattle.std.specs.List.{flat_map}
use Rattle.std.specs.Str.{bytes_eq}
use Rattle.indexmap.specs.IndexSet.{insert_all}
use Rattle.spec_script.specs.Scripts.{stmt_names}
use Rattle.tree_board.proofs.Named.{inserted_once}
use Rattle.tree_board.proofs.naming.name_script.Goals as goal

-- the names of the script, each once
pub returns-after-loop-name : goal.returns-after-loop-name
returns-after-loop-name c =
    let keys = c.args.keys.now in
    let items = c.names-name-items.result.now in
    let all : take c.loop-name.name-index items ≡ items = take_all c.loop-name.name-index items (omega (arith, c.loop-name-test.false)) in
    let names = flat_map stmt_names c.get.result.now.stmts in
    c.loop-name.invariant
    ∙ ap (insert_all bytes_eq keys) (all ∙ c.names-name-items.ensures)
    ∙ inserted_once keys [] names
    ∙ grind (arith, common_steps, c.get.ensures, c.in-Some.is)
