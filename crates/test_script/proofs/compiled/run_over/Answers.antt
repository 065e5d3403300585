use Rattle.std.proofs.Common.{rules, ◌≡◌, ◌<◌, ◌≤◌, IsTrue, arith}
use Rattle.std.proofs.lemmas.Grind.{common_steps}
use Rattle.script_code.proofs.Numbered.{all_below}
use Rattle.test_script.proofs.compiled.run_over.Goals as goal

pub exec-requires : goal.exec-requires
exec-requires g c =
    let below : IsTrue c.table_fits.result = search rules in
    let least = all_below c.as_slice.result.now c.len-size.result (c.table_fits.ensures below) in
    grind (arith, common_steps)
