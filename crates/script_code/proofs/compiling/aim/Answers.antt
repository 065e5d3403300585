use Rattle.std.proofs.Common.{◌≡◌, ◌∙◌, ◌-◌, length, ap, arith}
use Rattle.std.specs.Prelude.{slice_set}
use Rattle.std.proofs.lemmas.Grind.{common_steps}
use Rattle.script_code.specs.declared.instr.Instr.TheVariants.{Unless, Skip}
use Rattle.script_code.proofs.Patches.{patch_choice}
use Rattle.script_code.proofs.compiling.aim.Goals as goal

pub returns : goal.returns
returns c = λ front b other at_test at_end is.
    let long : c.len.result ≡ length c.args.code.now.items = grind (arith, common_steps) in
    ap (λ n. slice_set (slice_set c.args.code.now.items c.args.test (Unless (c.args.end - c.args.test))) c.args.end (Skip (n - c.args.end - 1))) long
    ∙ patch_choice c.args.code.now.items front b other c.args.test c.args.end at_test at_end is
