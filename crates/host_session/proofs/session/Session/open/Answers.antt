use Rattle.std.proofs.Common.{◌≡◌, false, arith}
use Rattle.std.proofs.lemmas.Bool.Decides.{nat_tests}
use Rattle.std.specs.Option.{option_copied}
use Rattle.spec_program.specs.Gives.{is_too_long}
use Rattle.host_session.proofs.Files.{tree_opens}
use Rattle.host_session.proofs.session.Session.open.Goals as goal

pub returns-in-Ok : goal.returns-in-Ok
returns-in-Ok c =
    let short : is_too_long c.args.tree.now ≡ false = grind (arith, nat_tests) in
    let short_world : is_too_long c.args.world.now ≡ false = grind (arith, nat_tests) in
    tree_opens (option_copied c.args.main) c.args.tree.now c.args.world.now c.in-Ok.tree c.open_world.result short short_world c.in-Ok.ensures.reads c.open_world.ensures
