use Rattle.std.proofs.Common.{◌≡◌, false, arith}
use Rattle.std.specs.Option.{option_copied}
use Rattle.std.proofs.lemmas.Bool.Decides.{nat_tests}
use Rattle.spec_program.specs.Gives.{is_too_long}
use Rattle.host_library.proofs.Opened.{read_told}
use Rattle.host_library.proofs.opening.open_told.Goals as goal

pub returns-in-Ok : goal.returns-in-Ok
returns-in-Ok c =
    let short : is_too_long c.args.bytes.now ≡ false = grind (arith, nat_tests) in
    read_told (option_copied c.args.main) c.args.bytes.now c.in-Ok.tree c.session_told.result short c.in-Ok.ensures.reads c.session_told.ensures
