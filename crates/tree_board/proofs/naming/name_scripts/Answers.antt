use Rattle.std.proofs.lemmas.Result.{on_ok_weaker}
use Rattle.spec_tree.specs.Boards.{given}
use Rattle.tree_board.proofs.Named.{AreAdded, AreAdded-more}
use Rattle.tree_board.proofs.naming.name_scripts.Goals as goal

-- the names of the code, and then those of each guard
pub returns : goal.returns
returns c =
    let guards = c.args.guards.now in
    let h1 : AreAdded c.args.keys.now (given c.args.code.now) c.name_script.new.keys = record { is = c.in_ok-name_script.ensures } in
    let h2 = AreAdded-more h1 (given guards.failure_if) c.in_ok-name_script-2.ensures in
    let h3 = AreAdded-more h2 (given guards.success_if) c.in_ok-name_script-3.ensures in
    let h4 = AreAdded-more h3 (given guards.skip_if) c.in_ok-name_script-4.ensures in
    let h5 = AreAdded-more h4 (given guards.while_true) c.in_ok-name_script-5.ensures in
    let h6 = AreAdded-more h5 (given guards.on_success) c.in_ok-name_script-6.ensures in
    let h7 = AreAdded-more h6 (given guards.on_failure) c.in_ok-name_script-7.ensures in
    let h8 = AreAdded-more h7 (given guards.post) c.in_ok-name_script-8.ensures in
    on_ok_weaker c.name_script-9.result (λ last. (AreAdded-more h8 (given guards.on_halted) last).is) c.name_script-9.ensures
