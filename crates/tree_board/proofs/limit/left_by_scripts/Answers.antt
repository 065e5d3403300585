use Rattle.std.proofs.lemmas.Option.{IfSome_then}
use Rattle.spec_tree.specs.Boards.{given}
use Rattle.tree_board.proofs.NameCounts.{AreLeft, AreLeft-more}
use Rattle.tree_board.proofs.limit.left_by_scripts.Goals as goal

pub returns : goal.returns
returns c =
    let guards = c.args.guards.now in
    let h1 : AreLeft (given c.args.code.now) c.args.left c.in_ok-left.left = record { fits = c.in_ok-left.ensures } in
    let h2 = AreLeft-more h1 (given guards.failure_if) c.in_ok-left-2.left c.in_ok-left-2.ensures in
    let h3 = AreLeft-more h2 (given guards.success_if) c.in_ok-left-3.left c.in_ok-left-3.ensures in
    let h4 = AreLeft-more h3 (given guards.skip_if) c.in_ok-left-4.left c.in_ok-left-4.ensures in
    let h5 = AreLeft-more h4 (given guards.while_true) c.in_ok-left-5.left c.in_ok-left-5.ensures in
    let h6 = AreLeft-more h5 (given guards.on_success) c.in_ok-left-6.left c.in_ok-left-6.ensures in
    let h7 = AreLeft-more h6 (given guards.on_failure) c.in_ok-left-7.left c.in_ok-left-7.ensures in
    let h8 = AreLeft-more h7 (given guards.post) c.in_ok-left-8.left c.in_ok-left-8.ensures in
    IfSome_then c.left_by_script-9.result c.left_by_script-9.ensures (λ rest last. (AreLeft-more h8 (given guards.on_halted) rest last).fits)
