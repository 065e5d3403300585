use Rattle.std.proofs.Common.{sym, subst}
use Rattle.std.specs.Prelude.{IfOk}
use Rattle.run_loop.specs.Opening.{AreOpening, AreOpeningRuns, IsOpening}
use Rattle.run_loop.proofs.Growing.{opening_alone}
use Rattle.run_loop.proofs.openings.planned_runs.Goals as goal

pub returns : goal.returns
returns g c =
    let tree = c.args.tree.now in
    let world = c.args.world.now in
    let drivers = g.D.Drivers.states c.args.drivers.now in
    let is : IsOpening tree world drivers 1 (record { arena = c.in_ok-arena.arena; board = c.in_ok-board.board }) = record { arena = c.in_ok-arena.ensures; board = c.in_ok-board.ensures.board } in
    let are = opening_alone tree world drivers _ _ _ c.new-runners.ensures.items is c.in_ok-push.ensures.items in
    let there = subst (λ w. AreOpening tree w drivers c.push.new.self.items) (sym c.world.ensures) are in
    subst (λ w. IfOk c.runs_with.result (AreOpeningRuns tree w drivers)) c.world.ensures (c.runs_with.ensures tree drivers there)
