use Rattle.run_arena.specs.Scenes.{scene}
use Rattle.run_nodes.proofs.halting.resetting.become_idle.Goals as goal

pub returns-clause-ok : goal.returns-clause-ok
returns-clause-ok g c =
    let before = c.args.stage.now in
    λ i. scene (c.set_status.ensures i) before.board.now before.facts.now (g.D.Drivers.states before.drivers.now)
