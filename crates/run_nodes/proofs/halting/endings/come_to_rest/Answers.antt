use Rattle.std.proofs.Common.{slice_set, ◌∙◌}
use Rattle.spec_run.specs.declared.status.Status.TheVariants.{Idle}
use Rattle.run_arena.specs.Nodes.{kept_at}
use Rattle.run_arena.specs.Scenes.{scene}
use Rattle.run_nodes.proofs.halting.endings.come_to_rest.Goals as goal

pub returns-clause-ok : goal.returns-clause-ok
returns-clause-ok g c =
    let before = c.args.stage.now in
    let kept = c.keep.ensures ∙ (λ i. slice_set before.kept.now c.args.uid (record { status = Idle; memo = c.cleared_memo.ensures i; held = (kept_at before.kept.now c.args.uid).held })) in
    λ i. scene (kept i) before.board.now before.facts.now (g.D.Drivers.states before.drivers.now)
