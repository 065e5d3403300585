use Rattle.std.proofs.Common.{List, None, refl, set, sym, subst}
use Rattle.spec_run.specs.declared.leaf.Phase.TheVariants as phase
use Rattle.spec_run.specs.Drivers.{DriverState}
use Rattle.base_tables.specs.DriverCalls.{instance_at, kind_of_way}
use Rattle.spec_run.specs.Leaf as leaf
use Rattle.run_driver.specs.Rules.{rule}
use Rattle.test_leaves.specs.Stages.{IsAtWork}
use Rattle.test_leaves.proofs.AtWork.{after}
use Rattle.test_leaves.proofs.leaves.release.Goals as goal

pub returns-clause-work : goal.returns-clause-work
returns-clause-work g c =
    let stage = c.args.stage.now in
    let ds = g.D.Drivers.states c.args.drivers.now in
    let kind = kind_of_way (rule stage.row).way in
    subst (λ (drivers : List DriverState). IsAtWork drivers stage.place kind (set stage.since.items c.args.instance None)) (sym c.halted.ensures)
    (after ds stage.place kind stage.since.items c.requires.work c.args.instance phase.Halted (leaf.released (instance_at ds stage.place c.args.instance)) None refl)
