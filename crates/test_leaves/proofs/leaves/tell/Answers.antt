use Rattle.std.proofs.Common.{arith}
use Rattle.base_tables.specs.DriverCalls.{kind_of_way}
use Rattle.run_driver.specs.Rules.{rule}
use Rattle.test_leaves.proofs.AtWork.{told_there}
use Rattle.test_leaves.proofs.leaves.tell.Goals as goal

pub returns-in-Sensed : goal.returns-in-Sensed
returns-in-Sensed g c =
    let stage = c.args.stage.now in
    told_there (g.D.Drivers.states c.args.drivers.now) stage.place (kind_of_way (rule stage.row).way) stage.since.items c.requires c.args.instance
    (omega (arith, c.if-instance-len.false, c.len.ensures)) c.args.telling _ c.tell.ensures
