use Rattle.std.proofs.Common.{length, ap, ◌∙◌}
use Rattle.spec_run.specs.declared.leaf.Phase.TheVariants as phase
use Rattle.base_tables.specs.DriverCalls.{instance_at, kind_of_way}
use Rattle.run_driver.specs.Rules.{rule}
use Rattle.base_tables.proofs.Calls.{as_many_facts}
use Rattle.test_leaves.proofs.AtWork.{begun}
use Rattle.test_leaves.proofs.leaves.begin.Goals as goal

pub returns-clause-work : goal.returns-clause-work
returns-clause-work g c =
    let stage = c.args.stage.now in
    begun (g.D.Drivers.states c.args.drivers.now) stage.place (kind_of_way (rule stage.row).way) stage.since.items c.requires.work c.args.instance c.requires.there
    (rule stage.row) stage.inputs stage.facts c.args.now c.call-reply.result _ c.since_after.result
    c.requires.free c.call-reply.ensures.reply c.call-reply.ensures.states c.since_after.ensures

pub returns-clause-table : goal.returns-clause-table
returns-clause-table g c =
    let stage = c.args.stage.now in
    ap length c.call-reply.ensures.facts
    ∙ as_many_facts (rule stage.row) phase.Start (instance_at (g.D.Drivers.states c.args.drivers.now) stage.place c.args.instance) stage.inputs stage.facts c.args.now
    ∙ c.requires.table
