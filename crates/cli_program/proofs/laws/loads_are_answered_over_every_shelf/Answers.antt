use Rattle.cli_program.proofs.Loads.{load_begun, load_each, load_whole}
use Rattle.cli_program.proofs.laws.loads_are_answered_over_every_shelf.Goals as goal

pub returns-clause-whole : goal.returns-clause-whole
returns-clause-whole g c = λ leaves holds result old new answered.
    load_whole g.S.Shelf.read_gives leaves _ c.args.before.now c.args.after.now result old new (g.S.Shelf.holds c.args.before.now) holds answered

pub returns-clause-each : goal.returns-clause-each
returns-clause-each g c = λ leaves holds result old new answered.
    load_each g.S.Shelf.read_gives leaves _ c.args.before.now c.args.after.now result old new (g.S.Shelf.holds c.args.before.now) holds answered
    (record { element = c.one_element.ensures; fault = c.element_or_fault.ensures.once; not_both = c.element_or_fault.ensures.not_both; world = c.worlds_read_one_way.ensures; expect = c.expectations_read_one_way.ensures; plan = c.plans_run_one_way.ensures }) c.plan_cuts_begin_within.ensures

pub returns-clause-begun : goal.returns-clause-begun
returns-clause-begun g c = λ leaves holds result old new answered.
    load_begun g.S.Shelf.read_gives leaves _ c.args.before.now c.args.after.now result old new (g.S.Shelf.holds c.args.before.now) holds answered
    (record { element = c.one_element.ensures; fault = c.element_or_fault.ensures.once; not_both = c.element_or_fault.ensures.not_both; world = c.worlds_read_one_way.ensures; expect = c.expectations_read_one_way.ensures; plan = c.plans_run_one_way.ensures }) c.plan_cuts_begin_within.ensures
