use Rattle.std.proofs.Common.{ap, rules}
use Rattle.spec_program.specs.Words.{command_of}
use Rattle.cli_commands.proofs.AnyBytes.{any_bytes}
use Rattle.cli_program.proofs.Clauses.{begun_of, each_of, planned_of, whole_of}
use Rattle.cli_program.proofs.LentBack.{answered_as, roster_as, side_as}
use Rattle.cli_program.proofs.Ranges.{command_fits}
use Rattle.cli_program.proofs.headline.bt.Goals as goal

pub returns-clause-reads : goal.returns-clause-reads
returns-clause-reads g c =
    rw (← c.replace.ensures.value)
    (answered_as g.S.Shelf.read_gives (g.S.Shelf.holds c.args.shelf.now) (command_of c.args.words.now) g.S.Shelf.faults c.args.shelf.now c.answer_words-exit.result _
    (search rules)
    (side_as (ap g.K.Sink.written (search rules)) (ap g.K.Sink.faults (search rules)) (ap g.C.Clock.moments (search rules)) (search rules))
    c.answer_words-exit.ensures.reads)

pub returns-clause-whole : goal.returns-clause-whole
returns-clause-whole g c = whole_of _ _ _ _ _ _ _ (any_bytes g.S.Shelf.read_gives (g.S.Shelf.holds c.args.shelf.now) _ _ _ _ _ _ _ (returns-clause-reads g c))

pub returns-clause-each : goal.returns-clause-each
returns-clause-each g c = each_of _ _ _ _ _ _ (record { element = c.one_element.ensures; fault = c.element_or_fault.ensures.once; not_both = c.element_or_fault.ensures.not_both; world = c.worlds_read_one_way.ensures; expect = c.expectations_read_one_way.ensures; plan = c.plans_run_one_way.ensures }) c.plan_cuts_begin_within.ensures _ (any_bytes g.S.Shelf.read_gives (g.S.Shelf.holds c.args.shelf.now) _ _ _ _ _ _ _ (returns-clause-reads g c))

pub returns-clause-begun : goal.returns-clause-begun
returns-clause-begun g c = begun_of _ _ _ _ _ _ (record { element = c.one_element.ensures; fault = c.element_or_fault.ensures.once; not_both = c.element_or_fault.ensures.not_both; world = c.worlds_read_one_way.ensures; expect = c.expectations_read_one_way.ensures; plan = c.plans_run_one_way.ensures }) c.plan_cuts_begin_within.ensures _ (any_bytes g.S.Shelf.read_gives (g.S.Shelf.holds c.args.shelf.now) _ _ _ _ _ _ _ (returns-clause-reads g c))

pub returns-clause-roster : goal.returns-clause-roster
returns-clause-roster g c = rw (← c.replace.ensures.value) (roster_as _ (search rules) c.answer_words-exit.ensures.stays.kept.same)

pub returns-clause-planned : goal.returns-clause-planned
returns-clause-planned g c = rw (← c.replace.ensures.value) (λ read. planned_of _ _ _ (λ _. Unit {0}) _ _ (record { reach = c.plans_reach.ensures; join = c.planned_trees_join.ensures; named = c.steps_are_named_plainly.ensures; short = c.plans_are_short.ensures; read = c.printed_trees_read_back_after_comments.ensures.lone }) _ (command_fits c.args.words.now) read.end read.answered)
