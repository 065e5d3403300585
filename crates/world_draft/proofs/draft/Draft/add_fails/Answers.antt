use Rattle.world_draft.specs.Drafts.{row_of}
use Rattle.world_draft.proofs.AddedFails.{measured_fails, timed_fails}
use Rattle.world_draft.proofs.draft.Draft.add_fails.Goals as goal

pub returns-in-Timed-clause-added : goal.returns-in-Timed-clause-added
returns-in-Timed-clause-added c =
    timed_fails _ _ _ _ (row_of c.args.self.now) c.args.facts.now _ c.args.expr c.in-Timed.is c.knows_all-known.ensures c.set_fails.ensures

pub returns-in-TimedBy-clause-added : goal.returns-in-TimedBy-clause-added
returns-in-TimedBy-clause-added c =
    measured_fails _ _ _ _ (row_of c.args.self.now) c.args.facts.now _ c.args.expr c.in-TimedBy.is c.knows_all-known.ensures c.set_fails-in-TimedBy.ensures
