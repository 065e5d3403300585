use Rattle.std.proofs.Common.{take, ◌∙◌}
use Rattle.run_driver.proofs.Preparing.{quiet_of}
use Rattle.host_session.proofs.five.FiveDrivers.prepare.Goals as goal

pub prepare_one-requires-clause-quiet : goal.prepare_one-requires-clause-quiet
prepare_one-requires-clause-quiet c =
    quiet_of _ _ (take c.loop-place.place c.args.counts.now) c.loop-place.invariant c.requires.quiet c.loop-place.place

pub returns-in_err-prepare_one-clause-quiet : goal.returns-in_err-prepare_one-clause-quiet
returns-in_err-prepare_one-clause-quiet c =
    quiet_of _ _ (take c.loop-place.place c.args.counts.now) (c.in_err-prepare_one.ensures.err ∙ c.loop-place.invariant) c.requires.quiet

pub returns-clause-quiet : goal.returns-clause-quiet
returns-clause-quiet c = quiet_of _ _ (take c.loop-place.place c.args.counts.now) c.loop-place.invariant c.requires.quiet
