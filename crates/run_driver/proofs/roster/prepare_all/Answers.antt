use Rattle.std.proofs.Common.{take}
use Rattle.run_driver.proofs.Preparing.{next_prepared, next_quiet, next_refused, on_err, quiet_of}
use Rattle.run_driver.proofs.roster.prepare_all.Goals as goal

pub prepare_one-requires : goal.prepare_one-requires
prepare_one-requires g c =
    next_quiet _ c.loop-place.roster.items _ c.args.counts.now c.loop-place.place c.index_mut.result.now
    c.loop-place.invariant c.index_mut.ensures.value c.loop-place-test.true c.requires.counts c.requires.quiet

pub returns-in_err-prepare_one-clause-err : goal.returns-in_err-prepare_one-clause-err
returns-in_err-prepare_one-clause-err g c =
    on_err c.from_residual.result (
      c.loop-place.place,
      next_refused _ c.loop-place.roster.items _ c.args.counts.now c.loop-place.place c.index_mut.result.now
          c.loop-place.invariant c.index_mut.ensures.value c.loop-place-test.true c.requires.counts c.prepare_one.new.driver c.in_err-prepare_one.ensures.err,
    )

pub returns-in_err-prepare_one-clause-quiet : goal.returns-in_err-prepare_one-clause-quiet
returns-in_err-prepare_one-clause-quiet g c =
    quiet_of _ _ (take c.loop-place.place c.args.counts.now)
    (next_refused _ c.loop-place.roster.items _ c.args.counts.now c.loop-place.place c.index_mut.result.now
    c.loop-place.invariant c.index_mut.ensures.value c.loop-place-test.true c.requires.counts c.prepare_one.new.driver c.in_err-prepare_one.ensures.err)
    c.requires.quiet

pub loop-place-preserved : goal.loop-place-preserved
loop-place-preserved g c =
    next_prepared _ c.loop-place.roster.items _ c.args.counts.now c.loop-place.place c.index_mut.result.now
    c.loop-place.invariant c.index_mut.ensures.value c.loop-place-test.true c.requires.counts c.prepare_one.new.driver c.in_ok-prepare_one.ensures.ok

pub returns-clause-quiet : goal.returns-clause-quiet
returns-clause-quiet g c = quiet_of _ _ (take c.loop-place.place c.args.counts.now) c.loop-place.invariant c.requires.quiet
