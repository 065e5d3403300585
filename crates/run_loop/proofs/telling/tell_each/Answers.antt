use Rattle.std.proofs.Common.{◌+◌, pos, refl}
use Rattle.spec_run.specs.Run.{changed_from}
use Rattle.run_loop.specs.Telling.{with_fact}
use Rattle.run_loop.proofs.Told.{alike_next, changes_next, differ_next}
use Rattle.run_loop.proofs.telling.tell_each.Goals as goal

pub loop-place-preserved : goal.loop-place-preserved
loop-place-preserved c =
    let l = c.loop-place in
    let first = c.args.first in (
      differ_next (λ k. changed_from (first + k)) (λ k. with_fact (first + k)) (changes_next first) c.args.told.now c.args.facts.now l.place c.loop-place-test.true c.requires.same
          l.changes.items c.tell_fact.new.changes.items _ l.told _ (pos 0) _ (pos 0) refl refl l.invariant.1 l.invariant.0 c.in_ok-tell_fact.ensures.changes,
      alike_next (λ k. changed_from (first + k)) (λ k. with_fact (first + k)) (changes_next first) c.args.told.now c.args.facts.now l.place c.loop-place-test.true c.requires.same
          l.changes.items c.tell_fact.new.changes.items c.args.changes.now.items l.told _ (pos 0) _ (pos 0) refl refl l.invariant.1 _ c.in_ok-tell_fact.ensures.told,
    )
