use Rattle.std.proofs.Common.{◌∙◌, ◌+◌, ap, arith, refl}
use Rattle.std.proofs.lemmas.Result.{err_from_is_err_and}
use Rattle.cli_serve.proofs.Finishing.{all_over, all_part, finish_next, finished_all, finished_more, finished_none, finished_over, place_leaves}
use Rattle.cli_serve.proofs.Left.{can_go_on}
use Rattle.cli_serve.specs.Serving.{sink}
use Rattle.spec_session.specs.Sessions.{Sitting}
use Rattle.spec_world.specs.declared.world.World.{World}
use Rattle.cli_serve.proofs.serving.Serving.finish.Goals as goal

pub loop-place-init : goal.loop-place-init
loop-place-init g c =
    let out = g.K.Sink in
    record {
      goes_on = c.requires.ready;
      world = refl;
      end = ap (λ (w : World). w.runners) c.world.ensures;
      done = λ exit. finished_none c.world.result.now.runners exit c.args.self.now.session (sink (out.written c.args.out.now) (out.handed c.args.out.now) (out.faults c.args.out.now));
      count = omega arith;
    }

pub returns-in_err-show-clause-over : goal.returns-in_err-show-clause-over
returns-in_err-show-clause-over g c =
    let p = err_from_is_err_and c.from_residual.result c.from_residual.ensures.1 in
    let out = g.K.Sink in
    let first = c.args.self.now.session in
    let s = c.loop-place.self.session in
    let runners = c.world.result.now.runners in
    let place = c.loop-place.place in
    let leaves = place_leaves first s c.finish-made.new.self runners place c.finish-made.result c.loop-place.invariant.goes_on.usable
    c.loop-place.invariant.world c.loop-place.invariant.end c.loop-place-test.true c.finish-made.ensures in
    rw (p.1, p.2) (λ exit. all_over c.in_err-show.field-0.0 runners exit first (sink (out.written c.args.out.now) (out.handed c.args.out.now) (out.faults c.args.out.now)) (sink (out.written c.show.new.out) (out.handed c.show.new.out) (out.faults c.show.new.out)) c.loop-place.invariant.end
    (finished_over runners place exit first s c.finish-made.new.self c.finish-made.result c.in_err-show.field-0.0 (sink (out.written c.args.out.now) (out.handed c.args.out.now) (out.faults c.args.out.now))
    (sink (out.written c.loop-place.out) (out.handed c.loop-place.out) (out.faults c.loop-place.out)) (sink (out.written c.show.new.out) (out.handed c.show.new.out) (out.faults c.show.new.out))
    c.loop-place-test.true (c.loop-place.invariant.done exit) c.loop-place.invariant.count leaves c.in_err-show.ensures.shows))

pub loop-place-preserved : goal.loop-place-preserved
loop-place-preserved g c =
    let out = g.K.Sink in
    let first = c.args.self.now.session in
    let s = c.loop-place.self.session in
    let runners = c.world.result.now.runners in
    let place = c.loop-place.place in
    let leaves = place_leaves first s c.finish-made.new.self runners place c.finish-made.result c.loop-place.invariant.goes_on.usable
    c.loop-place.invariant.world c.loop-place.invariant.end c.loop-place-test.true c.finish-made.ensures in
    let next = finish_next s c.finish-made.new.self (place + 1) c.finish-made.result (sink (out.written c.loop-place.out) (out.handed c.loop-place.out) (out.faults c.loop-place.out)) (sink (out.written c.show.new.out) (out.handed c.show.new.out) (out.faults c.show.new.out)) leaves c.in_ok-show.ensures.shows in
    let kept = c.show.ensures.kept.0 in
    record {
      goes_on = can_go_on c.loop-place.self c.show.new.self c.loop-place.invariant.goes_on (ap (λ (z : Sitting). z.usable) kept ∙ next.0)
          (ap (λ (z : Sitting). z.tree) kept ∙ next.1) (ap (λ (z : Sitting). z.world) kept ∙ next.2) c.show.ensures.names c.show.ensures.places;
      world = ap (λ (z : Sitting). z.world) kept ∙ next.2 ∙ c.loop-place.invariant.world;
      end = c.loop-place.invariant.end;
      done = λ exit. rw c.show.ensures.kept.0 (finished_more runners place exit first s c.finish-made.new.self c.finish-made.result (sink (out.written c.args.out.now) (out.handed c.args.out.now) (out.faults c.args.out.now))
          (sink (out.written c.loop-place.out) (out.handed c.loop-place.out) (out.faults c.loop-place.out)) (sink (out.written c.show.new.out) (out.handed c.show.new.out) (out.faults c.show.new.out))
          c.loop-place-test.true (c.loop-place.invariant.done exit) leaves c.in_ok-show.ensures.shows);
      count = omega arith;
    }

pub returns-clause-whole : goal.returns-clause-whole
returns-clause-whole g c =
    let out = g.K.Sink in
    let runners = c.world.result.now.runners in
    λ exit. all_part runners exit c.args.self.now.session (sink (out.written c.args.out.now) (out.handed c.args.out.now) (out.faults c.args.out.now)) (sink (out.written c.loop-place.out) (out.handed c.loop-place.out) (out.faults c.loop-place.out)) c.loop-place.invariant.end
    (finished_all runners c.loop-place.place exit c.args.self.now.session c.loop-place.self.session (sink (out.written c.args.out.now) (out.handed c.args.out.now) (out.faults c.args.out.now))
    (sink (out.written c.loop-place.out) (out.handed c.loop-place.out) (out.faults c.loop-place.out)) c.loop-place-test.false (c.loop-place.invariant.done exit))
