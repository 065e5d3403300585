use Rattle.std.proofs.Common.{◌≡◌, ◌∙◌, Err, arith, refl, ap}
use Rattle.std.proofs.lemmas.Result.{err_from_is_err_and}
use Rattle.cli_serve.proofs.Left.{can_go_on}
use Rattle.cli_serve.proofs.Own.{next_left, own_finished, own_part_more, own_part_over}
use Rattle.cli_serve.proofs.Parts.{part_none}
use Rattle.cli_serve.specs.Serving.{sink}
use Rattle.spec_serve.specs.Talks.{Serves}
use Rattle.spec_world_file.specs.WorldFile.{Reading}
use Rattle.spec_session.specs.declared.ended.Ended.TheVariants as ended
use Rattle.spec_session.specs.declared.ended.Misuse.TheVariants as misuse
use Rattle.cli_serve.proofs.serving.Serving.make_own.Goals as goal

pub events-init : goal.events-init
events-init g c =
    let out = g.K.Sink in
    let s = c.args.self.now.session in
    record {
      can_read = c.requires.ready.can_read;
      takes = c.requires.ready.own;
      reading = refl;
      part = λ heard. part_none (Serves s.own heard c.args.self.now.reading s) (Serves s.own heard c.args.self.now.reading s) (sink (out.written c.args.out.now) (out.handed c.args.out.now) (out.faults c.args.out.now)) (λ rest h. h);
      count = omega arith;
    }

pub returns-then-is_unfound-clause-whole : goal.returns-then-is_unfound-clause-whole
returns-then-is_unfound-clause-whole g c =
    let out = g.K.Sink in
    let first = c.args.self.now in
    let s = c.events.self.session in
    let none : c.own_event-made.result ≡ Err (ended.Misused misuse.NoEvent) = c.is_unfound.ensures.unfound c.if-is_unfound.true in
    λ heard. own_finished s.own s c.own_event-made.new.self (Serves first.session.own heard first.reading first.session) heard first.reading
    (sink (out.written c.args.out.now) (out.handed c.args.out.now) (out.faults c.args.out.now))
    (sink (out.written c.events.out) (out.handed c.events.out) (out.faults c.events.out))
    c.events.invariant.takes (rw none at c.own_event-made.ensures) (c.events.invariant.part heard)

pub events-preserved : goal.events-preserved
events-preserved g c =
    let out = g.K.Sink in
    let first = c.args.self.now in
    let s = c.events.self.session in
    let old = sink (out.written c.args.out.now) (out.handed c.args.out.now) (out.faults c.args.out.now) in
    let mid = sink (out.written c.events.out) (out.handed c.events.out) (out.faults c.events.out) in
    let new = sink (out.written c.show.new.out) (out.handed c.show.new.out) (out.faults c.show.new.out) in
    let kept = c.show.ensures.kept in
    let next = next_left s.own s c.own_event-made.new.self c.show.new.self.session c.own_event-made.result mid new c.events.invariant.takes
    c.own_event-made.ensures c.in_ok-show.ensures.shows kept.0 in
    record {
      can_read = record {
        goes_on = can_go_on c.events.self c.show.new.self c.events.invariant.can_read.goes_on next.usable next.tree next.world c.show.ensures.names c.show.ensures.places;
        events = ap (λ (r : Reading). r.events) kept.1 ∙ c.events.invariant.can_read.events;
      };
      takes = next.takes;
      reading = kept.1 ∙ c.events.invariant.reading;
      part = λ heard. own_part_more s.own s c.own_event-made.new.self c.show.new.self.session c.own_event-made.result
          (Serves first.session.own heard first.reading first.session) heard first.reading old mid new c.events.invariant.takes
          c.own_event-made.ensures c.in_ok-show.ensures.shows (c.events.invariant.part heard) kept.0;
      count = omega arith;
    }

pub returns-in_err-show-clause-over : goal.returns-in_err-show-clause-over
returns-in_err-show-clause-over g c =
    let p = err_from_is_err_and c.from_residual.result c.from_residual.ensures.1 in
    let out = g.K.Sink in
    let first = c.args.self.now in
    let s = c.events.self.session in
    let old = sink (out.written c.args.out.now) (out.handed c.args.out.now) (out.faults c.args.out.now) in
    let mid = sink (out.written c.events.out) (out.handed c.events.out) (out.faults c.events.out) in
    let new = sink (out.written c.show.new.out) (out.handed c.show.new.out) (out.faults c.show.new.out) in
    rw (p.1, p.2) (λ heard unread. own_part_over s.own s c.own_event-made.new.self c.show.new.self.session c.own_event-made.result
    c.in_err-show.field-0.0 (Serves first.session.own heard first.reading first.session) heard first.reading old mid new c.events.invariant.takes
    c.own_event-made.ensures (c.is_unfound.ensures.found c.if-is_unfound.false) c.in_err-show.ensures.shows unread (c.events.invariant.part heard)
    c.events.invariant.count c.show.ensures.kept.0)
