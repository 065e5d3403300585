use Rattle.std.proofs.Common.{◌≡◌, ◌≤◌, length}
use Rattle.cli_serve.specs.Serving.{CanRead, IsPart, TakesAll, sink}
use Rattle.spec_serve.specs.Talks.{Heard, Serves}
use Rattle.cli_serve.proofs.serving.Serving.make_own.Given as goal

abbrev pub invariant-events : goal.invariant-events
invariant-events g l =
    let out = g.K.Sink in
    record {
      can_read : CanRead l.self;
      takes : TakesAll l.self.session.own l.self.session;
      reading : l.self.reading ≡ l.fn.self.reading;
      part : (heard : Heard) → IsPart (Serves l.fn.self.session.own heard l.fn.self.reading l.fn.self.session)
          (Serves l.self.session.own heard l.fn.self.reading l.self.session)
          (sink (out.written l.fn.out) (out.handed l.fn.out) (out.faults l.fn.out)) (sink (out.written l.out) (out.handed l.out) (out.faults l.out));
      count : out.faults l.fn.out ≤ out.faults l.out;
    }

abbrev pub decreases-events : goal.decreases-events
decreases-events g l = length l.self.session.own
