use Rattle.std.proofs.Common.{length, refl, ◌∙◌}
use Rattle.std.proofs.lemmas.Result.{err_from_is_err_and}
use Rattle.cli_serve.proofs.Left.{event_can_end, has_names, has_places}
use Rattle.cli_serve.proofs.Saying.{event_kept, make_goes_on, make_over, make_stopped}
use Rattle.cli_serve.specs.Serving.{sink}
use Rattle.cli_serve.proofs.serving.Serving.make.Goals as goal

pub show-requires-clause-places : goal.show-requires-clause-places
show-requires-clause-places g c =
    let kept = event_kept c.args.self.now.session c.event-made.new.self c.args.event c.event-made.result c.event-made.ensures in
    has_places c.args.self.now.session c.event-made.new.self (length c.args.self.now.starts.places.items) (length c.args.self.now.starts.places.items)
    kept.0 refl c.requires.ready.goes_on.places

pub show-requires-clause-names : goal.show-requires-clause-names
show-requires-clause-names g c =
    let kept = event_kept c.args.self.now.session c.event-made.new.self c.args.event c.event-made.result c.event-made.ensures in
    has_names c.args.self.now.session c.event-made.new.self c.args.self.now.names c.args.self.now.names kept.0 kept.1 refl c.requires.ready.goes_on.names

pub returns-in_err-show-clause-over : goal.returns-in_err-show-clause-over
returns-in_err-show-clause-over g c =
    let p = err_from_is_err_and c.from_residual.result c.from_residual.ensures.1 in
    let out = g.K.Sink in
    rw (p.1, p.2) (make_stopped c.args.self.now.session c.event-made.new.self c.show.new.self.session c.args.event c.event-made.result c.in_err-show.field-0.0
    c.args.self.now.reading (sink (out.written c.args.out.now) (out.handed c.args.out.now) (out.faults c.args.out.now)) (sink (out.written c.show.new.out) (out.handed c.show.new.out) (out.faults c.show.new.out))
    c.event-made.ensures c.in_err-show.ensures.shows c.show.ensures.kept.0)

pub returns-in_err-show-clause-left : goal.returns-in_err-show-clause-left
returns-in_err-show-clause-left g c =
    let p = err_from_is_err_and c.from_residual.result c.from_residual.ensures.1 in
    let out = g.K.Sink in
    rw (p.1, p.2) (event_can_end c.in_err-show.field-0.0 c.args.self.now c.show.new.self c.event-made.new.self c.args.event c.event-made.result
    (sink (out.written c.args.out.now) (out.handed c.args.out.now) (out.faults c.args.out.now)) (sink (out.written c.show.new.out) (out.handed c.show.new.out) (out.faults c.show.new.out))
    c.requires.ready.goes_on c.event-made.ensures c.in_err-show.ensures.shows c.show.ensures.kept.0 c.show.ensures.names c.show.ensures.places)

pub returns-clause-goes_on : goal.returns-clause-goes_on
returns-clause-goes_on g c =
    let out = g.K.Sink in
    make_goes_on c.args.self.now.session c.event-made.new.self c.say_ok.new.self.session c.args.event c.event-made.result c.say_ok.result c.args.self.now.reading
    (sink (out.written c.args.out.now) (out.handed c.args.out.now) (out.faults c.args.out.now)) (sink (out.written c.show.new.out) (out.handed c.show.new.out) (out.faults c.show.new.out))
    (sink (out.written c.say_ok.new.out) (out.handed c.say_ok.new.out) (out.faults c.say_ok.new.out))
    c.event-made.ensures c.in_ok-show.ensures.shows c.say_ok.ensures.says (c.say_ok.ensures.kept.0 ∙ c.show.ensures.kept.0)

pub returns-clause-over : goal.returns-clause-over
returns-clause-over g c =
    let out = g.K.Sink in
    make_over c.args.self.now.session c.event-made.new.self c.say_ok.new.self.session c.args.event c.event-made.result c.say_ok.result c.args.self.now.reading
    (sink (out.written c.args.out.now) (out.handed c.args.out.now) (out.faults c.args.out.now)) (sink (out.written c.show.new.out) (out.handed c.show.new.out) (out.faults c.show.new.out))
    (sink (out.written c.say_ok.new.out) (out.handed c.say_ok.new.out) (out.faults c.say_ok.new.out))
    c.event-made.ensures c.in_ok-show.ensures.shows c.show.ensures.count c.say_ok.ensures.says (c.say_ok.ensures.kept.0 ∙ c.show.ensures.kept.0)
