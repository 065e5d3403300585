use Rattle.std.proofs.Common.{◌≡◌, ◌∙◌, [], ap, refl, rules, Err}
use Rattle.std.proofs.lemmas.Result.{err_from_is_err_and}
use Rattle.run_loop.specs.Runs.{arenas_of}
use Rattle.spec_run.specs.Run.{Trace}
use Rattle.spec_world.specs.declared.world.World.{World}
use Rattle.text_trace.specs.Traces.{trace_of}
use Rattle.text_trace.proofs.Cuts.{cut_here}
use Rattle.cli_answers.proofs.AboutCourses.Expecting.{expected_gave, expected_stopped, no_lines}
use Rattle.cli_answers.proofs.AboutCourses.Runs.{all_come}
use Rattle.base_outside.proofs.Writings.{Writes-none, Writes-stopped, lines-equal}
use Rattle.cli_answers.proofs.AboutCourses.FaultLines.{told_lines}
use Rattle.cli_answers.proofs.courses.expecting.run_watched.Goals as goal

pub returns-in_err-watching-clause-gave : goal.returns-in_err-watching-clause-gave
returns-in_err-watching-clause-gave g c =
    let p = err_from_is_err_and c.from_residual.result c.from_residual.ensures.1 in
    let q = c.requires.1.1.1.1 in
    let of = g.wanted.of in
    let before = g.D.Drivers.states c.args.outside.now.drivers.now in
    let written = g.K.Sink.written c.args.outside.now.out.now in
    let faults = g.K.Sink.faults c.args.outside.now.out.now in
    let trace : Trace = trace_of of before c.args.runs of.world.events in
    rw (p.1, p.2) (no_lines of c.args.runs before before q.1.1.1.1.1.1.0 g.wanted.expected of.world.events refl written written faults faults (g.C.Clock.moments c.args.outside.now.clock.now)
    (cut_here (arenas_of c.args.runs) before before trace trace [] refl refl))

pub run_expected-requires : goal.run_expected-requires
run_expected-requires g c κs within =
    let q = c.requires.1.1.1.1 in
    let before = g.D.Drivers.states c.args.outside.now.drivers.now in
    let events = c.list-events.result.now in
    let listed : events ≡ g.wanted.of.world.events = c.list-events.ensures ∙ ap (λ (w : World). w.events) q.1.1.0 in (
      search rules,
      (
        rw (q.0, q.1.0, q.1.1.0) at c.in_ok-watching.ensures,
        (q.1.1.1.0, (q.1.1.1.1.1.0, all_come g.wanted.of before c.args.runs events q.1.1.1.1.1.0 q.1.1.1.1.1.1.0 listed q.1.1.1.1.1.1.1)),
      ),
    )

pub returns-in_err-lines-clause-gave : goal.returns-in_err-lines-clause-gave
returns-in_err-lines-clause-gave g c =
    let p = err_from_is_err_and c.from_residual-in_err-lines.result c.from_residual-in_err-lines.ensures.1 in
    let q = c.requires.1.1.1.1 in
    let events = c.list-events.result.now in
    let listed : events ≡ g.wanted.of.world.events = c.list-events.ensures ∙ ap (λ (w : World). w.events) q.1.1.0 in
    let written = g.K.Sink.written c.args.outside.now.out.now in
    let faults = g.K.Sink.faults c.args.outside.now.out.now in
    rw (p.1, p.2) (no_lines g.wanted.of c.args.runs (g.D.Drivers.states c.args.outside.now.drivers.now) (g.D.Drivers.states c.run_expected.new.drivers) q.1.1.1.1.1.1.0 g.wanted.expected events listed
    written written faults faults (g.C.Clock.moments c.args.outside.now.clock.now) c.in_err-lines.ensures.cut)

pub returns-in_err-write_line-clause-gave : goal.returns-in_err-write_line-clause-gave
returns-in_err-write_line-clause-gave g c =
    let p = err_from_is_err_and c.from_residual-in_err-write_line.result c.from_residual-in_err-write_line.ensures.1 in
    let q = c.requires.1.1.1.1 in
    let events = c.list-events.result.now in
    let listed : events ≡ g.wanted.of.world.events = c.list-events.ensures ∙ ap (λ (w : World). w.events) q.1.1.0 in
    rw (p.1, p.2) (expected_stopped g.wanted.of c.args.runs (g.D.Drivers.states c.args.outside.now.drivers.now) (g.D.Drivers.states c.run_expected.new.drivers) q.1.1.1.1.1.1.0 g.wanted.expected events listed
    (g.K.Sink.written c.args.outside.now.out.now) (g.K.Sink.written c.write_line.new.out) (g.K.Sink.faults c.args.outside.now.out.now) (g.K.Sink.faults c.write_line.new.out) (g.C.Clock.moments c.args.outside.now.clock.now)
    c.in_err-write_line.field-0.0 c.in_ok-lines.lines.items c.in_ok-lines.ended c.in_ok-lines.ensures.whole (rw c.as_slice.ensures.value at c.in_err-write_line.ensures.prefix) (λ e. c.in_err-write_line.ensures.failed (ap Err e)))

pub returns-clause-gave : goal.returns-clause-gave
returns-clause-gave g c =
    let q = c.requires.1.1.1.1 in
    let events = c.list-events.result.now in
    let listed : events ≡ g.wanted.of.world.events = c.list-events.ensures ∙ ap (λ (w : World). w.events) q.1.1.0 in
    expected_gave g.wanted.of c.args.runs (g.D.Drivers.states c.args.outside.now.drivers.now) (g.D.Drivers.states c.run_expected.new.drivers) q.1.1.1.1.1.1.0 g.wanted.expected events listed
    (g.K.Sink.written c.args.outside.now.out.now) (g.K.Sink.written c.write_line.new.out) (g.K.Sink.faults c.args.outside.now.out.now) (g.K.Sink.faults c.write_line.new.out) (g.C.Clock.moments c.args.outside.now.clock.now)
    c.in_ok-lines.lines.items c.in_ok-lines.ended c.in_ok-lines.ensures.whole (rw c.as_slice.ensures.value at c.in_ok-write_line.ensures.whole)

pub returns-in_err-watching-clause-writes : goal.returns-in_err-watching-clause-writes
returns-in_err-watching-clause-writes g c = Writes-none g.K.Sink.write_gives c.from_residual.result _

pub returns-in_err-lines-clause-writes : goal.returns-in_err-lines-clause-writes
returns-in_err-lines-clause-writes g c = Writes-none g.K.Sink.write_gives c.from_residual-in_err-lines.result _

pub returns-in_err-write_line-clause-writes : goal.returns-in_err-write_line-clause-writes
returns-in_err-write_line-clause-writes g c = Writes-stopped g.K.Sink.write_gives c.from_residual-in_err-write_line.result c.from_residual-in_err-write_line.ensures.0 _ _ (c.in_err-write_line.ensures.writes (lines-equal _ _ (c.as_slice.ensures.value ∙ c.in_ok-lines.ensures.whole.text) (told_lines g.wanted.of g.wanted.expected c.list-events.result.now _)))

pub returns-clause-writes : goal.returns-clause-writes
returns-clause-writes g c = c.in_ok-write_line.ensures.writes (lines-equal _ _ (c.as_slice.ensures.value ∙ c.in_ok-lines.ensures.whole.text) (told_lines g.wanted.of g.wanted.expected c.list-events.result.now _))
