use Rattle.std.proofs.Common.{ap, length, Err}
use Rattle.std.proofs.lemmas.Result.{err_from_is_err_and}
use Rattle.cli_answers.proofs.AboutCourses.Runs.{line_gave, line_stopped, no_line}
use Rattle.std.proofs.Common.{◌∙◌}
use Rattle.base_outside.proofs.Writings.{Writes-none, Writes-stopped, lines-equal}
use Rattle.text_trace.specs.Traces.{trace_of}
use Rattle.cli_answers.proofs.LineEnds.{load_lines}
use Rattle.cli_answers.proofs.courses.join.run_summed.Goals as goal

pub returns-in_err-line-clause-gave : goal.returns-in_err-line-clause-gave
returns-in_err-line-clause-gave g c =
    let p = err_from_is_err_and c.from_residual.result c.from_residual.ensures.1 in
    rw (p.1, p.2) (λ before begun. no_line g.of c.args.runs _ (g.D.Drivers.states c.run_load.new.drivers) c.requires.1.1.1.1.1.0 before begun c.args.leaves c.args.events.now c.requires.1.1.1.1.1.1.0
    (g.C.Clock.moments c.args.outside.now.clock.now) (g.K.Sink.written c.args.outside.now.out.now) (g.K.Sink.faults c.args.outside.now.out.now) c.in_err-line.ensures.cut)

pub returns-in_err-write_line-clause-gave : goal.returns-in_err-write_line-clause-gave
returns-in_err-write_line-clause-gave g c =
    let p = err_from_is_err_and c.from_residual-in_err-write_line.result c.from_residual-in_err-write_line.ensures.1 in
    rw (p.1, p.2) (λ before begun. line_stopped g.of c.args.runs _ _ c.requires.1.1.1.1.1.0 before begun c.args.leaves c.args.events.now c.requires.1.1.1.1.1.1.0 _ c.in_err-write_line.field-0.0 c.in_ok-line.ended c.in_ok-line.line.items _ _ _ _
    c.in_ok-line.ensures.whole (rw c.as_slice.ensures.value at c.in_err-write_line.ensures.prefix) (λ e. c.in_err-write_line.ensures.failed (ap Err e)))

pub returns-clause-gave : goal.returns-clause-gave
returns-clause-gave g c = λ before begun.
    line_gave g.of c.args.runs _ _ c.requires.1.1.1.1.1.0 before begun c.args.leaves c.args.events.now c.requires.1.1.1.1.1.1.0 _ c.in_ok-line.ended c.in_ok-line.line.items _ _ _ _
    c.in_ok-line.ensures.whole (rw c.as_slice.ensures.value at c.in_ok-write_line.ensures.whole)

pub returns-in_err-line-clause-writes : goal.returns-in_err-line-clause-writes
returns-in_err-line-clause-writes g c = Writes-none g.K.Sink.write_gives c.from_residual.result _

pub returns-in_err-write_line-clause-writes : goal.returns-in_err-write_line-clause-writes
returns-in_err-write_line-clause-writes g c = Writes-stopped g.K.Sink.write_gives c.from_residual-in_err-write_line.result c.from_residual-in_err-write_line.ensures.0 _ _ (c.in_err-write_line.ensures.writes (lines-equal _ _ (c.as_slice.ensures.value ∙ c.in_ok-line.ensures.whole.told) (load_lines c.args.leaves g.of.tree (length c.args.events.now) (trace_of g.of (g.D.Drivers.states c.args.outside.now.drivers.now) c.args.runs c.args.events.now))))

pub returns-clause-writes : goal.returns-clause-writes
returns-clause-writes g c = c.in_ok-write_line.ensures.writes (lines-equal _ _ (c.as_slice.ensures.value ∙ c.in_ok-line.ensures.whole.told) (load_lines c.args.leaves g.of.tree (length c.args.events.now) (trace_of g.of (g.D.Drivers.states c.args.outside.now.drivers.now) c.args.runs c.args.events.now)))
