use Rattle.std.proofs.Common.{refl, ap, ◌∙◌, rules}
use Rattle.std.proofs.lemmas.Result.{err_from_is_err_and}
use Rattle.spec_world.specs.declared.world.World.{World}
use Rattle.text_trace.specs.Traces.{CanRun}
use Rattle.cli_refusals.specs.declared.refusal.Refusal.TheVariants as refusal
use Rattle.cli_refusals.specs.Lent.Lent.{seen}
use Rattle.spec_output.specs.Texts.{block_text}
use Rattle.spec_program.specs.declared.course.Course.TheVariants as course
use Rattle.spec_program.specs.Output.{AreUncalled}
use Rattle.cli_answers.specs.Courses.Courses.{exit_of}
use Rattle.cli_answers.specs.Courses.Joined.{JoinGives}
use Rattle.cli_refusals.proofs.Ends.{refused_ends}
use Rattle.cli_answers.proofs.AboutCourses.Runs.{all_come, all_told, join_stopped, joined_ends, rounds_gave, script_gave}
use Rattle.cli_refusals.proofs.Writings.{end_refused}
use Rattle.cli_answers.proofs.courses.join.join_and_run.Goals as goal

pub returns-in_err-slots-clause-ends : goal.returns-in_err-slots-clause-ends
returns-in_err-slots-clause-ends g c =
    let p = err_from_is_err_and c.from_residual.result c.from_residual.ensures.1 in
    rw (p.1, p.2) (refused_ends (JoinGives g.of.tree g.of.world c.args.course) AreUncalled refusal.NoMemory _ (λ moments. tt))

pub returns-in_err-names-clause-ends : goal.returns-in_err-names-clause-ends
returns-in_err-names-clause-ends g c =
    let p = err_from_is_err_and c.from_residual-in_err-names.result c.from_residual-in_err-names.ensures.1 in
    rw (p.1, p.2) (refused_ends (JoinGives g.of.tree g.of.world c.args.course) AreUncalled refusal.NoMemory _ (λ moments. tt))

pub returns-in_err-runs-clause-ends : goal.returns-in_err-runs-clause-ends
returns-in_err-runs-clause-ends g c =
    let p = err_from_is_err_and c.from_residual-in_err-runs.result c.from_residual-in_err-runs.ensures.1 in
    rw (p.1, p.2) (join_stopped g.of.tree g.of.world c.args.course c.in_err-runs.field-0.0 _ _
    (record { written = refl; faults = refl; clock = refl; drivers = c.joined_runs.ensures.totals })
    c.in_err-runs.ensures.fault)

pub run_events-ended-requires : goal.run_events-ended-requires
run_events-ended-requires g c κs within =
    let tree = c.requires.1.1.1.1.0 in
    let world = c.requires.1.1.1.1.1.0 in
    let begun = c.in_ok-runs.ensures.begun in
    let can : CanRun g.of (g.D.Drivers.states c.joined_runs.new.drivers) c.in_ok-runs.runs = record {
      is_runnable = rw tree at c.requires.1.1.1.1.1.1.0;
      is_valid_world = rw world at c.requires.1.1.1.1.1.1.1.0;
      are = begun.runs;
      none = c.joined_runs.ensures.none;
    } in (
      search rules,
      (
        search rules,
        (
          can,
          all_come g.of _ c.in_ok-runs.runs c.list-events.result.now can begun.opening (c.list-events.ensures ∙ ap (λ (w : World). w.events) world) (all_told g.of (g.D.Drivers.states c.args.outside.now.drivers.now) c.in_ok-runs.ensures.fault),
        ),
      ),
    )

pub returns-in-Script-clause-ends : goal.returns-in-Script-clause-ends
returns-in-Script-clause-ends g c =
    let drivers = g.D.Drivers.states c.args.outside.now.drivers.now in
    let tree = c.requires.1.1.1.1.0 in
    let world = c.requires.1.1.1.1.1.0 in
    let begun = c.in_ok-runs.ensures.begun in
    let opened = seen g.K.Sink.written g.K.Sink.faults g.C.Clock.moments g.D.Drivers.states c.args.outside.now in
    let named = rw (tree, world, c.in-Script.is) at c.in_ok-names.ensures in
    rw (c.in-Script.is, c.exit_of.ensures)
    (joined_ends g.of drivers course.Script c.in_ok-runs.ensures.fault (exit_of c.run_events-ended.result) opened _
    (script_gave g.of c.in_ok-runs.runs _ _ begun.opening drivers begun _ _ (ap block_text named) c.list-events.result.now (c.list-events.ensures ∙ ap (λ (w : World). w.events) world) _ c.run_events-ended.result
    c.run_events-ended.ensures.leaves c.run_events-ended.ensures.watcher.failed))

pub run_rounds-ended-requires : goal.run_rounds-ended-requires
run_rounds-ended-requires g c κs within =
    let tree = c.requires.1.1.1.1.0 in
    let world = c.requires.1.1.1.1.1.0 in
    let begun = c.in_ok-runs.ensures.begun in
    let can : CanRun g.of (g.D.Drivers.states c.joined_runs.new.drivers) c.in_ok-runs.runs = record {
      is_runnable = rw tree at c.requires.1.1.1.1.1.1.0;
      is_valid_world = rw world at c.requires.1.1.1.1.1.1.1.0;
      are = begun.runs;
      none = c.joined_runs.ensures.none;
    } in
    (search rules, (search rules, (search rules, can)))

pub returns-in-Rounds-clause-ends : goal.returns-in-Rounds-clause-ends
returns-in-Rounds-clause-ends g c =
    let drivers = g.D.Drivers.states c.args.outside.now.drivers.now in
    let tree = c.requires.1.1.1.1.0 in
    let world = c.requires.1.1.1.1.1.0 in
    let begun = c.in_ok-runs.ensures.begun in
    let opened = seen g.K.Sink.written g.K.Sink.faults g.C.Clock.moments g.D.Drivers.states c.args.outside.now in
    let named = rw (tree, world, c.in-Rounds.is) at c.in_ok-names.ensures in
    rw (c.in-Rounds.is, c.exit_of-in-Rounds.ensures)
    (joined_ends g.of drivers (course.Rounds c.in-Rounds.rounds) c.in_ok-runs.ensures.fault (exit_of c.run_rounds-ended.result) opened _
    (rounds_gave g.of c.in_ok-runs.runs _ _ begun.opening drivers begun _ _ (ap block_text named) c.in-Rounds.rounds _ _ c.run_rounds-ended.result
    c.run_rounds-ended.ensures.leaves c.run_rounds-ended.ensures.watcher.failed c.run_rounds-ended.ensures.asked))

pub returns-in_err-slots-clause-writes : goal.returns-in_err-slots-clause-writes
returns-in_err-slots-clause-writes g c = end_refused g.K.Sink.write_gives c.from_residual.result _ _ c.from_residual.ensures.0 refl

pub returns-in_err-names-clause-writes : goal.returns-in_err-names-clause-writes
returns-in_err-names-clause-writes g c = end_refused g.K.Sink.write_gives c.from_residual-in_err-names.result _ _ c.from_residual-in_err-names.ensures.0 refl

pub returns-in_err-runs-clause-writes : goal.returns-in_err-runs-clause-writes
returns-in_err-runs-clause-writes g c = end_refused g.K.Sink.write_gives c.from_residual-in_err-runs.result _ _ c.from_residual-in_err-runs.ensures.0 refl
