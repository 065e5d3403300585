use Rattle.std.proofs.Common.{refl}
use Rattle.std.proofs.lemmas.Result.{err_from_is_err_and}
use Rattle.cli_refusals.specs.declared.refusal.Refusal.TheVariants as refusal
use Rattle.cli_refusals.specs.Lent.Lent.{seen}
use Rattle.spec_program.specs.Output.{AreUncalled}
use Rattle.cli_refusals.proofs.Ends.{refused_ends}
use Rattle.cli_answers.proofs.AboutCourses.Expecting.{Expects, expect_join_stopped, expect_stopped, expected_ends}
use Rattle.cli_refusals.proofs.Writings.{end_refused}
use Rattle.cli_answers.proofs.AboutCourses.Written.{expected_at}
use Rattle.cli_answers.proofs.courses.expecting.join_and_expect.Goals as goal

pub returns-in_err-slots-clause-ends : goal.returns-in_err-slots-clause-ends
returns-in_err-slots-clause-ends g c =
    let p = err_from_is_err_and c.from_residual.result c.from_residual.ensures.1 in
    rw (p.1, p.2) (refused_ends (Expects g.of c.args.expect.now) AreUncalled refusal.NoMemory _ (λ moments. tt))

pub returns-in_err-names-clause-ends : goal.returns-in_err-names-clause-ends
returns-in_err-names-clause-ends g c =
    let p = err_from_is_err_and c.from_residual-in_err-names.result c.from_residual-in_err-names.ensures.1 in
    rw (p.1, p.2) (refused_ends (Expects g.of c.args.expect.now) AreUncalled refusal.NoMemory _ (λ moments. tt))

pub returns-in_err-runs-clause-ends : goal.returns-in_err-runs-clause-ends
returns-in_err-runs-clause-ends g c =
    let p = err_from_is_err_and c.from_residual-in_err-runs.result c.from_residual-in_err-runs.ensures.1 in
    rw (p.1, p.2) (expect_join_stopped g.of c.args.expect.now c.in_err-runs.field-0.0 _ _
    (record { written = refl; faults = refl; clock = refl; drivers = c.joined_runs.ensures.totals })
    c.in_err-runs.ensures.fault)

pub returns-in-Ok-clause-ends : goal.returns-in-Ok-clause-ends
returns-in-Ok-clause-ends g c =
    let q = c.requires.1.1.1.1 in
    rw c.exit_of.ensures (expected_ends g.of (g.D.Drivers.states c.args.outside.now.drivers.now) c.args.expect.now c.in-Ok.expected
    c.in_ok-runs.ensures.fault (rw (q.0, q.1.0) at c.in-Ok.ensures.reads) _
    (seen g.K.Sink.written g.K.Sink.faults g.C.Clock.moments g.D.Drivers.states c.args.outside.now) _
    (c.run_watched.ensures.gave (g.D.Drivers.states c.args.outside.now.drivers.now) c.in_ok-runs.ensures.begun))

pub returns-clause-ends : goal.returns-clause-ends
returns-clause-ends g c =
    let q = c.requires.1.1.1.1 in
    rw c.from.ensures (expect_stopped g.of c.args.expect.now c.in-Err.stopped _ _
    (record { written = refl; faults = refl; clock = refl; drivers = c.joined_runs.ensures.totals })
    c.in_ok-runs.ensures.fault (rw (q.0, q.1.0) at c.in-Err.ensures.reads))

pub returns-in_err-slots-clause-writes : goal.returns-in_err-slots-clause-writes
returns-in_err-slots-clause-writes g c = end_refused g.K.Sink.write_gives c.from_residual.result _ _ c.from_residual.ensures.0 refl

pub returns-in_err-names-clause-writes : goal.returns-in_err-names-clause-writes
returns-in_err-names-clause-writes g c = end_refused g.K.Sink.write_gives c.from_residual-in_err-names.result _ _ c.from_residual-in_err-names.ensures.0 refl

pub returns-in_err-runs-clause-writes : goal.returns-in_err-runs-clause-writes
returns-in_err-runs-clause-writes g c = end_refused g.K.Sink.write_gives c.from_residual-in_err-runs.result _ _ c.from_residual-in_err-runs.ensures.0 refl

pub returns-in-Ok-clause-writes : goal.returns-in-Ok-clause-writes
returns-in-Ok-clause-writes g c = rw c.exit_of.ensures (expected_at g.K.Sink.write_gives c.run_watched.result _ _ c.run_watched.ensures.writes)
