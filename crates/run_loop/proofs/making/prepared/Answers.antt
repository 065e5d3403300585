use Rattle.std.proofs.Common.{take, length, sym, ap, subst, ◌∙◌, arith}
use Rattle.std.specs.Prelude.{OnErr}
use Rattle.std.proofs.lemmas.Result.{err_from_is_err_and}
use Rattle.spec_run.specs.Drivers.{driver_at, roster_prepared}
use Rattle.run_loop.specs.Begun.{AreBegun, ArePartlyPrepared}
use Rattle.spec_run.specs.Rosters.{IsSameRoster}
use Rattle.run_loop.proofs.Counting.{wanted_length}
use Rattle.run_loop.proofs.Opening.{are_begun}
use Rattle.run_loop.proofs.Preparing.{prepared_same, prepared_totals}
use Rattle.run_loop.proofs.making.prepared.Goals as goal

pub prepare-requires-clause-counts : goal.prepare-requires-clause-counts
prepare-requires-clause-counts g c =
    let made = c.requires.made in
    let are = c.in_ok-counts.ensures made.0 made.1 made.4 in
    omega (arith, ap (λ ns. length ns) (c.as_slice.ensures.value ∙ are), wanted_length made.0 made.1 (g.D.Drivers.states c.args.drivers.now))

pub returns-in_err-prepare-clause-cut : goal.returns-in_err-prepare-clause-cut
returns-in_err-prepare-clause-cut g c = λ tree world are.
    let drivers = g.D.Drivers.states c.args.drivers.now in
    let cut = c.in_err-prepare.ensures.err in
    let is = err_from_is_err_and c.from_residual-in_err-prepare.result c.from_residual-in_err-prepare.ensures.1 in
    subst (λ r. OnErr r (ArePartlyPrepared tree world drivers (g.D.Drivers.states c.prepare.new.self))) (sym is.1) (record {
      done = cut.0;
      prepared = cut.1 ∙ ap (λ counts. roster_prepared drivers (take cut.0 counts)) (c.as_slice.ensures.value ∙ c.in_ok-counts.ensures tree world are);
    })

pub returns-in_err-prepare-clause-roster : goal.returns-in_err-prepare-clause-roster
returns-in_err-prepare-clause-roster g c =
    let drivers = g.D.Drivers.states c.args.drivers.now in
    let cut = c.in_err-prepare.ensures.err in
    subst (IsSameRoster drivers) (sym cut.1) (prepared_same drivers (take cut.0 c.as_slice.result.now))

pub returns-in_err-prepare-clause-totals : goal.returns-in_err-prepare-clause-totals
returns-in_err-prepare-clause-totals g c = λ place.
    let drivers = g.D.Drivers.states c.args.drivers.now in
    let cut = c.in_err-prepare.ensures.err in
    ap (λ ds. (driver_at ds place).totals) cut.1 ∙ prepared_totals drivers (take cut.0 c.as_slice.result.now) place

pub returns-clause-begun : goal.returns-clause-begun
returns-clause-begun g c = λ tree world runnable runnable_world are.
    let drivers = g.D.Drivers.states c.args.drivers.now in
    let prepared = c.in_ok-prepare.ensures.ok ∙ ap (roster_prepared drivers) (c.as_slice.ensures.value ∙ c.in_ok-counts.ensures tree world are) in
    subst (λ ds. AreBegun tree world drivers ds c.args.runs) (sym prepared) (are_begun tree world drivers c.args.runs are runnable runnable_world)

pub returns-clause-roster : goal.returns-clause-roster
returns-clause-roster g c =
    let drivers = g.D.Drivers.states c.args.drivers.now in
    subst (IsSameRoster drivers) (sym c.in_ok-prepare.ensures.ok) (prepared_same drivers c.as_slice.result.now)

pub returns-clause-totals : goal.returns-clause-totals
returns-clause-totals g c = λ place.
    let drivers = g.D.Drivers.states c.args.drivers.now in
    ap (λ ds. (driver_at ds place).totals) c.in_ok-prepare.ensures.ok ∙ prepared_totals drivers c.as_slice.result.now place
