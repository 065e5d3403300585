-- Drivers that were called no more often than in a run.
use Rattle.std.proofs.Common.{◌≡◌, List, ap, arith}
use Rattle.spec_run.specs.declared.leaf.Totals.{Totals}
use Rattle.spec_run.specs.Drivers.{DriverState, driver_at}
use Rattle.spec_program.specs.Output.{AreUncalled}
use Rattle.spec_output.specs.Cuts.{HaveBegunWithin}

-- the drivers are those after the run
pub as_often : (old now whole : List DriverState) → now ≡ whole → HaveBegunWithin old now whole
as_often old now whole same place =
    let starts : (driver_at now place).totals.starts ≡ (driver_at whole place).totals.starts = ap (λ (ds : List DriverState). (driver_at ds place).totals.starts) same in
    let runnings : (driver_at now place).totals.runnings ≡ (driver_at whole place).totals.runnings = ap (λ (ds : List DriverState). (driver_at ds place).totals.runnings) same in
    record { starts = λ few. omega (arith, starts); runnings = λ few. omega (arith, runnings) }

-- no driver was called
pub uncalled_within : (old now : List DriverState) → AreUncalled old now → HaveBegunWithin old now old
uncalled_within old now same place =
    let starts : (driver_at now place).totals.starts ≡ (driver_at old place).totals.starts = ap (λ (t : Totals). t.starts) (same place) in
    let runnings : (driver_at now place).totals.runnings ≡ (driver_at old place).totals.runnings = ap (λ (t : Totals). t.runnings) (same place) in
    record { starts = λ few. omega (arith, starts); runnings = λ few. omega (arith, runnings) }
