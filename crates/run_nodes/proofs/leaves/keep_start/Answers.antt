use Rattle.std.proofs.Common.{◌≡◌, true, ap, sym, ◌∙◌, refl, arith}
use Rattle.spec_run.specs.declared.leaf.Phase.TheVariants as phase
use Rattle.spec_run.specs.Leaves.{phase_of}
use Rattle.base_tables.specs.DriverCalls.{roster_kept}
use Rattle.run_driver.specs.Calls.{phase_asked}
use Rattle.run_driver.specs.Ready.{is_ready_told}
use Rattle.run_driver.specs.declared.row.ReadyRow.{ReadyRow}
use Rattle.run_nodes.specs.Calls.{values_held}
use Rattle.run_nodes.proofs.Readied.{readied_kept}
use Rattle.run_nodes.proofs.leaves.keep_start.Goals as goal

pub returns-in_ok-inputs-in-Start-clause-ok : goal.returns-in_ok-inputs-in-Start-clause-ok
returns-in_ok-inputs-in-Start-clause-ok g c =
    let s = c.args.stage.now in
    let leaf = c.args.leaf.now in
    let told : is_ready_told leaf.row.sort ≡ true =
    ap (λ (row : ReadyRow). is_ready_told row.sort) (sym c.get.ensures) ∙ sym c.is_told.ensures ∙ c.if-not-is_told.false in
    let begins : phase_of c.args.status ≡ phase.Start = sym c.asked_at.ensures.phase ∙ ap phase_asked c.in-Start.is in
    let kept = c.in_ok-inputs-in-Start.ensures ∙ ap (values_held s.board.now) c.list.ensures in
    readied_kept g.D.Drivers.states c.args.status leaf s _ c.requires.callable c.requires.inputs told begins
    (record { moment = refl; nodes = refl; kept = refl; board = refl; facts = refl; drivers = refl; notes = refl; reserve = omega arith; full = refl })
    refl refl refl refl
    (c.keep_inputs.ensures ∙ ap (roster_kept (g.D.Drivers.states s.drivers.now) leaf.driver leaf.instance) kept)
