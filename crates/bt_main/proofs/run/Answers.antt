use Rattle.std.proofs.Common.{◌∙◌, ap, refl}
use Rattle.run_leaves.specs.declared.conditions.Conditions.{Conditions}
use Rattle.run_leaves.specs.declared.timed.Timed.{Timed}
use Rattle.run_leaves.specs.declared.replay.Replay.{Replay}
use Rattle.run_leaves.specs.declared.gate.Gate.{Gate}
use Rattle.run_leaves.specs.declared.told.Told.{Told}
use Rattle.run_leaves.specs.Told.{told_state}
use Rattle.spec_run.specs.Drivers.{DriverState}
use Rattle.bt_main.proofs.Calls.{five_added, ran_so}
use Rattle.bt_main.proofs.run.OwnLists.{own-1, at-1-1, at-1-2, at-1-3, at-1-4, at-1-5}
use Rattle.bt_main.proofs.run.Goals as goal
use denote.Param.Object.{read_made}

pub returns-clause-ran : goal.returns-clause-ran
returns-clause-ran g c =
    ran_so c.bt.result c.args.out.now c.bt.new.out c.new-shelf.result c.bt.new.shelf c.new-shelf.ensures _ _ _ _ _
    (five_added _ _ _ _ _ _ _
    c.into_dyn_box.result c.into_dyn_box-in_ok-new-2.result c.into_dyn_box-in_ok-new-3.result c.into_dyn_box-in_ok-new-4.result c.into_dyn_box-in_ok-new-5.result
    c.new-roster.ensures.items
    c.in_ok-add_driver.ensures.ok c.in_ok-add_driver-2.ensures.ok c.in_ok-add_driver-3.ensures.ok c.in_ok-add_driver-4.ensures.ok c.in_ok-add_driver-5.ensures.ok
    (read_made own-1 (own-1.entry at-1-1) at-1-1 refl DriverState (λ j w. j.1.state w) c.into_dyn_box.result.vtable c.into_dyn_box.result.value c.in_ok-new.field-0.value c.into_dyn_box.ensures.1
    ∙ ap (λ (d : Conditions). d.ledger) c.in_ok-new.ensures.ok ∙ c.new.ensures)
    (read_made own-1 (own-1.entry at-1-2) at-1-2 refl DriverState (λ j w. j.1.state w) c.into_dyn_box-in_ok-new-2.result.vtable c.into_dyn_box-in_ok-new-2.result.value c.in_ok-new-2.field-0.value c.into_dyn_box-in_ok-new-2.ensures.1
    ∙ ap (λ (d : Timed). d.ledger) c.in_ok-new-2.ensures.ok ∙ c.new-3.ensures)
    (read_made own-1 (own-1.entry at-1-3) at-1-3 refl DriverState (λ j w. j.1.state w) c.into_dyn_box-in_ok-new-3.result.vtable c.into_dyn_box-in_ok-new-3.result.value c.in_ok-new-3.field-0.value c.into_dyn_box-in_ok-new-3.ensures.1
    ∙ ap (λ (d : Replay). d.ledger) c.in_ok-new-3.ensures.ok ∙ c.new-5.ensures)
    (read_made own-1 (own-1.entry at-1-4) at-1-4 refl DriverState (λ j w. j.1.state w) c.into_dyn_box-in_ok-new-4.result.vtable c.into_dyn_box-in_ok-new-4.result.value c.in_ok-new-4.field-0.value c.into_dyn_box-in_ok-new-4.ensures.1
    ∙ ap (λ (d : Gate). d.ledger) c.in_ok-new-4.ensures.ok ∙ c.new-7.ensures)
    (read_made own-1 (own-1.entry at-1-5) at-1-5 refl DriverState (λ j w. j.1.state w) c.into_dyn_box-in_ok-new-5.result.vtable c.into_dyn_box-in_ok-new-5.result.value c.in_ok-new-5.field-0.value c.into_dyn_box-in_ok-new-5.ensures.1
    ∙ ap (λ (d : Told). told_state d) c.in_ok-new-5.ensures.ok ∙ c.new-9.ensures))
    c.bt.ensures.reads
