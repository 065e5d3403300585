use Rattle.cli_program.proofs.boxes.BoxesDrivers.holds_nothing.Goals as goal

pub returns : goal.returns
returns g c = rw (← c.deref.ensures.value) c.hold_nothing.ensures
