use Rattle.run_loop.proofs.boxed.RosterDrivers.holds_nothing.Goals as goal

pub returns : goal.returns
returns g c = rw (← c.deref.ensures.value) c.hold_nothing.ensures
