-- The drivers of a session as a roster.
use Rattle.std.specs.Prelude.{List, [], ◌∷◌}
use Rattle.spec_run.specs.Drivers.{DriverState}
use Rattle.run_leaves.specs.Told.{told_state}
use Rattle.host_session.specs.declared.five.Five.{Five}

-- what each keeps, in their order
abbrev pub states_of : Five → List DriverState
states_of five = five.conditions.ledger ∷ five.timed.ledger ∷ five.replay.ledger ∷ five.gate.ledger ∷ told_state five.told ∷ []
