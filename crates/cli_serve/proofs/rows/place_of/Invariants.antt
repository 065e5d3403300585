use Rattle.std.proofs.Common.{◌≡◌, ◌++◌, drop, take}
use Rattle.spec_serve.specs.Rows.{with_name}
use Rattle.cli_serve.proofs.rows.place_of.Given as goal

-- the port belongs behind those so far
abbrev pub invariant-loop-at : goal.invariant-loop-at
invariant-loop-at l = with_name l.port l.ports ≡ take l.at l.ports ++ with_name l.port (drop l.at l.ports)
