use Rattle.std.proofs.Common.{◌≡◌, take}
use Rattle.spec_serve.specs.Rows.{ports_towards}
use Rattle.cli_serve.proofs.rows.ports_of.Given as goal

abbrev pub invariant-loop-port : goal.invariant-loop-port
invariant-loop-port l = l.ports.items ≡ ports_towards l.direction (take l.port-index l.port-items)
