use Rattle.std.proofs.Common.{◌≡◌, ℕ, drop}
use Rattle.spec_run.specs.Leaf.{place_from}
use Rattle.run_driver.proofs.naming.port_place.Given as goal

-- the ports still to come decide
abbrev pub invariant-loop-place : goal.invariant-loop-place
invariant-loop-place l = (other : ℕ) → place_from 0 l.ports l.name other ≡ place_from l.place (drop l.place l.ports) l.name other
