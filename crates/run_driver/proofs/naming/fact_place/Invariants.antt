use Rattle.std.proofs.Common.{◌≡◌, ◌+◌, drop}
use Rattle.spec_run.specs.Leaf.{place_from}
use Rattle.spec_world.specs.Worlds.{names_of_facts}
use Rattle.run_driver.proofs.naming.fact_place.Given as goal

-- the facts still to come decide
abbrev pub invariant-loop-number : goal.invariant-loop-number
invariant-loop-number l = place_from 8 (names_of_facts l.facts) l.name 0 ≡ place_from (8 + l.number) (names_of_facts (drop l.number l.facts)) l.name 0
