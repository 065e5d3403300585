use Rattle.std.proofs.Common.{◌≡◌, map, take}
use Rattle.spec_world.specs.declared.world.Fact.{Fact}
use Rattle.run_driver.proofs.facts.facts_of.Given as goal

abbrev pub invariant-loop-fact : goal.invariant-loop-fact
invariant-loop-fact l = l.values.items ≡ map (λ (f : Fact). f.opening) (take l.fact-index l.fact-items)
