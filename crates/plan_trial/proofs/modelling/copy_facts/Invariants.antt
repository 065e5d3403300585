use Rattle.std.proofs.Common.{◌≡◌, take}
use Rattle.plan_trial.proofs.modelling.copy_facts.Given as goal

abbrev pub invariant-loop-fact : goal.invariant-loop-fact
invariant-loop-fact l = l.copied.items ≡ take l.fact-index l.facts
