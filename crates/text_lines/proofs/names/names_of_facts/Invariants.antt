use Rattle.std.proofs.Common.{◌≡◌, map, take}
use Rattle.text_lines.proofs.names.names_of_facts.Given as goal

abbrev pub invariant-loop-fact : goal.invariant-loop-fact
invariant-loop-fact l = l.facts.items ≡ map (λ fact. fact.name) (take l.fact-index l.fact-items)
