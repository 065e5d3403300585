use Rattle.std.proofs.Common.{◌≡◌, map, take}
use Rattle.std.specs.List.{list_any}
use Rattle.spec_program.specs.ToldApart.{Apart, apart}
use Rattle.tree_mock.specs.Seen.{opening_seen}
use Rattle.tree_mock.proofs.apart.+parts.Given as goal

-- the terms so far, and whether one of them is changed
abbrev pub invariant-all_apart-loop-term : goal.invariant-all_apart-loop-term
invariant-all_apart-loop-term l =
    let parts = map (λ term. apart l.rules (map opening_seen l.found) term l.above) (take l.term-index l.terms) in
    record {
      changed : l.changed ≡ list_any (λ (part : Apart). part.changed) parts;
      terms : l.all.items ≡ map (λ (part : Apart). part.term) parts;
    }
