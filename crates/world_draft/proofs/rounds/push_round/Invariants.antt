use Rattle.std.proofs.Common.{◌≡◌, ◌++◌, map, take}
use Rattle.world_draft.specs.Rounds.{what_of}
use Rattle.world_draft.proofs.rounds.push_round.Given as goal

abbrev pub invariant-loop-part : goal.invariant-loop-part
invariant-loop-part l = l.events.items ≡ l.initial.events.items ++ map (λ what. record { at = l.at; what = what }) (map what_of (take l.part-index l.parts))
