use Rattle.std.proofs.Common.{◌<◌, ◌+◌, ◌-◌, List, ◌++◌, map, sym, ap, ◌∙◌, arith, append_assoc}
use Rattle.std.proofs.lemmas.Bool.Decides.{nat_tests}
use Rattle.spec_world.specs.declared.world.Event.{Event}
use Rattle.spec_world.specs.declared.world.What.{What}
use Rattle.spec_world_file.specs.WorldFile.{rounds}
use Rattle.world_draft.specs.Rounds.{what_of}
use Rattle.world_draft.proofs.AboutRounds.{one_round, round_fits}
use Rattle.world_draft.proofs.rounds.push_rounds.Goals as goal

pub rounds-preserved : goal.rounds-preserved
rounds-preserved c =
    let whats : List What = map what_of c.args.parts.now in
    let at = c.rounds.at in
    let ms = c.args.ms in
    let left = c.rounds.left in
    let before : List Event = c.rounds.events.items in
    let round : List Event = map (λ what. record { at = at; what = what }) whats in
    let some : 0 < left = grind (arith, nat_tests, c.rounds-test.true) in
    record {
      all = ap (λ (es : List Event). es ++ rounds (left - 1) (at + ms) ms whats) c.in_ok-push_round.ensures
          ∙ append_assoc before round (rounds (left - 1) (at + ms) ms whats)
          ∙ ap (λ (es : List Event). before ++ es) (sym (one_round left at ms whats some)) ∙ c.rounds.invariant.all;
      within = (round_fits left at ms 9000000000000000000 some c.rounds.invariant.within).1;
    }
