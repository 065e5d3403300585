use Rattle.std.proofs.Common.{◌≡◌, length, true, sym, ap, ◌∙◌, arith}
use Rattle.std.proofs.lemmas.List.Sums.{position_or_len_is}
use Rattle.run_nodes.proofs.ToldValues.{is_for, unnamed}
use Rattle.run_nodes.proofs.leaves.place_told.Goals as goal

pub returns-then-eq : goal.returns-then-eq
returns-then-eq c =
    let d = c.index-told-place.result in
    let here : is_for c.args.name.now d ≡ true = sym c.eq.ensures ∙ c.if-eq.true in
    sym (position_or_len_is (is_for c.args.name.now) c.args.told.now c.loop-place.place d (omega (arith, c.loop-place-test.true))
    (λ k low. c.loop-place.invariant k d low)
    (λ _. ap (is_for c.args.name.now) (sym c.index-told-place.is) ∙ here))

pub returns : goal.returns
returns c =
    sym (position_or_len_is (is_for c.args.name.now) c.args.told.now (length c.args.told.now) unnamed (omega arith) (λ k low. c.loop-place.invariant k unnamed (omega (arith, low, c.loop-place-test.false))) (λ past. absurd (omega (arith, past))))
