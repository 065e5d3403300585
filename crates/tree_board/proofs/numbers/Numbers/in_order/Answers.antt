use Rattle.std.proofs.Common.{ap, ◌∙◌}
use Rattle.std.proofs.lemmas.List.{take_all}
use Rattle.std.proofs.lemmas.Result.{IfOk-weaker}
use Rattle.std.proofs.lemmas.Slice.Eq.{bytes_eq-Decides}
use Rattle.std.specs.List.{list_any}
use Rattle.tree_board.proofs.numbers.Numbers.in_order.Goals as goal

-- tests tell no equal keys apart
pub returns-clause-same : goal.returns-clause-same
returns-clause-same c =
    let whole = c.loop-key.invariant ∙ take_all c.loop-key.key-index c.as_slice-key-items.result.now c.loop-key-test.false ∙ c.as_slice-key-items.ensures.keys ∙ c.self.view_is in
    IfOk-weaker c.in_order.result _ _ (λ v same p. same p (λ x y tie. ap p ((bytes_eq-Decides x y).0 tie)) ∙ ap (list_any p) whole) c.in_order.ensures.same
