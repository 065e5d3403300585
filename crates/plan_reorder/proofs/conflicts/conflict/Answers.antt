use Rattle.std.proofs.Common.{ap, ◌∙◌, arith}
use Rattle.std.specs.Prelude.{slice_get}
use Rattle.plan_tree.proofs.Counted.{height-le_size}
use Rattle.plan_reorder.proofs.Walked.{root_placed, top}
use Rattle.plan_reorder.proofs.conflicts.conflict.Goals as goal

pub returns : goal.returns
returns c = λ world tree st.
    let root = root_placed world c.args.t.now tree st in
    let high = height-le_size tree in
    let whole = st.whole in
    let lower = root.lower in
    c.conflict_at.ensures world tree top root.node root.below root.at (omega (arith, high, whole, lower, c.len.ensures)) tt tt
    ∙ ap (λ l. slice_get l 0) root.conflicts_are
