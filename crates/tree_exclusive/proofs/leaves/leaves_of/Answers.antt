use Rattle.std.proofs.Common.{◌++◌, List, ℕ, length, ap, ◌∙◌, arith}
use Rattle.spec_exclusive.specs.Pairs.{listed_marks}
use Rattle.tree_exclusive.specs.Steps.{living_marked}
use Rattle.tree_exclusive.proofs.Listed.{few_leaves}
use Rattle.tree_exclusive.proofs.leaves.leaves_of.Goals as goal

pub returns-clause-few : goal.returns-clause-few
returns-clause-few c =
    let tree = c.args.tree.now in
    let leaves : List ℕ = living_marked c.as_slice.result.now 1 (listed_marks c.args.ids.now tree.term) in
    omega (
      arith,
      ap length (c.in_ok-add_leaves.ensures.uids ∙ ap (λ (us : List ℕ). us ++ leaves) c.new-leaves.ensures.items),
      few_leaves c.args.ids.now c.as_slice.result.now 1 tree.term,
      c.requires.nodes,
    )
