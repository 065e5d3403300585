use Rattle.std.proofs.Common.{◌≡◌, ◌+◌, ℕ, List, [], refl, sym, ap, subst, ◌∙◌, arith}
use Rattle.std.proofs.lemmas.List.{take_all}
use Rattle.spec_exclusive.specs.declared.pair.Pair.{Pair}
use Rattle.spec_exclusive.specs.Pairs.{listed_leaves, meeting_pairs}
use Rattle.spec_tree.specs.Terms.{node_count}
use Rattle.tree_exclusive.specs.declared.steps.Step.{Step}
use Rattle.tree_exclusive.specs.Runs.{AreApart}
use Rattle.tree_exclusive.specs.Steps.{IsFound, Rising, below, beyond, pairs_from, steps_after}
use Rattle.tree_exclusive.proofs.Listed.{listed_rise, listed_within}
use Rattle.tree_exclusive.proofs.Walks.{whole_pairs}
use Rattle.tree_exclusive.proofs.pairs.find_pairs.Goals as goal

pub add_below-requires-clause-rising : goal.add_below-requires-clause-rising
add_below-requires-clause-rising c = subst (λ (us : List ℕ). Rising 1 us) (sym (c.as_slice.ensures.value ∙ c.in_ok-leaves.ensures.leaves)) (listed_rise c.args.ids.now c.args.tree.now)

pub returns-clause-pairs : goal.returns-clause-pairs
returns-clause-pairs c =
    let tree = c.args.tree.now in
    let ids = c.args.ids.now in
    let end = 1 + node_count tree.term in
    let leaves : c.as_slice.result.now ≡ listed_leaves ids tree = c.as_slice.ensures.value ∙ c.in_ok-leaves.ensures.leaves in
    let all : pairs_from (steps_after c.new-steps.result.items 1 tree.term) (below end c.as_slice.result.now) (beyond end c.as_slice.result.now) ≡ meeting_pairs ids tree =
    ap (λ (us : List ℕ). pairs_from (steps_after c.new-steps.result.items 1 tree.term) (below end us) (beyond end us)) leaves
    ∙ ap (λ (steps : List Step). pairs_from (steps_after steps 1 tree.term) (below end (listed_leaves ids tree)) (beyond end (listed_leaves ids tree))) c.new-steps.ensures.items
    ∙ whole_pairs tree.term end (listed_leaves ids tree) (listed_rise ids tree) (listed_within ids tree) in
    subst (λ (ps : List Pair). IsFound c.add_below.new.found ps) all
    (c.in_ok-add_below.ensures.pairs [] (record { first = c.new.ensures.items; count = refl }))

pub returns-clause-apart : goal.returns-clause-apart
returns-clause-apart c valid few =
    let found = returns-clause-pairs c in
    let all : c.add_below.new.found.pairs.items ≡ meeting_pairs c.args.ids.now c.args.tree.now =
    found.first ∙ take_all 100 (meeting_pairs c.args.ids.now c.args.tree.now) (omega (arith, found.count, few)) in
    subst (λ (ps : List Pair). AreApart c.args.ids.now c.args.tree.now ps) (sym all)
    (c.no_run_holds_exclusive_leaves_together.ensures c.args.tree.now valid c.args.ids.now)
