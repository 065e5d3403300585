use Rattle.std.proofs.Common.{◌≡◌, ◌+◌, ◌-◌, ◌≤◌, ◌++◌, ℕ, [], ◌∷◌, List, drop, take, map, sum, length, refl, sym, ap, subst, ◌∙◌, arith}
use Rattle.std.specs.Vec.{vec_len}
use Rattle.std.proofs.lemmas.List.{drop_all}
use Rattle.spec_exclusive.specs.Meetings.{meeting_at}
use Rattle.spec_tree.specs.declared.term.Term.{Term, out-Term}
use Rattle.spec_tree.specs.Terms.{node_count}
use Rattle.tree_dead.proofs.Marked.{count_more, count_of_node, terms_here}
use Rattle.tree_exclusive.specs.declared.steps.Step.{Step}
use Rattle.tree_exclusive.specs.Steps.{Rising, below, beyond, pairs_from, steps_after}
use Rattle.tree_exclusive.proofs.Walks.{beyond_further, beyond_rises, child_pairs, few_below, found_all, found_first, found_more, no_more_pairs, node_pairs, popped, steps_below_of}
use Rattle.tree_exclusive.proofs.pairs.+add_below.Goals as goal

pub loop-child-init : goal.loop-child-init
loop-child-init t c =
    let items = c.list-child-items.result.now in
    let term = c.args.term.now in
    let uid = c.args.uid in
    let leaves = c.args.leaves.now in
    let rest = c.in_ok-rest.rest.now in
    let end = uid + node_count term in
    let outer = c.args.steps.now.items in
    let count : node_count term ≡ 1 + sum (map node_count items) = count_of_node term items c.list-child-items.ensures in
    let is : rest ≡ beyond (uid + 1) leaves = c.in_ok-rest.ensures.rest in
    let few : length (below (uid + 1) leaves) + length (beyond (uid + 1) leaves) ≡ length leaves = few_below (uid + 1) leaves in
    let fewer : length rest ≡ length (beyond (uid + 1) leaves) = ap length is in
    record {
      steps = refl;
      place = refl;
      nodes = omega (arith, count);
      after = omega arith;
      rest = is;
      rising = subst (λ (us : List ℕ). Rising (uid + 1) us) (sym is) (beyond_rises uid (uid + 1) leaves c.requires.rising);
      few = omega (arith, few, fewer);
      count = omega (arith, c.in_ok-rest.ensures.few, c.requires.leaves);
      pairs = found_first c.args.found.now c.add_own.new.found
          (pairs_from (λ u. c.as_slice.result.now) (below (uid + 1) leaves) (beyond (uid + 1) leaves))
          (pairs_from (steps_below_of outer (out-Term term).kind 0 (uid + 1) items) (below end rest) (beyond end rest))
          (pairs_from (steps_after outer uid term) (below end leaves) (beyond end leaves))
          c.in_ok-rest.ensures.pairs
          (node_pairs outer term uid items leaves c.list-child-items.ensures c.requires.rising
          ∙ ap (λ (steps : List Step). pairs_from (λ u. steps) (below (uid + 1) leaves) (beyond (uid + 1) leaves) ++ pairs_from (steps_below_of outer (out-Term term).kind 0 (uid + 1) items) (below end (beyond (uid + 1) leaves)) (beyond end (beyond (uid + 1) leaves))) (sym c.as_slice.ensures.value)
          ∙ ap (λ (us : List ℕ). pairs_from (λ u. c.as_slice.result.now) (below (uid + 1) leaves) (beyond (uid + 1) leaves) ++ pairs_from (steps_below_of outer (out-Term term).kind 0 (uid + 1) items) (below end us) (beyond end us)) (sym is));
    }

pub loop-child-preserved : goal.loop-child-preserved
loop-child-preserved t c =
    let items = c.list-child-items.result.now in
    let i = c.loop-child.child-index in
    let known = c.loop-child.invariant in
    let child = c.child-item.result in
    let after : List Term = drop (i + 1) items in
    let here : drop i items ≡ child ∷ after = terms_here items i child c.loop-child-test.true c.child-item.is in
    let kind = (out-Term c.args.term.now).kind in
    let outer = c.args.steps.now.items in
    let leaves = c.args.leaves.now in
    let first = c.loop-child.first in
    let rest = c.loop-child.rest.now in
    let end = c.args.uid + node_count c.args.term.now in
    let count : c.nodes_in.result ≡ node_count child = c.nodes_in.ensures in
    let nodes : first + c.nodes_in.result + sum (map node_count after) ≡ end =
    count_more first (first + c.nodes_in.result) end child (drop i items) after here (ap (λ (n : ℕ). first + n) count) known.nodes in
    let within : first + node_count child ≤ end = omega (arith, nodes, count) in
    let left_is : c.in_ok-rest-2.rest.now ≡ beyond (first + c.nodes_in.result) rest =
    c.in_ok-rest-2.ensures.rest ∙ ap (λ (n : ℕ). beyond (first + n) rest) (sym count) in
    let parted : length (below (first + c.nodes_in.result) rest) + length (beyond (first + c.nodes_in.result) rest) ≡ length rest = few_below (first + c.nodes_in.result) rest in
    let fewer : length c.in_ok-rest-2.rest.now ≡ length (beyond (first + c.nodes_in.result) rest) = ap length left_is in
    let pushed : c.push.new.self.items ≡ outer ++ (record { end = first + c.nodes_in.result; meeting = c.meeting_at-meeting.result } ∷ []) =
    c.in_ok-push.ensures.items ∙ ap (λ (steps : List Step). steps ++ (record { end = first + c.nodes_in.result; meeting = c.meeting_at-meeting.result } ∷ [])) known.steps in
    let met : c.meeting_at-meeting.result ≡ meeting_at kind c.loop-child.place = c.meeting_at-meeting.ensures in
    let many : vec_len c.add_below.new.steps ≡ length c.add_below.new.steps.items = omega arith in
    record {
      steps = c.pop.ensures.rest ∙ ap (λ (n : ℕ). take (n - 1) c.add_below.new.steps.items) many ∙ popped outer c.add_below.new.steps.items _ (c.in_ok-rest-2.ensures.steps ∙ pushed);
      place = omega (arith, known.place);
      nodes = nodes;
      after = omega (arith, known.after);
      rest = left_is ∙ ap (λ (us : List ℕ). beyond (first + c.nodes_in.result) us) known.rest ∙ beyond_further first (first + c.nodes_in.result) (omega arith) leaves;
      rising = subst (λ (us : List ℕ). Rising (first + c.nodes_in.result) us) (sym left_is) (beyond_rises first (first + c.nodes_in.result) rest known.rising);
      few = omega (arith, parted, fewer, known.few);
      count = omega (arith, c.in_ok-rest-2.ensures.few, count, known.count);
      pairs = found_more c.args.found.now c.loop-child.found c.add_below.new.found
          (pairs_from (steps_after c.push.new.self.items first child) (below (first + node_count child) rest) (beyond (first + node_count child) rest))
          (pairs_from (steps_below_of outer kind c.loop-child.place first (drop i items)) (below end rest) (beyond end rest))
          (pairs_from (steps_below_of outer kind (c.loop-child.place + 1) (first + c.nodes_in.result) after) (below end c.in_ok-rest-2.rest.now) (beyond end c.in_ok-rest-2.rest.now))
          (pairs_from (steps_after outer c.args.uid c.args.term.now) (below end leaves) (beyond end leaves))
          known.pairs c.in_ok-rest-2.ensures.pairs
          (ap (λ (ts : List Term). pairs_from (steps_below_of outer kind c.loop-child.place first ts) (below end rest) (beyond end rest)) here
          ∙ child_pairs outer kind c.loop-child.place first end child after rest within known.rising
          ∙ ap (λ (steps : List Step). pairs_from (steps_after steps first child) (below (first + node_count child) rest) (beyond (first + node_count child) rest)
          ++ pairs_from (steps_below_of outer kind (c.loop-child.place + 1) (first + node_count child) after) (below end (beyond (first + node_count child) rest)) (beyond end (beyond (first + node_count child) rest)))
          (sym (pushed ∙ (λ j. outer ++ (record { end = first + count j; meeting = met j } ∷ []))))
          ∙ ap (λ (n : ℕ). pairs_from (steps_after c.push.new.self.items first child) (below (first + node_count child) rest) (beyond (first + node_count child) rest)
          ++ pairs_from (steps_below_of outer kind (c.loop-child.place + 1) (first + n) after) (below end (beyond (first + n) rest)) (beyond end (beyond (first + n) rest))) (sym count)
          ∙ ap (λ (us : List ℕ). pairs_from (steps_after c.push.new.self.items first child) (below (first + node_count child) rest) (beyond (first + node_count child) rest)
          ++ pairs_from (steps_below_of outer kind (c.loop-child.place + 1) (first + c.nodes_in.result) after) (below end us) (beyond end us)) (sym left_is));
    }

pub returns-clause-pairs : goal.returns-clause-pairs
returns-clause-pairs t c pairs was =
    let items = c.list-child-items.result.now in
    let known = c.loop-child.invariant in
    let first = c.loop-child.first in
    let rest = c.loop-child.rest.now in
    let end = c.args.uid + node_count c.args.term.now in
    let outer = c.args.steps.now.items in
    let left : List Term = drop c.loop-child.child-index items in
    let none : sum (map node_count left) ≡ 0 = ap (λ (ts : List Term). sum (map node_count ts)) (drop_all c.loop-child.child-index items c.loop-child-test.false) in
    found_all c.args.found.now c.loop-child.found
    (pairs_from (steps_below_of outer (out-Term c.args.term.now).kind c.loop-child.place first left) (below end rest) (beyond end rest))
    (pairs_from (steps_after outer c.args.uid c.args.term.now) (below end c.args.leaves.now) (beyond end c.args.leaves.now))
    known.pairs
    (no_more_pairs (steps_below_of outer (out-Term c.args.term.now).kind c.loop-child.place first left) first end rest (omega (arith, none, known.nodes)) known.rising)
    pairs was

pub returns-clause-rest : goal.returns-clause-rest
returns-clause-rest t c =
    let items = c.list-child-items.result.now in
    let known = c.loop-child.invariant in
    let end = c.args.uid + node_count c.args.term.now in
    let none : sum (map node_count (drop c.loop-child.child-index items)) ≡ 0 = ap (λ (ts : List Term). sum (map node_count ts)) (drop_all c.loop-child.child-index items c.loop-child-test.false) in
    let done : c.loop-child.first ≡ end = omega (arith, none, known.nodes) in
    known.rest ∙ ap (λ (n : ℕ). beyond n c.args.leaves.now) done
