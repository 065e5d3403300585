use Rattle.std.proofs.Common.{rules, ◌≡◌, ◌≤◌, ◌++◌, ℕ, List, take, drop, get_or, length, OnOk, sym, ap, subst, ◌∙◌, arith}
use Rattle.std.proofs.lemmas.List.{append_assoc}
use Rattle.spec_exclusive.specs.declared.meeting.Meeting.TheVariants.{Never}
use Rattle.spec_exclusive.specs.declared.pair.Pair.{Pair}
use Rattle.spec_exclusive.specs.Pairs.{pairs_with}
use Rattle.tree_exclusive.specs.declared.steps.Step.{Step}
use Rattle.tree_exclusive.specs.Steps.{IsFound, Rising, below, beyond, by_steps}
use Rattle.tree_exclusive.proofs.Walks.{below_rises, drop_below, few_below, no_steps, on_ok, others, take_below, with_steps}
use Rattle.tree_exclusive.proofs.pairs.+add_with.Goals as goal

abbrev no_step : Step
no_step = record { end = 0; meeting = Never }

pub returns-in_default-clause-pairs : goal.returns-in_default-clause-pairs
returns-in_default-clause-pairs t c =
    subst (λ (steps : List Step). OnOk c.add_each.result ((pairs : List Pair) → IsFound c.args.found.now pairs → IsFound c.add_each.new.found (pairs ++ pairs_with (λ u. by_steps steps) c.args.earlier c.args.later.now)))
    (sym (no_steps c.args.steps.now c.in_default.len_below)) c.add_each.ensures.pairs

pub split_at-requires : goal.split_at-requires
split_at-requires t c =
    let end = (get_or c.args.steps.now 0 no_step).end in
    let is : c.count_before.result ≡ length (below end c.args.later.now) = c.count_before.ensures in
    omega (arith, is, few_below end c.args.later.now)

pub add_with-requires : goal.add_with-requires
add_with-requires t c =
    let later = c.args.later.now in
    let end = (get_or c.args.steps.now 0 no_step).end in
    let inside : c.split_at.result.0.now ≡ below end later = c.split_at.ensures.front ∙ ap (λ (n : ℕ). take n later) c.count_before.ensures ∙ take_below end later in
    let rising : Rising 0 c.split_at.result.0.now = subst (λ (us : List ℕ). Rising 0 us) (sym inside) (below_rises 0 end later c.requires.rising) in
    let few : length c.split_at.result.0.now ≤ length later = omega (arith, ap length inside, few_below end later) in
    search (rules, rising, few)

pub returns-clause-pairs : goal.returns-clause-pairs
returns-clause-pairs t c =
    let steps = c.args.steps.now in
    let later = c.args.later.now in
    let u = c.args.earlier in
    let step = get_or steps 0 no_step in
    let inside : c.split_at.result.0.now ≡ below step.end later = c.split_at.ensures.front ∙ ap (λ (n : ℕ). take n later) c.count_before.ensures ∙ take_below step.end later in
    let outside : c.split_at.result.1.now ≡ beyond step.end later = c.split_at.ensures.back ∙ ap (λ (n : ℕ). drop n later) c.count_before.ensures ∙ drop_below step.end later in
    let first : List Pair = pairs_with (λ w. by_steps (others steps)) u c.split_at.result.0.now in
    let second : List Pair = pairs_with (λ w v. step.meeting) u c.split_at.result.1.now in
    let parts : pairs_with (λ w. by_steps steps) u later ≡ first ++ second =
    with_steps steps no_step u later c.in-len1-up.len_at_least c.requires.rising
    ∙ ap (λ (us : List ℕ). pairs_with (λ w. by_steps (others steps)) u us ++ pairs_with (λ w v. step.meeting) u (beyond step.end later)) (sym inside)
    ∙ ap (λ (us : List ℕ). first ++ pairs_with (λ w v. step.meeting) u us) (sym outside) in
    on_ok c.add_each-2.result
    (λ adds pairs was. subst (λ (ps : List Pair). IsFound c.add_each-2.new.found ps) (append_assoc pairs first second ∙ ap (λ (ps : List Pair). pairs ++ ps) (sym parts))
    (adds (pairs ++ first) (c.in_ok-add_with.ensures.pairs pairs was)))
    c.add_each-2.ensures.pairs
