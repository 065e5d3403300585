use Rattle.std.proofs.Common.{◌+◌, ◌-◌, ◌++◌, List, map, take, length, length-append, append-nil, ap, sym, subst, ◌∙◌, arith}
use Rattle.std.proofs.lemmas.List.{length-map}
use Rattle.std.proofs.lemmas.Bool.{cond-false, cond-true}
use Rattle.spec_exclusive.specs.declared.pair.Pair.{Pair}
use Rattle.spec_exclusive.specs.Pairs.{pair_of}
use Rattle.tree_exclusive.specs.Steps.{IsFound}
use Rattle.tree_exclusive.proofs.Walks.{alike, first_of_both}
use Rattle.tree_exclusive.proofs.pairs.add_each.Goals as goal

pub returns-then-not-may_meet-clause-pairs : goal.returns-then-not-may_meet-clause-pairs
returns-then-not-may_meet-clause-pairs c pairs was =
    let none = alike c.args.meeting c.args.earlier c.args.later.now ∙ cond-false _ _ _ (sym c.may_meet.ensures ∙ c.if-not-may_meet.true) in
    subst (λ (ps : List Pair). IsFound c.args.found.now ps) (sym (append-nil pairs) ∙ ap (λ (ps : List Pair). pairs ++ ps) (sym none)) was

pub returns-clause-pairs : goal.returns-clause-pairs
returns-clause-pairs c pairs was =
    let more : List Pair = map (λ v. pair_of c.args.earlier v c.args.meeting) c.args.later.now in
    let all = alike c.args.meeting c.args.earlier c.args.later.now ∙ cond-true _ _ _ (sym c.may_meet.ensures ∙ c.if-not-may_meet.false) in
    subst (λ (ps : List Pair). IsFound (record { pairs = c.keep_each.new.pairs; count = c.args.found.now.count + length c.args.later.now }) (pairs ++ ps)) (sym all)
    (record {
      first = c.in_ok-keep_each.ensures ∙ ap (λ (ps : List Pair). ps ++ take (100 - length ps) more) was.first ∙ first_of_both 100 pairs more;
      count = omega (arith, was.count, length-append pairs more, length-map c.args.later.now (λ v. pair_of c.args.earlier v c.args.meeting));
    })
