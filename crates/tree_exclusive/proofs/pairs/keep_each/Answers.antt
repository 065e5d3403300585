use Rattle.std.proofs.Common.{◌<◌, ◌-◌, ◌++◌, ◌+◌, List, map, take, drop, length, ap, sym, ◌∙◌, arith}
use Rattle.std.proofs.lemmas.List.{drop_more}
use Rattle.spec_exclusive.specs.Pairs.{pair_of}
use Rattle.tree_exclusive.proofs.Walks.{one_kept}
use Rattle.tree_exclusive.proofs.pairs.keep_each.Goals as goal

pub loop-uid-preserved : goal.loop-uid-preserved
loop-uid-preserved c =
    let later = c.args.later.now in
    let i = c.loop-uid.uid-index in
    let pairs = c.loop-uid.pairs.items in
    let few : length pairs < 100 = omega arith in
    one_kept pairs c.push.new.self.items (map (λ v. pair_of c.args.earlier v c.args.meeting) (drop (i + 1) later)) _ _ few c.in_ok-push.ensures.items
    (ap (λ (us : List _). pairs ++ take (100 - length pairs) (map (λ v. pair_of c.args.earlier v c.args.meeting) us)) (sym (drop_more later i 0 c.loop-uid-test.true)) ∙ c.loop-uid.invariant)
