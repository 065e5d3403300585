use Rattle.std.proofs.Common.{◌≡◌, ◌++◌, ℕ, Bool, true, List, Result, Ok, Err, IfOk, ap, sym, subst, ◌∙◌}
use Rattle.std.specs.List.{AllByRecursion}
use Rattle.spec_run.specs.Run.{run_over}
use Rattle.spec_dead.specs.Dead.{outlook, unmarked}
use Rattle.tree_dead.specs.Runs.{IsNeverNamed}
use Rattle.tree_dead.proofs.marking.dead.Goals as goal

ok_gives : {A E : Type 0} {P Q : A → Type 0} (r : Result A E) → ((a : A) → P a → Q a) → IfOk r P → IfOk r Q
ok_gives (Ok a) f p = f a p
ok_gives (Err e) f p = tt

pub returns-clause-unvisited : goal.returns-clause-unvisited
returns-clause-unvisited c =
    let tree = c.args.tree.now in
    let marks : List Bool = (outlook tree.term).marks true in
    let are : c.as_slice.result.now ≡ marks = c.as_slice.ensures.value ∙ c.in_ok-mark.ensures.marks ∙ ap (λ (l : List Bool). l ++ marks) c.new-marks.ensures.items in
    ok_gives c.unmarked.result
    (λ uids is. λ valid world rows events.
    subst (λ (l : List ℕ). AllByRecursion (IsNeverNamed (run_over tree world events).blocks) l) (sym (is ∙ ap (λ (l : List Bool). unmarked 1 l) are))
    (c.no_run_visits_a_dead_node.ensures.notes tree world valid rows events))
    c.unmarked.ensures
