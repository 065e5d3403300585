use Rattle.std.proofs.Common.{◌≡◌, ◌≢◌, List, [], length, ap, sym, ◌∙◌, subst, true≢false}
use Rattle.std.specs.Prelude.{IfOk}
use Rattle.std.specs.Bool.{◌==◌}
use Rattle.spec_tree.specs.declared.term.Term.{Term, out-Term, roll-Term}
use Rattle.spec_tree_file.specs.Substitutions.{with_children}
use Rattle.tree_mock.proofs.Replacing.{replaced-inner}
use Rattle.tree_mock.proofs.substituting.+terms.Goals as goal

pub replaced-returns : goal.replaced-returns
replaced-returns t c =
    let term = c.args.term.now in
    let some : (out-Term term).children ≢ [] =
    λ none. true≢false (sym (c.is_empty.ensures ∙ ap (λ (terms : List Term). length terms == 0) (c.list.ensures ∙ none)) ∙ c.if-is_empty.false) in
    let becomes = ap (λ (children : List Term). roll-Term (with_children (out-Term term) children)) c.in_ok-children.ensures ∙ sym (replaced-inner c.args.rules.now term c.args.above.now some) in
    subst (λ (t : Term). IfOk c.over_children.result (λ r. r ≡ t)) becomes c.over_children.ensures
