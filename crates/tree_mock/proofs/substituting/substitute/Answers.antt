use Rattle.std.proofs.Common.{◌≡◌, [], ap, ◌∙◌, subst}
use Rattle.base_texts.specs.Stops.{Gives}
use Rattle.spec_tree.specs.declared.term.Tree.{Tree}
use Rattle.spec_tree_file.specs.declared.mock_rules.Rules.{Rules}
use Rattle.spec_tree_file.specs.Substitutions.{replaced, with_mocks, within_limits}
use Rattle.tree_mock.proofs.Runs.{gives_runnable}
use Rattle.tree_mock.proofs.substituting.substitute.Goals as goal

pub returns-clause-runnable : goal.returns-clause-runnable
returns-clause-runnable c = λ can fit.
    let became = c.into_inner-term.ensures ∙ c.in_ok-replaced.ensures ∙ ap (λ (rules : Rules). replaced rules c.args.tree.now.term []) c.in_ok-lookup.ensures in
    let mocked : record { main = c.in_ok-main.main; term = c.into_inner-term.result } ≡ with_mocks c.args.tree.now c.args.rules.now = λ i. record { main = c.in_ok-main.ensures i; term = became i } in
    gives_runnable c.args.tree.now c.args.rules.now can fit c.within_limits.result
    (subst (λ (tree : Tree). Gives c.within_limits.result (within_limits tree)) mocked c.within_limits.ensures)
