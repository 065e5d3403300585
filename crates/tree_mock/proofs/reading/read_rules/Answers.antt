use Rattle.std.proofs.Common.{Result, subst}
use Rattle.serde_json.specs.Find.{as_object}
use Rattle.serde_json.specs.View.{view}
use Rattle.base_texts.specs.Stops.{Gives}
use Rattle.spec_tree_file.specs.declared.mock_fault.MockFault.{MockFault}
use Rattle.spec_tree_file.specs.declared.mock_rules.Rules.{Rules}
use Rattle.tree_mock.proofs.Asking.{rules_read}
use Rattle.tree_mock.proofs.ReadFit.{members_fit}
use Rattle.tree_mock.proofs.reading.read_rules.Goals as goal

pub returns-clause-gives : goal.returns-clause-gives
returns-clause-gives c =
    let kept = c.in_ok-value.ensures in
    subst (λ (said : Result Rules MockFault). Gives c.value_in.result said) (rules_read c.args.bytes.now (view c.in_ok-value.value) kept.0 kept.1 kept.2) c.value_in.ensures

pub returns-clause-fit : goal.returns-clause-fit
returns-clause-fit c = members_fit c.value_in.result (as_object (view c.in_ok-value.value)) c.value_in.ensures
