-- What rules make of a tree is within the limits that its print needs.
use Rattle.std.proofs.Common.{◌≡◌, ◌≤◌, Bool, true, false, nat_le, length, Option, Some, None, Result, Ok, Err, refl, subst}
use Rattle.std.specs.Prelude.{IfOk}
use Rattle.std.proofs.lemmas.Bool.{leb-true}
use Rattle.base_texts.specs.declared.stop.Stop.{Stop}
use Rattle.base_texts.specs.Stops.{Gives}
use Rattle.spec_tree.specs.declared.term.Tree.{Tree}
use Rattle.spec_tree.specs.Boards.{slots}
use Rattle.spec_tree.specs.Limits.{most_depth, most_keys, most_nodes, most_work}
use Rattle.spec_tree.specs.Terms.{depth_of, node_count, work_of}
use Rattle.spec_tree_file.specs.declared.mock_fault.MockFault.{MockFault}
use Rattle.spec_tree_file.specs.declared.mock_fault.MockFault.TheVariants.{TooDeep, TooManyKeys, TooManyNodes, TooMuchWork}
use Rattle.spec_tree_file.specs.declared.mock_rules.Rules.{Rules}
use Rattle.spec_tree_file.specs.Substitutions.{passed_limit, refused_by, substitute, unless, with_mocks}

passed : (b : Bool) (fault : MockFault) (others : Option MockFault) → unless b fault others ≡ None → (b ≡ true) × (others ≡ None)
passed true fault others none = (refl, none)
passed false fault others none = absurd (cc)

-- a tree has no more nodes than it may have, and no more work
abbrev IsPrintable : Tree → Type 0
IsPrintable tree = (node_count tree.term ≤ most_nodes) × (work_of tree.term ≤ most_work)

printable : (tree : Tree) → passed_limit tree ≡ None → IsPrintable tree
printable tree none =
    let nodes = passed (nat_le (node_count tree.term) most_nodes) TooManyNodes _ none in
    let depth = passed (nat_le (depth_of tree.term) most_depth) TooDeep _ nodes.1 in
    let keys = passed (nat_le (length (slots tree)) most_keys) TooManyKeys _ depth.1 in
    let work = passed (nat_le (work_of tree.term) most_work) TooMuchWork _ keys.1 in
    (leb-true (node_count tree.term) most_nodes nodes.0, leb-true (work_of tree.term) most_work work.0)

refused_or_printable : (mocked : Tree) (o : Option MockFault) → passed_limit mocked ≡ o → (t : Tree) → refused_by o mocked ≡ Ok t → IsPrintable t
refused_or_printable mocked None none t e =
    let same : mocked ≡ t = cc in
    subst IsPrintable same (printable mocked none)
refused_or_printable mocked (Some fault) passes t e = absurd (cc)

pub made_nodes : (tree : Tree) (rules : Rules) (r : Result Tree (Stop MockFault)) → Gives r (substitute tree rules) → IfOk r (λ made. node_count made.term ≤ most_nodes)
made_nodes tree rules (Ok t) e = (refused_or_printable (with_mocks tree rules) (passed_limit (with_mocks tree rules)) refl t e).0
made_nodes tree rules (Err stop) e = tt

pub made_work : (tree : Tree) (rules : Rules) (r : Result Tree (Stop MockFault)) → Gives r (substitute tree rules) → IfOk r (λ made. work_of made.term ≤ most_work)
made_work tree rules (Ok t) e = (refused_or_printable (with_mocks tree rules) (passed_limit (with_mocks tree rules)) refl t e).1
made_work tree rules (Err stop) e = tt
