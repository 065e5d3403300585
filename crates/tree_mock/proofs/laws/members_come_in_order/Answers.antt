use Rattle.tree_mock.proofs.Ordered.{json_in_order}
use Rattle.tree_mock.proofs.laws.members_come_in_order.Goals as goal

pub returns : goal.returns
returns c = json_in_order
