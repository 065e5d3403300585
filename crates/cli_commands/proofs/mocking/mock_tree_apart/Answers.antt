use Rattle.cli_commands.proofs.Made.{made_nodes, made_work}
use Rattle.cli_commands.proofs.mocking.mock_tree_apart.Goals as goal

pub returns-clause-nodes : goal.returns-clause-nodes
returns-clause-nodes c = made_nodes c.in_ok-tree.tree c.in_ok-rules.rules c.substitute.result c.substitute.ensures.gives

pub returns-clause-work : goal.returns-clause-work
returns-clause-work c = made_work c.in_ok-tree.tree c.in_ok-rules.rules c.substitute.result c.substitute.ensures.gives
