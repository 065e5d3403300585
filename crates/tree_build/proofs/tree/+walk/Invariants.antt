use Rattle.std.proofs.Common.{◌≡◌, ◌+◌, ◌*◌, drop}
use Rattle.spec_tree_file.specs.Reads.{nodes_by, read_node}
use Rattle.tree_build.specs.Seen.{file_seen, ids_seen}
use Rattle.tree_build.proofs.Nodes.{following}
use Rattle.tree_build.proofs.tree.+walk.Given as goal

abbrev pub invariant-nodes_by-loop-element : goal.invariant-nodes_by-loop-element
invariant-nodes_by-loop-element l =
    following l.terms.items (nodes_by (read_node (file_seen l.file) l.place.left) (ids_seen l.place.opened.now) (drop l.element-index l.elements) l.so_far)
    ≡ nodes_by (read_node (file_seen l.file) l.place.left) (ids_seen l.place.opened.now) l.elements l.fn.numbers

abbrev pub decreases-read_node : goal.decreases-read_node
decreases-read_node l = 5 * l.place.left

abbrev pub decreases-nodes_by : goal.decreases-nodes_by
decreases-nodes_by l = 5 * l.place.left + 1

abbrev pub decreases-node_of : goal.decreases-node_of
decreases-node_of l = 5 * l.place.left + 2

abbrev pub decreases-opened_by : goal.decreases-opened_by
decreases-opened_by l = 5 * l.place.left + 3

abbrev pub decreases-node_by : goal.decreases-node_by
decreases-node_by l = 5 * l.place.left + 4
