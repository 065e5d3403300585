use Rattle.std.proofs.Common.{◌≡◌, ℕ, ◌+◌, ◌*◌, List, ◌++◌, length, map, sum, drop}
use Rattle.spec_tree.specs.Terms.{node_count}
use Rattle.run_arena.specs.declared.nodes.Node.{Node}
use Rattle.run_arena.specs.Laying.{AreLaid, CanBeLaid}
use Rattle.run_arena.specs.Stands.{uids_of}
use Rattle.run_arena.proofs.laying.+laying.Given as goal

abbrev pub decreases-lay_term : goal.decreases-lay_term
decreases-lay_term g l = 2 * node_count l.term.now

abbrev pub decreases-lay_terms : goal.decreases-lay_terms
decreases-lay_terms g l = 2 * sum (map node_count l.terms.now) + 1

-- the terms still to come can be added, and with them all are
abbrev pub invariant-lay_terms-loop-term : goal.invariant-lay_terms-loop-term
invariant-lay_terms-loop-term g l = record {
  can : CanBeLaid l.setting.tree.now l.setting.world.now (g.D.Drivers.states l.drivers) (drop l.term-index l.terms) (length l.nodes.items) l.scope;
  whole : (new : List Node) (left : List ℕ) → AreLaid l.setting.tree.now l.setting.world.now (g.D.Drivers.states l.drivers) (drop l.term-index l.terms) l.scope l.nodes.items new l.next left
      → AreLaid l.setting.tree.now l.setting.world.now (g.D.Drivers.states l.drivers) l.terms l.scope l.initial.nodes.items new l.initial.next left;
  uids : l.uids ++ uids_of (drop l.term-index l.terms) (length l.nodes.items) ≡ uids_of l.terms (length l.initial.nodes.items);
  places : length l.next ≡ length (g.D.Drivers.states l.drivers);
}
