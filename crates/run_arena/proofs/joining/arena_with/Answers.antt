use Rattle.std.proofs.Common.{◌≡◌, List, length, replicate, refl, ap, ◌∙◌, arith}
use Rattle.spec_tree.specs.Terms.{leaf_ids}
use Rattle.run_arena.specs.declared.nodes.Node.{Node}
use Rattle.run_arena.specs.Laying.{counted_all}
use Rattle.run_arena.specs.Nodes.{at_rest, node_at}
use Rattle.run_arena.proofs.Making.{first_ones, next_places, tree_numbered, tree_served, tree_size, tree_stands_there}
use Rattle.run_arena.proofs.Standing.{can_be_laid}
use Rattle.run_arena.proofs.joining.arena_with.Goals as goal

pub nodes_of-requires-clause-can : goal.nodes_of-requires-clause-can
nodes_of-requires-clause-can g c = can_be_laid c.args.setting.now.tree.now c.args.setting.now.world.now (g.D.Drivers.states c.args.drivers.now) c.requires.tree c.requires.joined

pub nodes_of-requires-clause-few : goal.nodes_of-requires-clause-few
nodes_of-requires-clause-few g c = omega (arith, c.requires.tree.limits.nodes)

pub nodes_of-requires-clause-places : goal.nodes_of-requires-clause-places
nodes_of-requires-clause-places g c =
    let drivers = g.D.Drivers.states c.args.drivers.now in
    let counts = counted_all c.args.setting.now.world.now drivers (leaf_ids c.args.setting.now.tree.now.term) (replicate (length drivers) 0) in
    let zeros : c.in_ok-next.next.items ≡ replicate (length drivers) 0 =
    c.in_ok-next.ensures.items_if_clones_equal (λ _ same. same) ∙ ap (λ n. replicate n 0) c.count.ensures in
    next_places c.args.setting.now.tree.now c.args.setting.now.world.now drivers 1 counts c.deref_mut.result.now refl (c.deref_mut.ensures.value ∙ zeros ∙ first_ones c.args.setting.now.tree.now c.args.setting.now.world.now drivers)

pub returns : goal.returns
returns g c =
    let tree = c.args.setting.now.tree.now in
    let world = c.args.setting.now.world.now in
    let drivers = g.D.Drivers.states c.args.drivers.now in
    let counts = counted_all world drivers (leaf_ids tree.term) (replicate (length drivers) 0) in
    let nodes = c.in_ok-nodes.nodes.items in
    let next = c.deref_mut.result.now in
    let zeros : c.in_ok-next.next.items ≡ replicate (length drivers) 0 =
    c.in_ok-next.ensures.items_if_clones_equal (λ _ same. same) ∙ ap (λ n. replicate n 0) c.count.ensures in
    let are_next = c.deref_mut.ensures.value ∙ zeros ∙ first_ones tree world drivers in
    let laid = c.in_ok-nodes.ensures.laid in
    let size = tree_size tree world drivers 1 counts next refl are_next nodes c.nodes_of.new.next laid in
    record {
      runner = refl;
      stands = tree_stands_there tree world drivers 1 counts next refl are_next nodes c.nodes_of.new.next laid;
      nobody = ap (λ (ns : List Node). node_at ns 0) laid.is;
      size = size;
      kept = c.in_ok-kept.ensures ∙ ap (λ n. replicate n at_rest) (omega (arith, c.len.ensures, c.in_ok-nodes.nodes.ok.0, size));
      numbered = tree_numbered tree world drivers 1 counts next refl are_next nodes c.nodes_of.new.next laid;
      serves = tree_served tree world drivers 1 counts next refl are_next nodes c.nodes_of.new.next laid;
      no_visits = c.in_ok-frames.ensures.empty;
      room = c.in_ok-frames.ensures.room;
    }
