use Rattle.std.proofs.Common.{Some}
use Rattle.std.proofs.lemmas.Result.{on_ok_weaker}
use Rattle.spec_tree.specs.declared.term.Term.{out-Term}
use Rattle.run_arena.specs.Resolving.{view_in}
use Rattle.run_arena.specs.Stands.{written}
use Rattle.run_arena.proofs.Added.{node_filled, no_leaf_filled}
use Rattle.run_arena.proofs.laying.fill.Goals as goal

pub returns-in-Leaf : goal.returns-in-Leaf
returns-in-Leaf g c =
    let view = view_in c.args.setting.now.tree.now c.args.setting.now.world.now c.args.scope in
    on_ok_weaker c.fill_leaf.result
    (λ given. node_filled (g.D.Drivers.states c.args.drivers.now) view (written (out-Term c.args.term.now)) c.args.node.now c.give_scripts.new.node c.fill_leaf.new.node (Some given.leaf)
    c.args.next.now c.fill_leaf.new.next c.requires.fit c.requires.bare c.in_ok-give_scripts.ensures.same c.in_ok-give_scripts.ensures.scripted
    given.stands given.is_next given.counted given.is) c.fill_leaf.ensures

pub returns-in_default : goal.returns-in_default
returns-in_default g c =
    let view = view_in c.args.setting.now.tree.now c.args.setting.now.world.now c.args.scope in
    no_leaf_filled (g.D.Drivers.states c.args.drivers.now) view (written (out-Term c.args.term.now)) c.args.node.now c.give_scripts.new.node
    c.args.next.now c.requires.fit c.requires.bare c.in_ok-give_scripts.ensures.same c.in_ok-give_scripts.ensures.scripted c.in_default.not-Leaf
