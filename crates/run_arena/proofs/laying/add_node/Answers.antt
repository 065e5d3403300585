use Rattle.std.proofs.Common.{◌≡◌, List, [], ◌∷◌, ◌++◌, length, ap, ◌∙◌, arith}
use Rattle.std.proofs.lemmas.Result.{on_ok_weaker}
use Rattle.run_arena.specs.declared.nodes.Node.{Node}
use Rattle.run_arena.proofs.Added.{last_given}
use Rattle.run_arena.proofs.laying.add_node.Goals as goal

pub returns : goal.returns
returns g c =
    let place : c.len-place.result ≡ length c.args.nodes.now.items = omega (arith, c.len-place.ensures, c.args.nodes.now.ok.0) in
    on_ok_weaker c.fill.result
    (λ filled. record {
      node = c.fill.new.node;
      is = last_given c.args.nodes.now.items c.push_reserved.new.self.items c.bare_node.result c.len-place.result (c.push_reserved.ensures.items ∙ ap (λ (ns : List Node). ns ++ c.bare_node.result ∷ []) c.in_ok-reserve.ensures.items) place c.fill.new.node;
      filled = filled;
    }) c.fill.ensures
