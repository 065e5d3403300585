use Rattle.std.proofs.Common.{◌∙◌, ◌<◌, List, ap, arith, length, map, sym, take}
use Rattle.std.proofs.lemmas.List.{take_all}
use Rattle.std.specs.List.{flat_map}
use Rattle.spec_tree.specs.PrintedTree.{WrittenTree, printed, with_trees}
use Rattle.spec_tree.specs.declared.term.Term.{Term, out-Term}
use Rattle.text_lines.specs.Trees.{written}
use Rattle.text_lines.proofs.Trees.{with_trees-more, with_trees-opened}
use Rattle.text_lines.proofs.tree.+add_opened.Goals as goal

pub loop-child-preserved : goal.loop-child-preserved
loop-child-preserved t c =
    let opened = λ (n : Term). (printed n).opened in
    let nodes = c.list-child-items.result.now in
    let i = c.loop-child.child-index in
    let before = map written c.add_own.new.trees.items in
    let within : i < length nodes = omega arith in
    c.in_ok-add_opened.ensures
    ∙ ap (λ (ts : List WrittenTree). with_trees ts (opened c.child-item.result)) c.loop-child.invariant
    ∙ ap (λ (n : Term). with_trees (with_trees before (flat_map opened (take i nodes))) (opened n)) c.child-item.is
    ∙ sym (with_trees-more opened before nodes i c.child-item.result within)

pub returns : goal.returns
returns t c =
    let opened = λ (n : Term). (printed n).opened in
    let nodes = c.list-child-items.result.now in
    let children = (out-Term c.args.term.now).children in
    let all = take_all c.loop-child.child-index nodes (omega arith) in
    c.loop-child.invariant
    ∙ ap (λ (ns : List Term). with_trees (map written c.add_own.new.trees.items) (flat_map opened ns)) (all ∙ c.list-child-items.ensures)
    ∙ ap (λ (ts : List WrittenTree). with_trees ts (flat_map opened children)) c.in_ok-add_own.ensures
    ∙ with_trees-opened (map written c.args.trees.now.items) c.args.term.now
