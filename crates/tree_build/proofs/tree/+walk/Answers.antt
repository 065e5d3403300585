use Rattle.std.proofs.Common.{◌≡◌, ◌<◌, ℕ, List, [], ◌∷◌, ◌++◌, length, Result, ap, sym, ◌∙◌, subst, arith}
use Rattle.std.proofs.lemmas.Bool.Decides.{nat_tests}
use Rattle.std.proofs.lemmas.Result.{err_from_is_err_and}
use Rattle.base_texts.specs.Stops.{Gives}
use Rattle.spec_tree.specs.declared.term.Term.{Term}
use Rattle.spec_tree_file.specs.declared.build_fault.BuildFault.{BuildFault}
use Rattle.spec_tree_file.specs.declared.numbers.Numbers.{Numbers}
use Rattle.spec_tree_file.specs.Reads.{node_of, nodes_by, read_node}
use Rattle.tree_build.specs.Seen.{file_seen, ids_seen}
use Rattle.tree_build.proofs.Nodes.{following_more, after_fault}
use Rattle.tree_build.proofs.Walk.{passed, read_some, node_plain, node_opened, node_fault}
use Rattle.tree_build.proofs.tree.+walk.Goals as goal

abbrev Read : Type 0
Read = Result (Term × Numbers) BuildFault

pub read_node-returns-in-Some : goal.read_node-returns-in-Some
read_node-returns-in-Some t c =
    let some : 0 < c.args.place.left = omega arith in
    let few : c.args.numbers.nodes < 4096 = omega arith in
    let e = read_some (file_seen c.args.file.now) c.args.place.left c.args.element.now (ids_seen c.args.place.opened.now) c.args.numbers c.in-Some.head some few (sym c.in-Some.is ∙ c.in_ok-head.ensures) in
    subst (λ (r : Read). Gives c.node_by.result r) (sym e) c.node_by.ensures

pub node_by-returns : goal.node_by-returns
node_by-returns t c =
    let file = file_seen c.args.file.now in
    let e = node_plain file (read_node file c.args.place.left) c.args.head c.args.element.now (ids_seen c.args.place.opened.now) c.args.numbers
    c.list-attributes.result.now c.list-children.result.now c.list-attributes.ensures c.list-children.ensures
    (sym c.is_subtree.ensures ∙ c.if-is_subtree.false) (sym c.takes.ensures ∙ c.if-not-takes.false) in
    subst (λ (r : Read). Gives c.node_of.result r) (sym e) c.node_of.ensures

pub opened_by-returns : goal.opened_by-returns
opened_by-returns t c =
    let file = file_seen c.args.file.now in
    let few : c.args.numbers.scopes < 256 = omega arith in
    let none : length c.list.result.now ≡ 0 = grind (arith, nat_tests) in
    let one : length c.list-roots.result.now ≡ 1 = omega arith in
    let e = node_opened file (read_node file c.args.place.left) c.args.head c.args.element.now c.in-Some.tree.now (ids_seen c.args.place.opened.now) (ids_seen c.as_slice.result.now) c.args.numbers
    c.list-attributes.result.now c.list.result.now c.list-roots.result.now c.list-attributes.ensures c.list.ensures c.list-roots.ensures
    c.in-Some.ensures (sym c.is_opened.ensures ∙ c.if-is_opened.false) few none one (ap ids_seen c.as_slice.ensures.value ∙ c.in_ok-inner.ensures ∙ ap (λ (id : List ℕ). ids_seen c.args.place.opened.now ++ id ∷ []) c.in_ok-own.ensures) in
    subst (λ (r : Read). Gives c.node_of.result r) (sym e) c.node_of.ensures

pub node_of-returns-in_err-terms : goal.node_of-returns-in_err-terms
node_of-returns-in_err-terms t c =
    let p = err_from_is_err_and c.from_residual-in_err-terms.result c.from_residual-in_err-terms.ensures.1 in
    let models = c.args.file.now.contents in
    let below = read_node (file_seen c.args.file.now) c.args.place.left in
    let opened = ids_seen c.args.place.opened.now in
    rw (p.1, p.2) (passed c.in_err-terms.field-0.0
    (nodes_by below opened c.args.children.now c.args.numbers)
    (node_of models below c.args.head c.args.attributes.now opened c.args.children.now c.args.numbers c.args.numbers.nodes)
    c.in_err-terms.ensures
    (λ f h. node_fault models below c.args.head c.args.attributes.now opened c.args.children.now c.args.numbers c.args.numbers.nodes c.in_ok-content.content f c.in_ok-content.ensures h))

pub nodes_by-loop-element-preserved : goal.nodes_by-loop-element-preserved
nodes_by-loop-element-preserved t c =
    let below = read_node (file_seen c.args.file.now) c.args.place.left in
    let opened = ids_seen c.args.place.opened.now in
    let within : c.loop-element.element-index < length c.args.elements.now = omega arith in
    let more = following_more below opened c.args.elements.now c.loop-element.element-index c.element-item.result c.loop-element.so_far c.in_ok-term.next c.loop-element.terms.items c.in_ok-term.term within c.element-item.is c.in_ok-term.ensures in
    rw c.in_ok-add_term.ensures (sym more ∙ c.loop-element.invariant)

pub nodes_by-returns-in_err-term : goal.nodes_by-returns-in_err-term
nodes_by-returns-in_err-term t c =
    let p = err_from_is_err_and c.from_residual-in_err-term.result c.from_residual-in_err-term.ensures.1 in
    let below = read_node (file_seen c.args.file.now) c.args.place.left in
    let opened = ids_seen c.args.place.opened.now in
    let within : c.loop-element.element-index < length c.args.elements.now = omega arith in
    rw (p.1, p.2) (passed c.in_err-term.field-0.0
    (below c.element-item.result opened c.loop-element.so_far)
    (nodes_by below opened c.args.elements.now c.args.numbers)
    c.in_err-term.ensures
    (λ f h. sym c.loop-element.invariant ∙ after_fault below opened c.args.elements.now c.loop-element.element-index c.element-item.result c.loop-element.so_far c.loop-element.terms.items f within c.element-item.is h))
