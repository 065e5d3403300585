use Rattle.std.proofs.Common.{◌≡◌, List, length, Ok, ap, sym, ◌∙◌, arith}
use Rattle.spec_tree.specs.declared.term.Port.{Port}
use Rattle.std.proofs.lemmas.Bool.{eqb-true}
use Rattle.tree_build.proofs.Defaults.{added_by, empty_by, refused_by, shared_by}
use Rattle.tree_build.proofs.ports.with_model.Goals as goal

pub returns-then-not-are_written : goal.returns-then-not-are_written
returns-then-not-are_written c =
    refused_by c.args.uid c.args.attributes.now c.in_ok-looked.looked c.args.ports.items c.args.model.now.ports c.faulty.result.now c.are_written.result
    c.in_ok-looked.ensures c.faulty.ensures c.are_written.ensures c.if-not-are_written.true

pub returns-then-writes_none : goal.returns-then-writes_none
returns-then-writes_none c =
    let none : length c.args.ports.items ≡ 0 = omega (arith, eqb-true _ 0 (sym c.is_empty.ensures ∙ c.if-is_empty.true), c.args.ports.ok.0) in
    shared_by c.args.uid c.args.attributes.now c.in_ok-looked.looked c.args.ports.items c.in_ok-share.field-0 c.args.model.now.ports c.faulty.result.now c.are_written.result
    c.in_ok-looked.ensures c.faulty.ensures c.are_written.ensures c.if-not-are_written.false
    (empty_by c.args.ports.items none) (sym c.writes_none.ensures ∙ c.if-writes_none.true)
    (c.in_ok-share.ensures ∙ c.defaults.ensures)

pub returns : goal.returns
returns c =
    added_by c.args.uid c.args.attributes.now c.in_ok-looked.looked c.args.ports.items c.in_ok-ports.ports.items c.list.result.now c.args.model.now.ports c.faulty.result.now c.are_written.result
    c.in_ok-looked.ensures c.faulty.ensures c.are_written.ensures c.if-not-are_written.false (c.list.ensures ∙ c.defaults-2.ensures) c.in_ok-ports.ensures
    ∙ ap (λ (ports : List Port). Ok ports) (sym c.in_ok-of.ensures)
