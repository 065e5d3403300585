use Rattle.std.proofs.Common.{rules, ◌≡◌, None, ap, replicate, sym, subst, ◌∙◌}
use Rattle.spec_run.specs.declared.leaf.DriverKind.{DriverKind}
use Rattle.test_leaves.specs.Stages.{IsAtWork}
use Rattle.test_leaves.proofs.AtWork.{prepared_work}
use Rattle.test_leaves.proofs.leaves.stage_of.Goals as goal

pub returns-clause-work : goal.returns-clause-work
returns-clause-work g c =
    let ds = g.D.Drivers.states c.args.drivers.now in
    let twos : c.in_ok-counts.counts.items ≡ replicate c.count.result 2 = search rules in
    let none : c.in_ok-since.since.items ≡ replicate 2 None = search rules in
    let counts = c.as_slice.ensures.value ∙ twos ∙ ap (λ n. replicate n 2) c.count.ensures in
    let kind = c.kind_of.ensures ∙ sym c.in_ok-ready.ensures.kind in
    subst (λ (kind : DriverKind). IsAtWork (g.D.Drivers.states c.prepare.new.self) c.in-Some.place kind c.in_ok-since.since.items) kind
    (prepared_work ds c.kind_of.result c.in-Some.place (sym c.place_of.ensures ∙ c.in-Some.is) c.as_slice.result.now counts _ c.in_ok-prepare.ensures.ok _ none)
