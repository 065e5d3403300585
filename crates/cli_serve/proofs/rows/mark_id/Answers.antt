use Rattle.std.proofs.Common.{sym, ap, ◌∙◌}
use Rattle.cli_serve.specs.Leaves.{Seen, no_condition}
use Rattle.cli_serve.proofs.Tables.{none_changed, one_changed}
use Rattle.cli_serve.proofs.rows.mark_id.Goals as goal

pub returns-in-Some : goal.returns-in-Some
returns-in-Some c =
    (c.get_mut.follows.holds (no_condition (record { condition = c.leaf.inside.is_condition; ports = c.leaf.inside.ports.items }))).0
    ∙ one_changed c.args.id.now no_condition c.args.leaves.now.entries c.in-Some.leaf.now (no_condition (record { condition = c.leaf.inside.is_condition; ports = c.leaf.inside.ports.items }))
    c.in-Some.ensures.unique (sym c.in-Some.ensures.value) (ap (λ (seen : Seen). no_condition seen) c.leaf.view_is)

pub returns-in_default : goal.returns-in_default
returns-in_default c = ap (λ m. m.entries) c.get_mut.follows.holds-at-none ∙ none_changed c.args.id.now no_condition c.args.leaves.now.entries (sym c.in_default.ensures.value)
