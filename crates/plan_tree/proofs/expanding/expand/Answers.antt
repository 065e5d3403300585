use Rattle.std.proofs.Common.{◌≡◌, Some, sym, subst}
use Rattle.std.proofs.lemmas.Result.{err_from_is_err_and}
use Rattle.slab.specs.Slab.{get}
use Rattle.plan_tree.specs.declared.node.Node.{Node}
use Rattle.spec_plan.specs.declared.part.Part.TheVariants.{Sequence}
use Rattle.plan_tree.specs.Expanded.{GrowsAt}
use Rattle.spec_plan.specs.Expansion.{untried}
use Rattle.spec_plan.specs.Forests.{is_fallback}
use Rattle.plan_tree.specs.Growth.{parts_of, rule_needs}
use Rattle.plan_tree.specs.Stands.{StandsFor}
use Rattle.plan_tree.proofs.Expands.{expands, room_stands}
use Rattle.plan_tree.proofs.Searched.{first_none}
use Rattle.plan_tree.proofs.expanding.expand.Goals as goal

pub returns-in_err-add_sequence-in-Some-clause-untried : goal.returns-in_err-add_sequence-in-Some-clause-untried
returns-in_err-add_sequence-in-Some-clause-untried c = λ world tree st is.
    let p = err_from_is_err_and c.from_residual.result c.from_residual.ensures.1 in
    let chosen = c.in-Some.ensures world tree st is in
    (λ e. absurd (cc (e, p.1, p.2)), λ e. absurd (cc (chosen.first, first_none (untried world.rows c.args.key tree) e)))

pub returns-in_ok-add_sequence-in-Some-clause-added : goal.returns-in_ok-add_sequence-in-Some-clause-added
returns-in_ok-add_sequence-in-Some-clause-added c = λ world tree st is.
    let chosen = c.in-Some.ensures world tree st is in
    expands world c.args.t.now tree st c.args.key is c.add_sequence.new.nodes c.in-Some.choice chosen c.in_ok-add_sequence-in-Some.field-0
    (subst (λ rules. (node : Node) → get c.args.t.now.nodes c.in-Some.choice.parent ≡ Some node →
    GrowsAt (is_fallback node.part) c.args.t.now.nodes c.add_sequence.new.nodes c.in-Some.choice.parent c.args.key c.in_ok-add_sequence-in-Some.field-0 (Sequence c.in-Some.choice.row)
    (parts_of (rule_needs rules c.in-Some.choice.row) (Some c.in-Some.choice.row))) c.list.ensures c.in_ok-add_sequence-in-Some.ensures.added)

pub returns-in_ok-add_sequence-in-Some-clause-untried : goal.returns-in_ok-add_sequence-in-Some-clause-untried
returns-in_ok-add_sequence-in-Some-clause-untried c = λ world tree st is.
    let chosen = c.in-Some.ensures world tree st is in
    (λ e. absurd (cc e), λ e. absurd (cc (chosen.first, first_none (untried world.rows c.args.key tree) e)))

pub returns-in_err-add_sequence-in-Some-clause-stands : goal.returns-in_err-add_sequence-in-Some-clause-stands
returns-in_err-add_sequence-in-Some-clause-stands c =
    let p = err_from_is_err_and c.from_residual.result c.from_residual.ensures.1 in
    let t = c.args.t.now in
    rw (p.1) (λ world tree st.
    subst (λ nodes. StandsFor (record t { nodes = nodes }) world tree) (sym c.in_err-add_sequence-in-Some.ensures.kept) (room_stands world t tree c.add_sequence.new.nodes.capacity st))
