use Rattle.std.proofs.Common.{List, ap, ◌∙◌}
use Rattle.std.specs.List.{find}
use Rattle.spec_plan.specs.declared.domain.Template.{Template}
use Rattle.plan_tree.specs.Expanded.{is_new}
use Rattle.plan_tree.specs.Growth.{achievers_at}
use Rattle.plan_tree.proofs.Indexed.{kept_first}
use Rattle.plan_tree.proofs.expanding.next_template.Goals as goal

pub returns : goal.returns
returns c = λ world tree st.
    let t = c.args.t.now in
    c.first_new.ensures
    ∙ ap (find (is_new t.nodes c.args.tried.now)) (c.achievers_at.ensures ∙ ap (λ (l : List (List Template)). achievers_at l c.args.condition) c.list.ensures)
    ∙ kept_first world t tree st c.args.condition c.args.tried.now
