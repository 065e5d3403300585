use Rattle.std.proofs.Common.{◌∙◌, ap, sym, refl, subst}
use Rattle.spec_plan.specs.declared.ending.End.{End}
use Rattle.spec_plan.specs.Failing.{first_open, ids_of}
use Rattle.spec_plan.specs.PlanRuns.{Ends}
use Rattle.plan_search.proofs.Growths.{ok_gives}
use Rattle.plan_search.proofs.growing.end_at_limit.Goals as goal

pub returns-in-Some : goal.returns-in-Some
returns-in-Some c = λ trial st are decides failed.
    let world = c.args.world.now in (
      record {
        decides = decides;
        place = c.in-Some.field-0;
        first = ap (first_open world.rows trial.tree) (sym failed) ∙ sym (c.first_open.ensures world trial.tree st are) ∙ c.in-Some.is;
      },
      refl,
      refl,
    )

pub returns-in-None : goal.returns-in-None
returns-in-None c =
    let world = c.args.world.now in
    ok_gives c.no_template.result
    (λ end is. λ trial st are decides failed.
    subst (λ (e : End). Ends world c.args.limits.now c.args.limits.now.expand trial e) (sym is) (record {
      decides = decides;
      none = ap (first_open world.rows trial.tree) (sym failed) ∙ sym (c.first_open.ensures world trial.tree st are) ∙ c.in-None.is;
      are = ap (ids_of world.rows) failed;
    }))
    c.no_template.ensures
