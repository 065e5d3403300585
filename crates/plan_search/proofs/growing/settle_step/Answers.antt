use Rattle.std.proofs.Common.{◌∙◌, List, ap, refl}
use Rattle.spec_world.specs.declared.world.Row.{Row}
use Rattle.spec_plan.specs.Planned.{id_of}
use Rattle.spec_plan.specs.Settling.{name_at}
use Rattle.plan_search.proofs.Settlements.{settled_in, stalled}
use Rattle.plan_search.proofs.growing.settle_step.Goals as goal

pub returns-in_ok-name_at-in-Some-2 : goal.returns-in_ok-name_at-in-Some-2
returns-in_ok-name_at-in-Some-2 c = λ tree st is. (
  stalled c.settle-settled.new.t c.args.world.now c.args.grown tree c.settle-settled.result (c.settle-settled.ensures c.args.world.now tree st is) (c.in-Some.action, c.in-Some.condition) c.in-Some.is
      c.in_ok-name_at-in-Some.field-0 c.in_ok-name_at-in-Some-2.field-0
      (λ w f stands has. c.in_ok-name_at-in-Some.ensures w f stands has ∙ ap (λ (rows : List Row). name_at rows f c.in-Some.action) c.list-rows.ensures)
      (λ w f stands has. c.in_ok-name_at-in-Some-2.ensures w f stands has ∙ ap (λ (rows : List Row). name_at rows f c.in-Some.condition) c.list-rows.ensures),
  refl,
)

pub returns-in_ok-push-in-None : goal.returns-in_ok-push-in-None
returns-in_ok-push-in-None c = λ tree st is.
    settled_in c.settle-settled.new.t c.args.world.now c.args.grown tree c.settle-settled.result (c.settle-settled.ensures c.args.world.now tree st is) c.in-None.is c.args.steps.now.items c.push-in-None.new.self.items
    (record { uid = c.args.grown.place.uid; condition = c.in_ok-id_of-in-None.field-0; action = c.in_ok-id_of-in-None-2.field-0; raises = c.settle-settled.result.raises })
    c.in_ok-push-in-None.ensures.items refl refl
    (c.in_ok-id_of-in-None.ensures ∙ ap (λ (rows : List Row). id_of rows c.args.grown.place.row) c.list-rows.ensures)
    (c.in_ok-id_of-in-None-2.ensures ∙ ap (λ (rows : List Row). id_of rows c.args.grown.action) c.list-rows.ensures)
