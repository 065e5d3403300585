use Rattle.std.proofs.Common.{◌+◌, ◌∙◌, List, ℕ, Option, Ok, length, ap, sym, subst, refl}
use Rattle.spec_plan.specs.declared.ending.End.{End}
use Rattle.spec_plan.specs.declared.ending.Step.{Step}
use Rattle.plan_search.specs.Going.{GoesFrom}
use Rattle.run_loop.proofs.Rising.{roster_both}
use Rattle.plan_search.proofs.Joined.{still_served}
use Rattle.plan_search.proofs.Planned.{UnderWay, no_step, on_err, plan_cut, plan_ended, step_made}
use Rattle.plan_search.proofs.planning.make_steps.Goals as goal

pub loop-init : goal.loop-init
loop-init g c =
    let drivers = g.D.Drivers.states c.args.drivers.now in
    let first = c.requires.first in
    record {
      way = subst (λ (l : List Step). UnderWay c.args.world.now c.args.task.now.limits c.args.t l drivers drivers) (sym c.new-steps.ensures.items)
          (no_step c.args.world.now c.args.task.now.limits c.args.t drivers first.0 first.1 first.2 c.requires.quiet);
      many = ap (λ (l : List Step). length l) c.new-steps.ensures.items;
    }

pub go_on-requires : goal.go_on-requires
go_on-requires g c = λ lifetimes live.
    let way = c.loop.invariant.way in
    (live, (refl, (c.requires.task, (still_served c.args.world.now _ _ way.roster c.requires.served, (way.none, ((way.tree, way.stands, way.many), way.few))))))

pub returns-in_err-end-clause-cut : goal.returns-in_err-end-clause-cut
returns-in_err-end-clause-cut g c =
    let way = c.loop.invariant.way in
    on_err c.from_residual.result (plan_cut c.args.world.now c.args.task.now.limits c.loop.t c.loop.steps.items _ _ way c.go_on.new.t c.go_on.new.steps.items _ c.in_err-end.field-0.0 (c.in_err-end.ensures.goes way.tree way.stands))

pub returns-in_err-end-clause-roster : goal.returns-in_err-end-clause-roster
returns-in_err-end-clause-roster g c = roster_both _ _ _ c.loop.invariant.way.roster c.go_on.ensures.roster

pub returns-in-Some-clause-plan : goal.returns-in-Some-clause-plan
returns-in-Some-clause-plan g c =
    let way = c.loop.invariant.way in
    plan_ended c.args.world.now c.args.task.now.limits c.loop.t c.loop.steps.items _ _ way c.go_on.new.t c.go_on.new.steps.items _ c.in-Some.end _
    (subst (λ (o : Option End). GoesFrom (Ok o) way.tree c.go_on.new.t c.args.world.now c.args.task.now.limits c.loop.steps.items c.go_on.new.steps.items (g.D.Drivers.states c.loop.drivers) (g.D.Drivers.states c.go_on.new.drivers)) c.in-Some.is
    (c.in_ok-end.ensures.goes way.tree way.stands)) c.of.ensures refl

pub returns-in-Some-clause-roster : goal.returns-in-Some-clause-roster
returns-in-Some-clause-roster g c = roster_both _ _ _ c.loop.invariant.way.roster c.go_on.ensures.roster

pub loop-preserved : goal.loop-preserved
loop-preserved g c =
    let way = c.loop.invariant.way in
    let both = step_made c.args.world.now c.args.task.now.limits c.loop.t c.loop.steps.items _ _ way c.go_on.new.t c.go_on.new.steps.items _
    (subst (λ (o : Option End). GoesFrom (Ok o) way.tree c.go_on.new.t c.args.world.now c.args.task.now.limits c.loop.steps.items c.go_on.new.steps.items (g.D.Drivers.states c.loop.drivers) (g.D.Drivers.states c.go_on.new.drivers)) c.in_default.is
    (c.in_ok-end.ensures.goes way.tree way.stands)) c.go_on.ensures.none c.go_on.ensures.roster in
    record { way = both.0; many = both.1 ∙ ap (λ (n : ℕ). n + 1) c.loop.invariant.many }
