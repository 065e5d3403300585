use Rattle.std.proofs.Common.{refl, subst, sym}
use Rattle.spec_run.specs.Run.{RunState, finish}
use Rattle.spec_run.specs.Served.{Setup}
use Rattle.spec_session.specs.Events.{Leaves, finish_step}
use Rattle.run_loop.specs.Steps.{event_side}
use Rattle.host_session.specs.Sittings.{sitting}
use Rattle.host_session.specs.Five.{states_of}
use Rattle.host_session.proofs.Events.{given_left, given_runs, made_leaves, made_ready}
use Rattle.host_session.proofs.session.Session.make_finish.Goals as goal

pub finish_runner-made-requires : goal.finish_runner-made-requires
finish_runner-made-requires g c =
    let now = c.args.self.now in (
      given_runs g.of c.self.inside now c.self.view_is c.self.invariant c.requires.0 c.requires.1.0,
      (c.requires.1.1.0, (c.requires.1.1.1, c.self.invariant.room)),
    )

pub returns : goal.returns
returns g c =
    let s = c.self.inside in
    let made = c.finish_runner-made in
    let new = event_side (states_of made.new.five) made.new.runs made.new.block in
    let left = given_left g.of s c.args.self.now c.self.view_is c.self.invariant c.requires.0
    (λ (of : Setup) (state : RunState). finish of.tree of.world c.args.runner state) made.result new made.ensures in
    subst (λ r. Leaves c.args.self.now (finish_step c.args.self.now c.args.runner) r (sitting s.tree s.world s.own.items new)) (sym c.ended.ensures)
    (made_leaves s c.args.self.now (λ x. finish_step x c.args.runner) made.result new c.self.view_is left)

pub invariant_of-self : goal.invariant_of-self
invariant_of-self g c =
    let s = c.self.inside in
    let made = c.finish_runner-made in
    let new = event_side (states_of made.new.five) made.new.runs made.new.block in
    let left = given_left g.of s c.args.self.now c.self.view_is c.self.invariant c.requires.0
    (λ (of : Setup) (state : RunState). finish of.tree of.world c.args.runner state) made.result new made.ensures in
    made_ready s c.args.self.now (λ x. finish_step x c.args.runner) made.result
    (record s { runs = made.new.runs; five = made.new.five; block = made.new.block }) c.self.view_is c.self.invariant left refl refl refl refl
