use Rattle.std.proofs.Common.{ap, refl, subst, sym}
use Rattle.spec_run.specs.Run.{RunState, step}
use Rattle.spec_run.specs.Served.{Setup}
use Rattle.spec_session.specs.Events.{Leaves, event_step}
use Rattle.spec_session.specs.Sessions.{Sitting}
use Rattle.run_loop.specs.Steps.{CanCome, event_side}
use Rattle.host_session.specs.Sittings.{sitting}
use Rattle.host_session.specs.Five.{states_of}
use Rattle.host_session.proofs.Events.{given_left, given_runs, made_leaves, made_ready}
use Rattle.host_session.proofs.session.Session.make.Goals as goal

pub make_event-made-requires : goal.make_event-made-requires
make_event-made-requires g c =
    let now = c.args.self.now in
    let can = subst (λ (x : Sitting). CanCome g.of x.state.last c.args.event) (sym c.self.view_is) c.requires.1.1 in
    (given_runs g.of c.self.inside now c.self.view_is c.self.invariant c.requires.0 c.requires.1.0, (can, c.self.invariant.room))

pub returns : goal.returns
returns g c =
    let s = c.self.inside in
    let made = c.make_event-made in
    let new = event_side (states_of made.new.five) made.new.runs made.new.block in
    let left = given_left g.of s c.args.self.now c.self.view_is c.self.invariant c.requires.0
    (λ (of : Setup) (state : RunState). step of.tree of.world c.args.event state) made.result new made.ensures in
    subst (λ r. Leaves c.args.self.now (event_step c.args.self.now c.args.event) r (sitting s.tree s.world s.own.items new)) (sym c.ended.ensures)
    (made_leaves s c.args.self.now (λ x. event_step x c.args.event) made.result new c.self.view_is left)

pub invariant_of-self : goal.invariant_of-self
invariant_of-self g c =
    let s = c.self.inside in
    let made = c.make_event-made in
    let new = event_side (states_of made.new.five) made.new.runs made.new.block in
    let left = given_left g.of s c.args.self.now c.self.view_is c.self.invariant c.requires.0
    (λ (of : Setup) (state : RunState). step of.tree of.world c.args.event state) made.result new made.ensures in
    made_ready s c.args.self.now (λ x. event_step x c.args.event) made.result
    (record s { runs = made.new.runs; five = made.new.five; block = made.new.block }) c.self.view_is c.self.invariant left refl refl refl refl
