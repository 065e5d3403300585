use Rattle.std.proofs.Common.{ℤ, subst, arith}
use Rattle.spec_run.specs.Run.{change_step}
use Rattle.spec_world.specs.Worlds.{IsValidWhat}
use Rattle.run_loop.specs.Steps.{EventLeft, event_side, kept_state}
use Rattle.run_loop.proofs.Messages.{can_hear_event}
use Rattle.run_loop.proofs.Whole.{runner_of_halt, runner_of_tick, value_is}
use Rattle.run_loop.proofs.events.run_listed.Goals as goal

pub run_part-requires-clause-runs : goal.run_part-requires-clause-runs
run_part-requires-clause-runs g c =
    let r = c.requires.runs in
    let number = runner_of_tick r.0.world c.args.event.now.what c.in-Tick.runner c.in-Tick.is r.2.0 in
    (r.0, record { are = r.1; first = number.0; last = number.1; ahead = r.2.1 })

pub run_part-requires-in-Halt-clause-runs : goal.run_part-requires-in-Halt-clause-runs
run_part-requires-in-Halt-clause-runs g c =
    let r = c.requires.runs in
    let number = runner_of_halt r.0.world c.args.event.now.what c.in-Halt.runner c.in-Halt.is r.2.0 in
    (r.0, record { are = r.1; first = number.0; last = number.1; ahead = r.2.1 })

pub change_fact-requires-clause-there : goal.change_fact-requires-clause-there
change_fact-requires-clause-there g c =
    let r = c.requires.runs in
    let valid = subst (IsValidWhat r.0.world.facts r.0.world.runners) c.in-Change.is r.2.0 in
    omega (arith, valid.0, r.1.fit.many_facts)

pub change_fact-requires-clause-runs : goal.change_fact-requires-clause-runs
change_fact-requires-clause-runs g c = (c.requires.runs.0, c.requires.runs.1)

pub hear-requires-clause-runs : goal.hear-requires-clause-runs
hear-requires-clause-runs g c =
    let r = c.requires.runs in
    (r.0, rw c.in-Ok.ensures (can_hear_event r.0 (g.D.Drivers.states c.args.drivers.now) c.args.runs.now c.args.event.now c.in-Tell.runner c.in-Tell.uid c.in-Tell.telling c.in-Tell.is r.1 r.2))

pub returns-in-Tick : goal.returns-in-Tick
returns-in-Tick g c = λ of are can.
    let number = runner_of_tick of.world c.args.event.now.what c.in-Tick.runner c.in-Tick.is can.0 in
    rw c.in-Tick.is (c.run_part.ensures of (record { are = are; first = number.0; last = number.1; ahead = can.1 }))

pub returns-in-Halt : goal.returns-in-Halt
returns-in-Halt g c = λ of are can.
    let number = runner_of_halt of.world c.args.event.now.what c.in-Halt.runner c.in-Halt.is can.0 in
    rw c.in-Halt.is (c.run_part-in-Halt.ensures of (record { are = are; first = number.0; last = number.1; ahead = can.1 }))

pub returns-in-Change : goal.returns-in-Change
returns-in-Change g c = λ of are can.
    let side = event_side (g.D.Drivers.states c.args.drivers.now) c.args.runs.now c.args.block.now in
    let s = kept_state of side in
    rw c.in-Change.is
    (subst (λ (n : ℤ). EventLeft of c.change_fact.result side (event_side (g.D.Drivers.states c.change_fact.new.drivers) c.change_fact.new.runs c.change_fact.new.block) (change_step c.in-Change.fact n c.args.event.now.at s))
    (value_is of.world c.args.event.now.what c.in-Change.fact c.in-Change.value c.in-Change.is can.0) (c.change_fact.ensures of are))

pub returns-in-Ok : goal.returns-in-Ok
returns-in-Ok g c = λ of are can.
    let drivers = g.D.Drivers.states c.args.drivers.now in
    rw (c.in-Tell.is, ← c.in-Ok.ensures)
    (c.hear.ensures of (rw c.in-Ok.ensures (can_hear_event of drivers c.args.runs.now c.args.event.now c.in-Tell.runner c.in-Tell.uid c.in-Tell.telling c.in-Tell.is are can)))
