use Rattle.std.proofs.Common.{Ok, inl, sym, ap, subst, refl, w64, ◌∙◌}
use Rattle.std.proofs.lemmas.Int.{to_z-of_z}
use Rattle.spec_world.specs.declared.world.What.TheVariants.{Change}
use Rattle.spec_run.specs.Run.{quench_calls}
use Rattle.run_laws.proofs.Events.{step_steady}
use Rattle.run_loop.specs.Runs.{arenas_of, runners_in, state_of_runs}
use Rattle.spec_run.specs.Rosters.{IsSameRoster}
use Rattle.run_loop.proofs.Rising.{over_same, same_roster}
use Rattle.run_loop.proofs.Stepping.{quenched_stays}
use Rattle.run_loop.proofs.Whole.{change_cut, change_fits, change_stays, change_told, steady_after}
use Rattle.run_loop.proofs.events.change_fact.Goals as goal

pub stop-requires-clause-fit : goal.stop-requires-clause-fit
stop-requires-clause-fit g c =
    let r = c.requires.runs in (
      r.0,
      change_fits r.0.tree r.0.world c.args.fact _ c.args.at (g.D.Drivers.states c.args.drivers.now) c.args.runs.now r.1
          c.put.new.self c.put.ensures c.begin.new.block c.begin.ensures.header (ap (λ n. n.list) c.begin.ensures.notes) c.begin.ensures.facts c.begin.ensures.entries,
    )

pub returns-in-Ok : goal.returns-in-Ok
returns-in-Ok g c = λ of are.
    let drivers = g.D.Drivers.states c.args.drivers.now in
    rw (← to_z-of_z w64 c.args.value c.ranges.value)
    (let step = change_told of.tree of.world c.args.fact _ c.args.at (g.D.Drivers.states c.args.drivers.now) c.args.runs.now are
    c.put.new.self c.put.ensures c.begin.new.block c.begin.ensures.header (ap (λ n. n.list) c.begin.ensures.notes) c.begin.ensures.facts c.begin.ensures.entries
    c.tell_fact_in.new.told c.tell_fact_in.new.block c.in-Ok.ensures.rest c.in-Ok.ensures.facts in
    record {
      step = step;
      runs =
          steady_after (Ok tt) of.tree of.world drivers drivers _ c.tell_fact_in.new.block _ step
          (step_steady of.tree of.world (state_of_runs of.tree.term drivers c.args.runs.now) are.steady c.args.at c.requires.ahead (Change c.args.fact _))
          (change_stays of.tree of.world c.args.fact _ c.args.at (g.D.Drivers.states c.args.drivers.now) c.args.runs.now are
          c.put.new.self c.put.ensures c.begin.new.block c.begin.ensures.header (ap (λ n. n.list) c.begin.ensures.notes) c.begin.ensures.facts c.begin.ensures.entries
          c.tell_fact_in.new.told c.in-Ok.ensures.told);
      quenched = tt;
      none = tt;
      usable = tt;
      arenas = refl;
      room = ap (λ b. b.notes.full) c.in-Ok.ensures.rest ∙ ap (λ n. n.full) c.begin.ensures.notes;
      roster = same_roster drivers;
    })

pub returns-in-Err : goal.returns-in-Err
returns-in-Err g c = λ of are.
    let drivers = g.D.Drivers.states c.args.drivers.now in
    let q = c.stop.ensures.quenched of (change_fits of.tree of.world c.args.fact _ c.args.at (g.D.Drivers.states c.args.drivers.now) c.args.runs.now are
    c.put.new.self c.put.ensures c.begin.new.block c.begin.ensures.header (ap (λ n. n.list) c.begin.ensures.notes) c.begin.ensures.facts c.begin.ensures.entries) in
    rw (← to_z-of_z w64 c.args.value c.ranges.value)
    (record {
      step = inl (change_cut of.tree of.world c.args.fact _ c.args.at (g.D.Drivers.states c.args.drivers.now) c.args.runs.now are
          c.put.new.self c.put.ensures c.begin.new.block c.begin.ensures.header (ap (λ n. n.list) c.begin.ensures.notes) c.begin.ensures.facts c.begin.ensures.entries
          c.tell_fact_in.new.told c.stop.new.runs _ c.tell_fact_in.new.block.notes.list c.stop.new.notes.list (ap (λ b. b.notes.list) c.in-Err.ensures.rest) q);
      runs = tt;
      quenched = quenched_stays of.tree _ _ _ _ _ _ q;
      none = c.stop.ensures.none;
      usable = c.stop.ensures.usable;
      arenas = q.arenas;
      room = c.stop.ensures.full ∙ ap (λ b. b.notes.full) c.in-Err.ensures.rest ∙ ap (λ n. n.full) c.begin.ensures.notes;
      roster = subst (IsSameRoster drivers) (sym q.drivers) (over_same (arenas_of c.args.runs.now) (quench_calls 1 (runners_in of.tree.term drivers c.args.runs.now.runners.items)) drivers);
    })
