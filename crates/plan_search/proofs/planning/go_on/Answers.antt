use Rattle.std.proofs.Common.{◌∙◌, length, Option, Ok, Err, refl, subst, arith}
use Rattle.spec_world.specs.declared.world.World.{World}
use Rattle.base_tables.proofs.Runnable.{runnable}
use Rattle.plan_trial.specs.Tasks.{IsTaskOf}
use Rattle.spec_plan.specs.declared.ending.End.{End}
use Rattle.plan_search.specs.Grown.{GoesOrEnds}
use Rattle.spec_plan.specs.PlanRuns.{Trial}
use Rattle.plan_search.proofs.Growths.{fails_alone, ok_gives}
use Rattle.plan_search.proofs.Joined.{lacks_nothing}
use Rattle.plan_search.proofs.Trials.{decides, goes_fails, goes_reached, goes_running, goes_stopped, notes_are, runs_as, stopped_alone}
use Rattle.plan_search.proofs.planning.go_on.Goals as goal

pub tree_from-requires : goal.tree_from-requires
tree_from-requires g c =
    let tree = c.requires.1.1.1.1.1.0 in
    let many = tree.2 in
    let few = c.requires.1.1.1.1.1.1 in
    let most = c.requires.1.1.0.limits.expand in
    (tree.0, tree.1, omega (arith, many, few, most))

pub run_tree-requires : goal.run_tree-requires
run_tree-requires g c = λ lifetimes live.
    let same = c.requires.1.0 in
    let task = c.requires.1.1.0 in
    let f = c.requires.1.1.1.1.1.0 in
    let tree = c.in_ok-tree.tree in (
      live,
      (
        refl,
        (
          subst (λ (w : World). IsTaskOf w c.args.task.now.runs) same task.runs,
          (
            lacks_nothing c.args.world.now g.of same (g.D.Drivers.states c.args.drivers.now) c.args.t.now f.0 tree c.requires.1.1.1.0 f.1 (c.in_ok-tree.ensures.planned f.0 f.1),
            (runnable tree c.in_ok-tree.ensures.valid, (c.requires.1.1.1.1.0, c.in_ok-tree.ensures.nameless)),
          ),
        ),
      ),
    )

pub returns-in-Err-clause-goes : goal.returns-in-Err-clause-goes
returns-in-Err-clause-goes g c = λ f st.
    let world = c.args.world.now in
    let limits = c.args.task.now.limits in
    let tree = c.in_ok-tree.tree in
    let before = g.D.Drivers.states c.args.drivers.now in
    let after = g.D.Drivers.states c.run_tree.new.drivers in
    goes_stopped world limits f tree (c.in_ok-tree.ensures.planned f st) before after c.args.t.now c.args.steps.now.items c.in-Err.stop c.stopped.result
    (runs_as world g.of c.requires.1.0 limits c.args.task.now.runs.pace c.requires.1.1.0.pace tree before after (Err c.in-Err.stop) c.in-Err.ensures.ends)
    c.stopped.ensures

pub returns-in-Err-clause-alone : goal.returns-in-Err-clause-alone
returns-in-Err-clause-alone g c = stopped_alone c.in-Err.stop c.stopped.result c.stopped.ensures

pub returns-in-Reaches-clause-goes : goal.returns-in-Reaches-clause-goes
returns-in-Reaches-clause-goes g c = λ f st.
    let world = c.args.world.now in
    let limits = c.args.task.now.limits in
    let tree = c.in_ok-tree.tree in
    goes_reached world limits f tree (c.in_ok-tree.ensures.planned f st) _ _ c.in-Ok.tried (runs_as world g.of c.requires.1.0 limits c.args.task.now.runs.pace c.requires.1.1.0.pace tree _ _ (Ok c.in-Ok.tried) c.in-Ok.ensures.ends) c.args.t.now c.args.steps.now.items c.in-Reaches.is

pub returns-in-Fails-clause-goes : goal.returns-in-Fails-clause-goes
returns-in-Fails-clause-goes g c = λ f st.
    let world = c.args.world.now in
    let limits = c.args.task.now.limits in
    let tree = c.in_ok-tree.tree in
    let planned = c.in_ok-tree.ensures.planned f st in
    let ends = runs_as world g.of c.requires.1.0 limits c.args.task.now.runs.pace c.requires.1.1.0.pace tree _ _ (Ok c.in-Ok.tried) c.in-Ok.ensures.ends in
    let trial : Trial = record { tree = f; before = c.in-Ok.tried.before } in
    let steps = c.args.steps.now.items in
    goes_fails world limits f tree planned _ _ c.in-Ok.tried ends c.grow-ended.new.t steps c.grow-ended.new.steps.items c.grow-ended.result
    (ok_gives {Q = λ (end : Option End). GoesOrEnds c.grow-ended.new.t world limits (length steps) trial steps c.grow-ended.new.steps.items end} c.grow-ended.result
    (λ end is. is trial st (decides world limits f tree planned _ _ c.in-Ok.tried ends _ c.in-Fails.is) (c.list-notes.ensures ∙ notes_are world limits f tree planned _ _ c.in-Ok.tried ends) c.requires.1.1.1.1.1.1)
    c.grow-ended.ensures)

pub returns-in-Fails-clause-alone : goal.returns-in-Fails-clause-alone
returns-in-Fails-clause-alone g c =
    let world = c.args.world.now in
    let limits = c.args.task.now.limits in
    let tree = c.in_ok-tree.tree in
    let f = c.requires.1.1.1.1.1.0 in
    let planned = c.in_ok-tree.ensures.planned f.0 f.1 in
    let ends = runs_as world g.of c.requires.1.0 limits c.args.task.now.runs.pace c.requires.1.1.0.pace tree _ _ (Ok c.in-Ok.tried) c.in-Ok.ensures.ends in
    let failed = decides world limits f.0 tree planned _ _ c.in-Ok.tried ends _ c.in-Fails.is in
    let trial : Trial = record { tree = f.0; before = c.in-Ok.tried.before } in
    ok_gives c.grow-ended.result
    (λ end is. fails_alone c.grow-ended.new.t world limits _ trial _ _ end failed (is trial f.1 failed (c.list-notes.ensures ∙ notes_are world limits f.0 tree planned _ _ c.in-Ok.tried ends) c.requires.1.1.1.1.1.1))
    c.grow-ended.ensures

pub returns-in-GoesOn-clause-goes : goal.returns-in-GoesOn-clause-goes
returns-in-GoesOn-clause-goes g c = λ f st.
    let world = c.args.world.now in
    let limits = c.args.task.now.limits in
    let tree = c.in_ok-tree.tree in
    goes_running world limits f tree (c.in_ok-tree.ensures.planned f st) _ _ c.in-Ok.tried (runs_as world g.of c.requires.1.0 limits c.args.task.now.runs.pace c.requires.1.1.0.pace tree _ _ (Ok c.in-Ok.tried) c.in-Ok.ensures.ends) c.args.t.now c.args.steps.now.items limits.ticks refl c.in-GoesOn.is
