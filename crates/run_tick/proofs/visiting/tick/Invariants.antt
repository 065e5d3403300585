use Rattle.std.proofs.Common.{◌≡◌, ◌≤◌}
use Rattle.std.specs.Vec.{vec_capacity}
use Rattle.spec_tree.specs.declared.term.Term.{Term}
use Rattle.spec_run.specs.Sites.{View}
use Rattle.spec_tree.specs.Terms.{depth_of}
use Rattle.run_arena.specs.Ends.{StaysFit}
use Rattle.run_arena.specs.Stages.{IsSame, scene_on}
use Rattle.run_tick.specs.declared.progress.Next.TheVariants as next
use Rattle.run_tick.specs.Turns.{CanVisitOn, GoingOn, next_work, visit_on}
use Rattle.run_tick.proofs.visiting.tick.Given as goal

-- the visit of the root came to the visit of this node, with this stack
abbrev pub invariant-loop-heard : goal.invariant-loop-heard
invariant-loop-heard g l = record {
  all : (term : Term) (view : View) → CanVisitOn g.D.Drivers.states l.fn.stage 1 term view →
      GoingOn l.fn.stage.nodes.now l.fn.stage.moment term 1 (next.Enter l.uid) l.frames.items (scene_on g.D.Drivers.states l.fn.stage) (scene_on g.D.Drivers.states l.stage) l.fn.stage.notes.now.list l.stage.notes.now.list
      (visit_on g.D.Drivers.states l.fn.stage 1 term view);
  stays : StaysFit l.fn.stage.nodes.now (scene_on g.D.Drivers.states l.fn.stage) (scene_on g.D.Drivers.states l.stage);
  same : IsSame l.fn.stage l.stage;
  reserve : l.stage.notes.now.reserve ≡ l.fn.stage.notes.now.reserve;
  room : vec_capacity l.fn.frames ≤ vec_capacity l.frames;
  enough : (term : Term) (view : View) → CanVisitOn g.D.Drivers.states l.fn.stage 1 term view →
      depth_of term ≤ vec_capacity l.fn.frames → vec_capacity l.frames ≡ vec_capacity l.fn.frames;
}

abbrev pub decreases-loop-heard : goal.decreases-loop-heard
decreases-loop-heard g l = next_work l.fn.stage.nodes.now (next.Enter l.uid) l.frames.items
