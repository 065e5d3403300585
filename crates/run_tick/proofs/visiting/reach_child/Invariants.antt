use Rattle.std.proofs.Common.{◌≡◌, ◌≤◌, List}
use Rattle.std.specs.Vec.{vec_capacity}
use Rattle.spec_run.specs.declared.memory.Memory.{Memory}
use Rattle.spec_run.specs.declared.note.Note.{Note}
use Rattle.spec_run.specs.declared.status.Answer.{Answer}
use Rattle.spec_tree.specs.declared.term.Term.{Term}
use Rattle.spec_run.specs.Done.{Done}
use Rattle.run_arena.specs.Ends.{StaysFit}
use Rattle.run_arena.specs.Scenes.{Scene}
use Rattle.run_arena.specs.Stages.{IsSame, scene_on}
use Rattle.run_tick.specs.declared.progress.Next.TheVariants as next
use Rattle.run_tick.specs.Turns.{CameOn, GoingOn, next_work}
use Rattle.run_tick.proofs.visiting.reach_child.Given as goal

-- where the visit of a root came to the turn at the beginning, it came to what the node on top of the stack hears now
abbrev pub invariant-loop-child : goal.invariant-loop-child
invariant-loop-child g l = record {
  all : (root : Term) (start : Scene) (told : List Note) (whole : Done Answer Memory) →
      CameOn g.D.Drivers.states l.fn.stage root (next.GoOn l.fn.first) l.fn.stack.items start told whole →
      GoingOn l.fn.stage.nodes.now l.fn.stage.moment root 1 (next.GoOn l.heard) l.stack.items start (scene_on g.D.Drivers.states l.stage) told l.stage.notes.now.list whole
      × StaysFit l.fn.stage.nodes.now (scene_on g.D.Drivers.states l.fn.stage) (scene_on g.D.Drivers.states l.stage);
  same : IsSame l.fn.stage l.stage;
  facts : l.stage.facts.now ≡ l.fn.stage.facts.now;
  reserve : l.stage.notes.now.reserve ≡ l.fn.stage.notes.now.reserve;
  work : next_work l.fn.stage.nodes.now (next.GoOn l.heard) l.stack.items ≤ next_work l.fn.stage.nodes.now (next.GoOn l.fn.first) l.fn.stack.items;
  room : vec_capacity l.stack ≡ vec_capacity l.fn.stack;
}

abbrev pub decreases-loop-child : goal.decreases-loop-child
decreases-loop-child g l = next_work l.fn.stage.nodes.now (next.GoOn l.heard) l.stack.items
