use Rattle.std.proofs.Common.{◌≡◌, ◌+◌, ◌-◌, ◌*◌}
use Rattle.spec_tree.specs.declared.term.Term.{Term, out-Term}
use Rattle.spec_run.specs.Sites.{View}
use Rattle.run_arena.specs.Nodes.{node_at}
use Rattle.run_arena.specs.Stages.{FitsOn, Keeps, scene_on}
use Rattle.run_arena.specs.Stands.{uid_of, view_under, written}
use Rattle.run_nodes.specs.Halting.Halts.{RunningAreHeldOn}
use Rattle.run_nodes.proofs.AboutHalting.Children.{StillResets}
use Rattle.run_nodes.proofs.halting.resetting.+resetting.Given as goal

abbrev pub decreases-reset : goal.decreases-reset
decreases-reset g l = 5 * (node_at l.stage.now.nodes.now l.uid).size + 3

abbrev pub decreases-halt_here : goal.decreases-halt_here
decreases-halt_here g l = 5 * (node_at l.stage.now.nodes.now l.uid).size + 2

abbrev pub decreases-halt : goal.decreases-halt
decreases-halt g l = 5 * (node_at l.stage.now.nodes.now l.uid).size + 1

abbrev pub decreases-reset_children : goal.decreases-reset_children
decreases-reset_children g l = 5 * (node_at l.stage.now.nodes.now l.uid).size

abbrev pub decreases-reset_wanted : goal.decreases-reset_wanted
decreases-reset_wanted g l = 5 * (node_at l.stage.now.nodes.now l.uid).size + 4

-- the resets so far, followed by those still to come, are all
abbrev pub invariant-reset_children-loop-place : goal.invariant-reset_children-loop-place
invariant-reset_children-loop-place g l = record {
  keeps : Keeps g.D.Drivers.states (l.uid + 1) ((node_at l.fn.stage.nodes.now l.uid).size - 1) l.fn.stage l.stage;
  held : RunningAreHeldOn l.stage l.uid;
  facts : l.stage.facts.now ≡ l.fn.stage.facts.now;
  reserve : l.stage.notes.now.reserve ≡ l.fn.stage.notes.now.reserve;
  still : (term : Term) (view : View) → FitsOn g.D.Drivers.states l.fn.stage l.uid term view →
      StillResets l.fn.stage.nodes.now l.fn.stage.moment l.span (view_under view l.uid (written (out-Term term))) (out-Term term).children (l.uid + 1) (scene_on g.D.Drivers.states l.fn.stage) l.fn.stage.notes.now.list l.place (uid_of (out-Term term).children (l.uid + 1) l.place) (scene_on g.D.Drivers.states l.stage) l.stage.notes.now.list;
}
