-- A node that asks first: a fallback, grown for a goal, that begins with the test whether it holds already.
use Rattle.std.specs.Prelude.{◌≡◌, ◌+◌, ℕ, List, false, Result, Ok, Err}
use Rattle.base_texts.specs.declared.stop.Stop.{Stop}
use Rattle.spec_run.specs.declared.fault.NodeFault.{NodeFault}
use Rattle.spec_run.specs.declared.memory.Memo.TheVariants.{Index}
use Rattle.spec_run.specs.declared.moves.Heard.TheVariants.{Answered}
use Rattle.spec_run.specs.declared.status.Answer.{Answer}
use Rattle.spec_tree.specs.declared.term.Kind.TheVariants.{Leaf, ReactiveFallback}
use Rattle.run_arena.specs.declared.frame.Frame.{Frame}
use Rattle.run_arena.specs.declared.nodes.Node.{Node}
use Rattle.run_arena.specs.Nodes.{node_at}
use Rattle.run_tick.specs.Machine.{Step, Turn}
use Rattle.run_tick.specs.Machine as turn

-- a ReactiveFallback whose first child is a leaf, before whose visit no guard comes
pub record AsksFirst (nodes : List Node) (uid : ℕ) : Type 0 where
  pub kind : (node_at nodes uid).kind ≡ ReactiveFallback
  pub leaf : (node_at nodes (uid + 1)).kind ≡ Leaf
  pub unguarded : (node_at nodes (uid + 1)).guards.before ≡ false

-- a visit that is at its end with this answer, or stopped
abbrev pub back_with : Result Answer (Stop NodeFault) → Result Turn (Stop NodeFault)
back_with (Ok a) = Ok (turn.Back a)
back_with (Err e) = Err e

-- the frame of a node that waits for its first child at the beginning of a round
abbrev pub first_frame : ℕ → Frame
first_frame uid = record { uid = uid; memo = Index 0 false; place = 0; child = uid + 1 }

-- a node has started and waits for its first child, or its start stopped
abbrev pub waits_first : ℕ → Result (Unit {0}) (Stop NodeFault) → Result Turn (Stop NodeFault)
waits_first uid (Ok _) = Ok (turn.Wait (first_frame uid))
waits_first uid (Err e) = Err e

-- what a node does that hears this answer of its first child
abbrev pub hears_first : ℕ → Answer → Step
hears_first uid a = record { uid = uid; memo = Index 0 false; heard = Answered 0 a }
