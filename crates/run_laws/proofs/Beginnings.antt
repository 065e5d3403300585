-- The memos and the children with which the rule of a node with children can begin: those of its shape while it is
-- RUNNING, and those of its start.
use Rattle.std.specs.Prelude.{ℕ, ◌+◌, ◌≤◌, ◌≡◌, List, length, codes, slice_get, false, Option, Some, None}
use Rattle.spec_run.specs.declared.memory.Memo.{Memo}
use Rattle.spec_run.specs.declared.memory.Memo.TheVariants.{Nothing, Index, Chosen, Finished, Counts as Counted, Turns as Turned, Since as Begun, Recoveries as Recovering, Rotation as Rotating, Pace as Paced}
use Rattle.spec_run.specs.declared.memory.Memory.{Memory}
use Rattle.spec_run.specs.declared.status.Status.{Status}
use Rattle.spec_tree.specs.declared.term.Kind.{Kind}
use Rattle.spec_tree.specs.declared.term.Kind.TheVariants.{Sequence, SequenceWithMemory, ReactiveSequence, Fallback, ReactiveFallback, Parallel, Switch, IfThenElse, WhileDoElse, RecoveryNode, PipelineSequence, RoundRobin, Inverter, ForceSuccess, ForceFailure, KeepRunningUntilFailure, Retry, Repeat, Timeout, Delay, RunOnce, RateController, SubTree}
use Rattle.spec_tree.specs.declared.term.Port.{Port}
use Rattle.spec_tree.specs.declared.term.Term.{Term-F}
use Rattle.spec_tree.specs.declared.term.Term.TheFolds.{map-Term}
use Rattle.spec_world.specs.declared.world.Row.{Row}
use Rattle.spec_run.specs.Done.{Done, State}
use Rattle.base_tables.specs.Moves.{place_at_hand}
use Rattle.base_tables.specs.Shapes.{AllIdle, BranchRuns, IdleFrom, IsBegun, IsCounted, IsMark, IsPaced, IsRecovering, IsRotating, IsTurned, NoneCompleted, OneRuns, Shape}
use Rattle.spec_run.specs.Sites.{Meaning, Site, View}
use Rattle.base_tables.specs.Sound.{Leaves, statuses}
use Rattle.spec_run.specs.Steps.{Given}
use Rattle.spec_run.specs.Visit.{site_of, status_of}
use Rattle.run_laws.proofs.Children.{Family, SoundAll, size_all}
use Rattle.run_laws.proofs.Choices.{OthersIdle}
use Rattle.run_laws.proofs.Rounds.{StartsAt}

abbrev pub Begins : Kind → List Port → ℕ → Memo → List Status → Type 0
Begins Sequence ports moment (Index at seen) ss = StartsAt at ss
Begins Fallback ports moment (Index at seen) ss = StartsAt at ss
Begins SequenceWithMemory ports moment (Index at seen) ss = StartsAt at ss
Begins ReactiveSequence ports moment (Index at seen) ss = Unit {0}
Begins ReactiveFallback ports moment (Index at seen) ss = Unit {0}
Begins Parallel ports moment (Counted c) ss = IsCounted c ss
Begins (Switch cases) ports moment (Chosen None) ss = AllIdle ss
Begins (Switch cases) ports moment (Chosen (Some place)) ss = OneRuns place ss
Begins IfThenElse ports moment (Chosen None) ss = IdleFrom 1 ss
Begins IfThenElse ports moment (Chosen (Some place)) ss = BranchRuns place ss
Begins WhileDoElse ports moment Nothing ss = NoneCompleted ss
Begins RecoveryNode ports moment (Recovering r) ss = IsRecovering r ports × OthersIdle (place_at_hand r) ss
Begins PipelineSequence ports moment (Index at seen) ss = IdleFrom (at + 1) ss
Begins RoundRobin ports moment (Rotating r) ss = (1 ≤ length ss → IsRotating r (length ss)) × OthersIdle r.at ss
Begins SubTree ports moment Nothing ss = NoneCompleted ss
Begins Inverter ports moment Nothing ss = NoneCompleted ss
Begins ForceSuccess ports moment Nothing ss = NoneCompleted ss
Begins ForceFailure ports moment Nothing ss = NoneCompleted ss
Begins KeepRunningUntilFailure ports moment Nothing ss = NoneCompleted ss
Begins Retry ports moment (Turned t) ss = IsTurned t ports (codes "num_attempts") × NoneCompleted ss
Begins Repeat ports moment (Turned t) ss = IsTurned t ports (codes "num_cycles") × NoneCompleted ss
Begins Timeout ports moment (Begun since) ss = IsBegun since moment ports (codes "msec") × NoneCompleted ss
Begins Delay ports moment (Begun since) ss = IsBegun since moment ports (codes "delay_msec") × NoneCompleted ss
Begins RunOnce ports moment (Finished None) ss = NoneCompleted ss
Begins RunOnce ports moment (Finished (Some a)) ss = IsMark a × AllIdle ss
Begins RateController ports moment (Paced p) ss = IsPaced p moment ports × OthersIdle 0 ss × (p.due ≡ false → AllIdle ss)
Begins kind ports moment memo ss = ⊥

module _ (F : Family) (node : Term-F F.Child) (view : View) (uid : ℕ) where
  -- the node in its place, with the meaning of each child
  abbrev pub site_here : Site
  site_here = site_of (map-Term F.Child Meaning F.meaning node) view uid

  -- what the rule of a node leaves: the rules of its children, a shape for its next status whatever its row is, and
  -- its instance as it was
  abbrev pub Ruled : Option Row → State → Done Given (List Memory) → Type 0
  Ruled row s d =
      Leaves (λ f ms s1. SoundAll F view.rows node.children f (uid + 1) ms s1)
      (λ g ms s1. Shape (status_of g.answer) node.kind node.ports row s1.moment g.memo (statuses ms) × (slice_get s1.instances uid ≡ slice_get s.instances uid))
      uid (1 + size_all F node.children) s d
