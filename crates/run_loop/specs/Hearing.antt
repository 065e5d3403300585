-- What a leaf of a runner is told.
use Rattle.std.specs.Prelude.{◌≡◌, ◌≤◌, List, None}
use Rattle.spec_world.specs.declared.world.What.{What}
use Rattle.spec_world.specs.declared.world.What.TheVariants.{Tell}
use Rattle.spec_run.specs.Drivers.{DriverState}
use Rattle.spec_run.specs.Joins.{lacks_telling, row_at}
use Rattle.spec_run.specs.Run.{RunState, Stepped, runner_at, tell_step}
use Rattle.spec_run.specs.Served.{Setup}
use Rattle.spec_tree.specs.Trees.{nodes_of}
use Rattle.run_loop.specs.declared.hearing.Message.{Message}
use Rattle.run_loop.specs.declared.runs.Runs.{Runs}
use Rattle.run_loop.specs.Runs.{AreRuns}

-- an event tells a leaf something
abbrev pub Tells : What → Type 0
Tells (Tell runner uid telling) = Unit {0}
Tells _ = ⊥

-- the leaf of a message can be told it
abbrev pub IsHeard : Setup → Message → Type 0
IsHeard of message = lacks_telling (row_at of.world.rows (nodes_of of.tree.term) message.uid) message.uid message.telling ≡ None

-- runs can take a message: its runner is there, its leaf can be told it, and its time is not before the last event
pub record CanHear (of : Setup) (message : Message) (drivers : List DriverState) (runs : Runs) : Type 0 where
  pub are : AreRuns of.tree of.world drivers runs
  pub first : 1 ≤ message.runner
  pub last : message.runner ≤ of.world.runners
  pub known : IsHeard of message
  pub ahead : runs.last ≤ message.at

-- the definition's step in which a leaf is told a message
abbrev pub message_step : Message → RunState → Stepped
message_step message s = tell_step (runner_at s message.runner) message.runner message.uid message.telling message.at s
