-- Which events a session takes, and what each leaves.
use Rattle.std.specs.Prelude.{◌≡◌, ℕ, ℤ, nat_le, nat_lt, List, [], ◌∷◌, ◌++◌, length, Bool, true, false, not, ◌&&◌, Option, Some, None, Result, Ok, Err}
use Rattle.std.specs.List.{list_all}
use Rattle.std.specs.Option.{option_or}
use Rattle.spec_run.specs.declared.fault.RunFault.{RunFault}
use Rattle.spec_run.specs.declared.join_fault.JoinFault.{JoinFault}
use Rattle.spec_run.specs.declared.join_fault.JoinFault.TheVariants as lack
use Rattle.spec_run.specs.declared.note.Note.{Note}
use Rattle.spec_run.specs.Joins.{event_lacks}
use Rattle.spec_run.specs.Run.{Runner, Stepped, finish, quench_notes, quenched, step}
use Rattle.spec_tree.specs.declared.term.Tree.{Tree}
use Rattle.spec_tree.specs.Limits.{last_moment, most_outputs}
use Rattle.spec_tree.specs.Trees.{nodes_of}
use Rattle.spec_world.specs.declared.world.Event.{Event}
use Rattle.spec_world.specs.declared.world.Telling.{Telling}
use Rattle.spec_world.specs.declared.world.Telling.TheVariants as telling
use Rattle.spec_world.specs.declared.world.ToldOut.{ToldOut}
use Rattle.spec_world.specs.declared.world.What.{What}
use Rattle.spec_world.specs.declared.world.What.TheVariants.{Tick, Halt, Change, Tell}
use Rattle.spec_world.specs.declared.world.World.{World}
use Rattle.spec_world.specs.Worlds.{is_name, ports_told}
use Rattle.spec_world_file.specs.WorldFile.{is_long, is_small, repeats}
use Rattle.spec_session.specs.declared.ended.Ended.{Ended}
use Rattle.spec_session.specs.declared.ended.Ended.TheVariants.{Misused, Fault, NoMemory}
use Rattle.spec_session.specs.declared.ended.Misuse.{Misuse}
use Rattle.spec_session.specs.declared.ended.Misuse.TheVariants.{Over, MomentBack, MomentLate, NoRunner, NoFact, NoLeaf, NoOutput, BadTelling, NoEvent}
use Rattle.spec_session.specs.Sessions.{Sitting}

-- ---- Misuse

-- what is wrong where this does not hold
abbrev pub unless : Bool → Misuse → Option Misuse
unless true misuse = None
unless false misuse = Some misuse

-- a runner is to be one of the world's, which are numbered from 1
abbrev pub runner_misuse : World → ℕ → Option Misuse
runner_misuse world runner = unless (nat_le 1 runner && nat_le runner world.runners) NoRunner

-- a moment is not to be before that of the last event, and there is a last one
abbrev pub moment_misuse : ℕ → ℕ → Option Misuse
moment_misuse last at = option_or (unless (nat_le last at) MomentBack) (unless (nat_le at last_moment) MomentLate)

-- a leaf that is told something is to be there, and its row is to have the outputs
abbrev pub lack_misuse : Option JoinFault → Option Misuse
lack_misuse None = None
lack_misuse (Some (lack.NoOutput uid)) = Some NoOutput
lack_misuse (Some fault) = Some NoLeaf

-- whether an output can be told: it has a name, and its value is a number of 64 bits or a text that is not too long
abbrev pub out_fits : ToldOut → Bool
out_fits out = is_name out.port && is_small out.value && not (is_long out.value)

-- whether these can be told: few outputs that fit, and none twice
abbrev pub can_be_told : List ToldOut → Bool
can_be_told outs = nat_le (length outs) most_outputs && list_all out_fits outs && not (repeats [] (ports_told outs))

abbrev pub telling_misuse : Telling → Option Misuse
telling_misuse (telling.Success outs) = unless (can_be_told outs) BadTelling
telling_misuse telling.Failure = None

-- what an event names is to be there, and what it tells is to fit
abbrev pub what_misuse : Tree → World → What → Option Misuse
what_misuse tree world (Tick runner) = runner_misuse world runner
what_misuse tree world (Halt runner) = runner_misuse world runner
what_misuse tree world (Change fact value) = unless (nat_lt fact (length world.facts)) NoFact
what_misuse tree world (Tell runner uid telling) =
    option_or (runner_misuse world runner)
    (option_or (lack_misuse (event_lacks world.rows (nodes_of tree.term) (Tell runner uid telling))) (telling_misuse telling))

-- why a session does not take an event: the first of these; none where it takes it
abbrev pub misuse : Sitting → Event → Option Misuse
misuse s e = option_or (unless s.usable Over) (option_or (moment_misuse s.state.last e.at) (what_misuse s.tree s.world e.what))

-- why it does not take the finish of a runner
abbrev pub finish_misuse : Sitting → ℕ → Option Misuse
finish_misuse s runner = option_or (unless s.usable Over) (runner_misuse s.world runner)

-- ---- What an event leaves

-- the session after a step of the run, and whether it still takes events
abbrev pub after_step : Sitting → Stepped → Bool → Sitting
after_step s d usable = record s { state = d.state; block = d.block; usable = usable }

-- A step was cut off for want of memory (out of memory): the first of its notes are told, and then those of a quench,
-- after which all nodes are IDLE and nothing is held.
pub record IsCutOff (s : Sitting) (d : Stepped) (after : Sitting) : Type 0 where
  pub told : List Note
  pub untold : List Note
  pub held : List Runner
  pub all_notes : told ++ untold ≡ d.block.notes
  pub noted : after.block.notes ≡ told ++ quench_notes 1 held
  pub quenched : after.state ≡ quenched s.tree after.state
  pub rest : after ≡ record s { state = after.state; block = after.block; usable = false }

-- what an event that is taken gives and leaves, of which this is the definition's step
abbrev pub Leaves : Sitting → Stepped → Result (Unit {0}) Ended → Sitting → Type 0
Leaves s d (Ok done) after = (d.fault ≡ None) × (after ≡ after_step s d true)
Leaves s d (Err (Fault fault)) after = (d.fault ≡ Some fault) × (after ≡ after_step s d false)
Leaves s d (Err NoMemory) after = IsCutOff s d after
Leaves s d (Err (Misused misuse)) after = ⊥

-- what an event gives and leaves; one that is not taken changes nothing
abbrev pub Gives : Option Misuse → Sitting → Stepped → Result (Unit {0}) Ended → Sitting → Type 0
Gives (Some misuse) s d result after = (result ≡ Err (Misused misuse)) × (after ≡ s)
Gives None s d result after = Leaves s d result after

abbrev pub event_step : Sitting → Event → Stepped
event_step s e = step s.tree s.world e s.state

abbrev pub EventGives : Sitting → Event → Result (Unit {0}) Ended → Sitting → Type 0
EventGives s e result after = Gives (misuse s e) s (event_step s e) result after

-- the finish of a runner, at the moment of the last event
abbrev pub finish_step : Sitting → ℕ → Stepped
finish_step s runner = finish s.tree s.world runner s.state

abbrev pub FinishGives : Sitting → ℕ → Result (Unit {0}) Ended → Sitting → Type 0
FinishGives s runner result after = Gives (finish_misuse s runner) s (finish_step s runner) result after

-- the next of the world's own events; one that is taken is no more to come
abbrev pub OwnGives : Option Misuse → Event → List Event → Sitting → Result (Unit {0}) Ended → Sitting → Type 0
OwnGives (Some misuse) e own s result after = (result ≡ Err (Misused misuse)) × (after ≡ s)
OwnGives None e own s result after = Leaves (record s { own = own }) (event_step s e) result after

abbrev pub NextGives : List Event → Sitting → Result (Unit {0}) Ended → Sitting → Type 0
NextGives [] s result after = (result ≡ Err (Misused NoEvent)) × (after ≡ s)
NextGives (e ∷ own) s result after = OwnGives (misuse s e) e own s result after
