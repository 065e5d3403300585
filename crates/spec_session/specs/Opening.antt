-- What a session is before its first event, and what the bytes of files open.
use Rattle.std.specs.Prelude.{◌≡◌, ℕ, pos, [], ◌∷◌, List, true, MatchBool, Option, Some, None, Result, Ok, Err, map}
use Rattle.base_texts.specs.declared.stop.Stop.{Stop}
use Rattle.base_texts.specs.declared.stop.Stop.TheVariants as stop
use Rattle.spec_run.specs.declared.block.Block.{Block}
use Rattle.spec_run.specs.declared.block.Header.TheVariants as header
use Rattle.spec_run.specs.declared.join_fault.JoinFault.{JoinFault}
use Rattle.spec_run.specs.declared.leaf.DriverKind.TheVariants.{Condition, Timed, Replay, Gate, Told}
use Rattle.spec_run.specs.Drivers.{DriverState, new_driver}
use Rattle.spec_run.specs.Joins.{lack_of}
use Rattle.spec_run.specs.Run.{opening}
use Rattle.spec_program.specs.declared.tree_fault.TreeFault.{TreeFault}
use Rattle.spec_program.specs.Gives.{is_too_long}
use Rattle.spec_program.specs.TreeFiles.{TreeReads}
use Rattle.spec_tree.specs.declared.term.Tree.{Tree}
use Rattle.spec_world.specs.declared.world.World.{World}
use Rattle.spec_world_file.specs.declared.world_fault.WorldFault.{WorldFault}
use Rattle.spec_world_file.specs.WorldFile.{ReadsWorld}
use Rattle.spec_session.specs.declared.open_fault.OpenFault.{OpenFault}
use Rattle.spec_session.specs.declared.open_fault.OpenFault.TheVariants as fault
use Rattle.spec_session.specs.Sessions.{Sitting}

-- the drivers of a session, none of which was called yet: one for each kind of row
abbrev pub new_drivers : List DriverState
new_drivers = map new_driver (Condition ∷ Timed ∷ Replay ∷ Gate ∷ Told ∷ [])

-- the block before the first event
abbrev pub no_block : Block
no_block = record { header = header.Change 0 (pos 0) 0; notes = []; facts = []; entries = [] }

-- the session of a tree in a world before its first event
abbrev pub opened : Tree → World → Sitting
opened tree world = record {
  tree = tree;
  world = record world { events = [] };
  own = world.events;
  state = opening tree world;
  block = no_block;
  usable = true;
}

-- a tree and a world open a session where nothing is missing for its leaves and its events
abbrev pub joined : Option JoinFault → Tree → World → Result Sitting OpenFault
joined None tree world = Ok (opened tree world)
joined (Some lack) tree world = Err (fault.Join lack)

abbrev pub world_opens : Result World WorldFault → Tree → Result Sitting OpenFault
world_opens (Ok world) tree = joined (lack_of tree world new_drivers) tree world
world_opens (Err f) tree = Err (fault.World f)

-- what a tree file reads as opens this, with the bytes of a world script
abbrev pub TreeOpens : Result Tree TreeFault → List ℕ → Result Sitting OpenFault → Type 0
TreeOpens (Ok tree) bytes sitting = (described : Result World WorldFault) × ReadsWorld bytes described × (sitting ≡ world_opens described tree)
TreeOpens (Err f) bytes sitting = sitting ≡ Err (fault.Tree f)

-- the bytes of a tree file and of a world script open this, with the main tree that is asked for, if one is
abbrev pub Opens : Option (List ℕ) → List ℕ → List ℕ → Result Sitting OpenFault → Type 0
Opens main tree world sitting =
    MatchBool (is_too_long tree) (sitting ≡ Err fault.TreeTooLong)
    (MatchBool (is_too_long world) (sitting ≡ Err fault.WorldTooLong)
    ((read : Result Tree TreeFault) × TreeReads main tree read × TreeOpens read world sitting))

-- what a call answers is what the bytes open; want of memory may come anywhere
abbrev pub OpensTo : Result Sitting (Stop OpenFault) → Option (List ℕ) → List ℕ → List ℕ → Type 0
OpensTo (Ok sitting) main tree world = Opens main tree world (Ok sitting)
OpensTo (Err (stop.Fault f)) main tree world = Opens main tree world (Err f)
OpensTo (Err stop.NoMemory) main tree world = Unit {0}
