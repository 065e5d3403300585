-- What is said to the files that are served and to the lines of an input.
use Rattle.std.specs.Prelude.{◌≡◌, ℕ, List, [], ◌∷◌, ◌⊎◌, Option, Some, None, Result, Ok, Err}
use Rattle.std.specs.List.{concat}
use Rattle.spec_program.specs.declared.exit.Exit.{Exit}
use Rattle.spec_program.specs.declared.exit.Exit.TheVariants as exit
use Rattle.spec_program.specs.declared.file.File.TheVariants as file
use Rattle.spec_program.specs.declared.tree_fault.TreeFault.{TreeFault}
use Rattle.spec_program.specs.Files.{Contents, Named}
use Rattle.spec_program.specs.Gives.{is_too_long}
use Rattle.spec_program.specs.Output.{Output, line_of}
use Rattle.spec_program.specs.RefusalOutputs.{join_refused, tree_refused, world_refused}
use Rattle.spec_program.specs.TreeFiles.{TreeReads}
use Rattle.spec_program.specs.Words.{Served}
use Rattle.spec_run.specs.declared.join_fault.JoinFault.{JoinFault}
use Rattle.spec_run.specs.Joins.{lack_of}
use Rattle.spec_serve.specs.Rows.{told_world}
use Rattle.spec_serve.specs.Talks.{FailsAfter, Heard, Said, Serves, heard_of}
use Rattle.spec_serve.specs.Traces.{IsTrace, NoneIsHeld}
use Rattle.spec_session.specs.Opening.{new_drivers, opened}
use Rattle.spec_tree.specs.declared.term.Tree.{Tree}
use Rattle.spec_tree_file.specs.declared.element.Element.{Element}
use Rattle.spec_tree_file.specs.Elements.{Spells}
use Rattle.spec_world.specs.declared.world.World.{World}
use Rattle.spec_world_file.specs.declared.world_fault.WorldFault.{WorldFault}
use Rattle.spec_world_file.specs.WorldFile.{Reading, ReadsScript, for_host, nothing_read}

-- ---- The world

-- the world of a tree without a world file: its lines are read after nothing
abbrev pub unread_world : Result World WorldFault → Result (World × Reading) WorldFault
unread_world (Ok world) = Ok (world, for_host nothing_read)
unread_world (Err fault) = Err fault

-- what the bytes of a world file read as; where there is none, what is made of the elements of the tree file
abbrev pub WorldFor : Option (List ℕ) → List ℕ → Tree → Result (World × Reading) WorldFault → Type 0
WorldFor (Some bytes) file tree world = ReadsScript bytes world
WorldFor None file tree world = (e : Element) × Spells file e × (world ≡ unread_world (told_world e tree.term))

-- ---- What is said

-- a refusal of the files
abbrev pub refusal : Output → Said
refusal o = record { lines = o.bytes ∷ []; events = []; exit = o.exit }

-- what is said of a tree in a world, whose host's lines are read after this
abbrev pub Talk : Type 1
Talk = Tree → World → Reading → Said → Type 0

-- this is said of a tree in a world, unless something is missing
abbrev pub JoinSaid : Option JoinFault → Talk → Talk
JoinSaid None Talks tree world r said = Talks tree world r said
JoinSaid (Some lack) Talks tree world r said = said ≡ refusal (join_refused lack)

-- .. in what a world reads as
abbrev pub WorldSaid : Result (World × Reading) WorldFault → Talk → Tree → Said → Type 0
WorldSaid (Ok world) Talks tree said = JoinSaid (lack_of tree world.0 new_drivers) Talks tree world.0 world.1 said
WorldSaid (Err fault) Talks tree said = said ≡ refusal (world_refused fault)

-- .. of what the bytes of a tree file read as
abbrev pub TreeSaid : Result Tree TreeFault → Talk → Option (List ℕ) → List ℕ → Said → Type 0
TreeSaid (Ok tree) Talks world file said =
    (read : Result (World × Reading) WorldFault) × WorldFor world file tree read × WorldSaid read Talks tree said
TreeSaid (Err fault) Talks world file said = said ≡ refusal (tree_refused fault)

-- .. of the bytes of a tree file, with the main tree that is asked for, and of a world file where there is one
abbrev pub FilesSaid : Talk → Option (List ℕ) → List ℕ → Option (List ℕ) → Said → Type 0
FilesSaid Talks main file world said =
    (read : Result Tree TreeFault) × TreeReads main file read × TreeSaid read Talks world file said

-- A session is served to what is heard. Without the other lines, what is said is the trace of the run of the events that
-- were made, and no leaf is left held.
pub record IsServed (heard : Heard) (tree : Tree) (world : World) (r : Reading) (said : Said) : Type 0 where
  pub serves : Serves world.events heard r (opened tree world) said
  pub trace : IsTrace tree world said
  pub none : NoneIsHeld tree world said

-- ---- What is heard

-- the exits before which what is to be said may not have been said whole
abbrev pub IsCutOff : Exit → Type 0
IsCutOff exit.Write = Unit {0}
IsCutOff exit.Memory = Unit {0}
IsCutOff _ = ⊥

-- this is heard of an input, where that tells its bytes: all its lines, or the first of them where a read may have failed
abbrev pub Hears : Option (List ℕ) → Type 0 → Heard → Type 0
Hears None MayFail heard = Unit {0}
Hears (Some bytes) MayFail heard = (heard ≡ heard_of bytes) ⊎ (MayFail × FailsAfter heard (heard_of bytes))

-- .. by a program that ends with this exit: a read has failed, or the program was cut off
abbrev pub IsHeard : Option (List ℕ) → Type 0 → Exit → Heard → Type 0
IsHeard ahead Failed exit heard = Hears ahead (Failed ⊎ IsCutOff exit) heard

-- ---- The files

-- the files of what is served
abbrev pub files_of : Served → Named
files_of served = record { tree = Some served.tree; world = served.world; rules = None; expect = None }

-- the bytes of the world file, where one is named
abbrev pub world_in : Option (List ℕ) → Contents → Option (List ℕ)
world_in (Some name) files = Some files.world
world_in None files = None

-- this is said of what is served over the bytes of its files, to what is heard
abbrev pub ServeSaid : Served → Contents → Heard → Said → Type 0
ServeSaid served files heard said = FilesSaid (IsServed heard) served.main files.tree (world_in served.world files) said

-- what is said, as an output: the bytes of its lines, and the exit
abbrev pub output_of : Said → Output
output_of said = line_of (concat said.lines) said.exit
