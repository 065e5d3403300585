-- The files that are served, as they were read, and the session that they open.
use Rattle.std.specs.Prelude.{◌≡◌, ℕ, List, [], Vec, option_map, unwrap_or, Option, Some, None, Result, Ok, Err}
use Rattle.std.specs.Global.{Global}
use Rattle.cli_refusals.specs.declared.refusal.Refusal.{Refusal}
use Rattle.cli_refusals.specs.declared.refusal.Refusal.TheVariants as refusal
use Rattle.cli_refusals.specs.Refusing.{refused_as}
use Rattle.cli_serve.specs.declared.files.Files.{Files}
use Rattle.cli_serve.specs.declared.serving.Serving.{Serving}
use Rattle.spec_program.specs.declared.tree_fault.TreeFault.TheVariants as fault
use Rattle.spec_program.specs.Files.{Contents}
use Rattle.spec_program.specs.Output.{Output}
use Rattle.spec_serve.specs.Served.{FilesSaid, Talk, WorldFor, refusal as refusal_said}
use Rattle.spec_serve.specs.Talks.{Said}
use Rattle.spec_run.specs.Joins.{lack_of}
use Rattle.spec_session.specs.Opening.{new_drivers, opened}
use Rattle.spec_tree.specs.declared.term.Tree.{Tree}
use Rattle.spec_tree_file.specs.ElementFaults.{ElementFaultOf}
use Rattle.spec_world.specs.declared.world.World.{World}
use Rattle.spec_world_file.specs.WorldFile.{Reading}

-- what was read of the world file, where there is one
abbrev pub world_read : Files → Option (List ℕ)
world_read files = option_map (λ bytes. bytes.items) files.world

-- the bytes of a file that may not be there; then there are none
abbrev pub world_bytes : Option (Vec ℕ Global) → List ℕ
world_bytes world = unwrap_or (option_map (λ bytes. bytes.items) world) []

-- the bytes of the files
abbrev pub contents_of : Files → Contents
contents_of files = record { tree = files.tree.items; world = world_bytes files.world; rules = []; expect = [] }

-- this is answered for the world in which a tree is served, and for what lines are read after; where these bytes of a
-- world file were read, and those of the tree file
abbrev pub WorldGiven : Result (World × Reading) Refusal → Option (List ℕ) → List ℕ → Tree → Type 0
WorldGiven (Ok read) world file tree = WorldFor world file tree (Ok read)
WorldGiven (Err (refusal.World f)) world file tree = WorldFor world file tree (Err f)
WorldGiven (Err (refusal.Tree (fault.Elements f))) world file tree = ElementFaultOf file f
WorldGiven (Err refusal.NoMemory) world file tree = Unit {0}
WorldGiven (Err _) world file tree = ⊥

-- it is begun to serve a tree in a world, whose lines are read after this; or something is missing, or memory ran out
abbrev pub Begins : Result Serving Refusal → Tree → World → Reading → Type 0
Begins (Ok serving) tree world r = (lack_of tree world new_drivers ≡ None) × (serving.session ≡ opened tree world) × (serving.reading ≡ r)
Begins (Err (refusal.Join fault)) tree world r = lack_of tree world new_drivers ≡ Some fault
Begins (Err refusal.NoMemory) tree world r = Unit {0}
Begins (Err _) tree world r = ⊥

-- this was opened, for which this is said
abbrev pub IsOpened : Serving → (Said → Type 0) → Talk
IsOpened serving IsSaid tree world r said =
    (serving.session ≡ opened tree world) × (serving.reading ≡ r) × IsSaid said

-- the session of the files is opened: what is said of it is said of the files; or a refusal is, unless memory ran out
abbrev pub OpensTo : Result Serving Refusal → Option (List ℕ) → Files → Type 0
OpensTo (Ok serving) main files =
    (said : Said) → FilesSaid (IsOpened serving (λ other. other ≡ said)) main files.tree.items (world_read files) said
OpensTo (Err fault) main files = (o : Output) → refused_as fault ≡ Some o
    → FilesSaid (λ tree world r said. ⊥) main files.tree.items (world_read files) (refusal_said o)
