-- What files open, and why they are refused.
use Rattle.std.proofs.Common.{◌≡◌, ℕ, List, [], Option, Some, None, Result, Ok, Err, refl, sym, ap, subst, ◌∙◌, inr}
use Rattle.base_texts.specs.declared.stop.Stop.{Stop}
use Rattle.base_texts.specs.declared.stop.Stop.TheVariants as stop
use Rattle.cli_refusals.specs.declared.refusal.Refusal.{Refusal}
use Rattle.cli_refusals.specs.declared.refusal.Refusal.TheVariants as refusal
use Rattle.cli_refusals.specs.Refusing.{refused_as, stopped_as}
use Rattle.run_arena.specs.Joining.{Joins}
use Rattle.spec_program.specs.declared.tree_fault.TreeFault.{TreeFault}
use Rattle.spec_program.specs.declared.tree_fault.TreeFault.TheVariants as fault
use Rattle.spec_program.specs.Output.{Output}
use Rattle.spec_program.specs.RefusalOutputs.{join_refused, tree_refused, world_refused}
use Rattle.spec_program.specs.TreeFiles.{TreeReads}
use Rattle.spec_run.specs.declared.join_fault.JoinFault.{JoinFault}
use Rattle.spec_run.specs.Joins.{lack_of}
use Rattle.spec_serve.specs.Served.{FilesSaid, JoinSaid, Talk, WorldFor, refusal as refusal_said, unread_world}
use Rattle.spec_serve.specs.Talks.{Said}
use Rattle.spec_session.specs.Opening.{new_drivers, opened}
use Rattle.spec_tree.specs.declared.term.Tree.{Tree}
use Rattle.spec_world.specs.declared.world.World.{World}
use Rattle.spec_world_file.specs.declared.world_fault.WorldFault.{WorldFault}
use Rattle.spec_world_file.specs.WorldFile.{Reading, ReadsScript, for_host, nothing_read, script_after}
use Rattle.tree_reader.specs.TreeRead.{ReadsAs}
use Rattle.cli_serve.specs.declared.serving.Serving.{Serving}
use Rattle.cli_serve.specs.declared.files.Files.{Files}
use Rattle.cli_serve.specs.Files.{Begins, IsOpened, OpensTo, WorldGiven, world_read}
use Rattle.cli_serve.specs.Rows.{ToldWorld}

-- ---- The world

-- no event is left where the lines of a host are read after a world script
pub no_events : (bytes : List ℕ) (read : World × Reading) → ReadsScript bytes (Ok read) → read.1.events ≡ []
no_events bytes read reads = by reads.after reads.is
  where
    by : (after : Result Reading WorldFault) → Ok read ≡ script_after after → read.1.events ≡ []
    by (Ok r) is = let same : read.1 ≡ for_host r = cc in ap (λ (left : Reading). left.events) same
    by (Err f) is = absurd (cc)

-- a world that is not made
pub told_refused : (e : Refusal) (file : List ℕ) (tree : Tree) → ToldWorld (Err e) file tree.term → WorldGiven (Err e) None file tree
told_refused (refusal.World f) file tree told = (told.0, told.1, ap unread_world told.2)
told_refused (refusal.Tree (fault.Elements f)) file tree told = told
told_refused (refusal.Tree (fault.Manifest f)) file tree told = told
told_refused (refusal.Tree (fault.Build f)) file tree told = told
told_refused refusal.NoMemory file tree told = tt
told_refused refusal.Words file tree told = told
told_refused (refusal.Unread which) file tree told = told
told_refused (refusal.TooLong which) file tree told = told
told_refused (refusal.Join f) file tree told = told
told_refused refusal.NoGoal file tree told = told
told_refused (refusal.Rules f) file tree told = told
told_refused (refusal.Expect f) file tree told = told
told_refused (refusal.Ground f) file tree told = told

-- one that is made
pub told_made : (w : World) (left : Reading) (file : List ℕ) (tree : Tree) → ToldWorld (Ok w) file tree.term → left ≡ for_host nothing_read → WorldGiven (Ok (w, left)) None file tree
told_made w left file tree told is = (told.0, told.1, ap (λ (r : Reading). Ok (w, r)) is ∙ ap unread_world told.2)

-- ---- Refusals

-- nothing is said of a tree that is refused
abbrev pub nothing : Talk
nothing tree world r said = ⊥

-- the refusal of files, as it is said
abbrev pub Refuses : Refusal → Option (List ℕ) → List ℕ → Option (List ℕ) → Type 0
Refuses e main file world = (o : Output) → refused_as e ≡ Some o → FilesSaid nothing main file world (refusal_said o)

said_as : (o p : Output) → Some p ≡ Some o → refusal_said o ≡ refusal_said p
said_as o p is = let same : p ≡ o = cc in ap refusal_said (sym same)

none_said : {P : Type 0} (o : Output) → None ≡ Some o → P
none_said o is = absurd (cc)

module _ (main : Option (List ℕ)) (file : List ℕ) (world : Option (List ℕ)) where
  -- the tree can't be parsed
  pub tree_refuses : (e : Stop TreeFault) → ReadsAs (Err e) main file → Refuses (stopped_as refusal.Tree e) main file world
  tree_refuses (stop.Fault f) reads o is = (Err f, reads, said_as o (tree_refused f) is)
  tree_refuses stop.NoMemory reads o is = none_said o is

  -- the world is none
  pub world_refuses : (tree : Tree) (e : Refusal) → TreeReads main file (Ok tree) → WorldGiven (Err e) world file tree → Refuses e main file world
  world_refuses tree (refusal.World f) reads given o is = (Ok tree, reads, (Err f, given, said_as o (world_refused f) is))
  world_refuses tree (refusal.Tree (fault.Elements f)) reads given o is = (Err (fault.Elements f), inr (f, given, refl), said_as o (tree_refused (fault.Elements f)) is)
  world_refuses tree (refusal.Tree (fault.Manifest f)) reads given o is = absurd given
  world_refuses tree (refusal.Tree (fault.Build f)) reads given o is = absurd given
  world_refuses tree refusal.NoMemory reads given o is = none_said o is
  world_refuses tree refusal.Words reads given o is = absurd given
  world_refuses tree (refusal.Unread which) reads given o is = absurd given
  world_refuses tree (refusal.TooLong which) reads given o is = absurd given
  world_refuses tree (refusal.Join f) reads given o is = absurd given
  world_refuses tree refusal.NoGoal reads given o is = absurd given
  world_refuses tree (refusal.Rules f) reads given o is = absurd given
  world_refuses tree (refusal.Expect f) reads given o is = absurd given
  world_refuses tree (refusal.Ground f) reads given o is = absurd given

  module _ (tree : Tree) (read : World × Reading) (reads : TreeReads main file (Ok tree)) (given : WorldFor world file tree (Ok read)) where
    -- something is missing
    pub join_refuses : (e : Stop JoinFault) → Joins {A = Unit {0}} (Err e) (lack_of tree read.0 new_drivers) → Refuses (stopped_as refusal.Join e) main file world
    join_refuses (stop.Fault f) lack o is =
        (Ok tree, reads, (Ok read, given, subst (λ (l : Option JoinFault). JoinSaid l nothing tree read.0 read.1 (refusal_said o)) (sym lack) (said_as o (join_refused f) is)))
    join_refuses stop.NoMemory lack o is = none_said o is

    -- memory ran out
    pub memory_refuses : Refuses refusal.NoMemory main file world
    memory_refuses o is = none_said o is

    -- the session is opened
    pub opens : (serving : Serving) → lack_of tree read.0 new_drivers ≡ None → serving.session ≡ opened tree read.0 → serving.reading ≡ read.1
        → (said : Said) → FilesSaid (IsOpened serving (λ other. other ≡ said)) main file world said
    opens serving lack session reading said =
        (Ok tree, reads, (Ok read, given, subst (λ (l : Option JoinFault). JoinSaid l (IsOpened serving (λ other. other ≡ said)) tree read.0 read.1 said) (sym lack) (session, reading, refl)))

-- ---- All

-- what is missing refuses
pub join_stops : (e : Stop JoinFault) (tree : Tree) (world : World) (r : Reading) → Joins {A = Unit {0}} (Err e) (lack_of tree world new_drivers) → Begins (Err (stopped_as refusal.Join e)) tree world r
join_stops (stop.Fault f) tree world r lack = lack
join_stops stop.NoMemory tree world r lack = tt

module _ (main : Option (List ℕ)) (files : Files) where
  pub tree_stops : (e : Stop TreeFault) → ReadsAs (Err e) main files.tree.items → OpensTo (Err (stopped_as refusal.Tree e)) main files
  tree_stops e reads = tree_refuses main files.tree.items (world_read files) e reads

  module _ (tree : Tree) (reads : TreeReads main files.tree.items (Ok tree)) where
    pub world_stops : (e : Refusal) → WorldGiven (Err e) (world_read files) files.tree.items tree → OpensTo (Err e) main files
    world_stops e given = world_refuses main files.tree.items (world_read files) tree e reads given

    pub begun : (w : World) (left : Reading) → WorldFor (world_read files) files.tree.items tree (Ok (w, left)) → (r : Result Serving Refusal) → Begins r tree w left → OpensTo r main files
    begun w left given (Ok serving) begins = opens main files.tree.items (world_read files) tree (w, left) reads given serving begins.0 begins.1 begins.2
    begun w left given (Err (refusal.Join f)) lack = join_refuses main files.tree.items (world_read files) tree (w, left) reads given (stop.Fault f) lack
    begun w left given (Err refusal.NoMemory) begins = memory_refuses main files.tree.items (world_read files) tree (w, left) reads given
    begun w left given (Err refusal.Words) begins = absurd begins
    begun w left given (Err (refusal.Unread which)) begins = absurd begins
    begun w left given (Err (refusal.TooLong which)) begins = absurd begins
    begun w left given (Err (refusal.Tree f)) begins = absurd begins
    begun w left given (Err (refusal.World f)) begins = absurd begins
    begun w left given (Err refusal.NoGoal) begins = absurd begins
    begun w left given (Err (refusal.Rules f)) begins = absurd begins
    begun w left given (Err (refusal.Expect f)) begins = absurd begins
    begun w left given (Err (refusal.Ground f)) begins = absurd begins
