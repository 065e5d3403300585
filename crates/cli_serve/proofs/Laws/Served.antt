-- What is served of files is the trace of its run, but for the other lines, and no leaf is left held by it.
use Rattle.std.proofs.Common.{◌≡◌, ℕ, List, [], ◌∷◌, Bool, true, false, MatchBool, Option, Some, None, Result, Ok, Err, cond, sym, ap, subst, arith}
use Rattle.std.specs.List.{All}
use Rattle.std.specs.List.Sorted.{IsNonDecreasingBy}
use Rattle.std.specs.Prelude.{bytes_eq, codes, length, nat_le, ◌&&◌}
use Rattle.std.specs.List.{list_all}
use Rattle.std.proofs.lemmas.List.Elements.{All-nil}
use Rattle.std.proofs.lemmas.List.Sorted.{IsNonDecreasingBy-short}
use Rattle.spec_run.specs.declared.join_fault.JoinFault.{JoinFault}
use Rattle.spec_run.specs.Joins.{lack_of}
use Rattle.spec_program.specs.declared.tree_fault.TreeFault.{TreeFault}
use Rattle.spec_serve.specs.Rows.{is_small_row, told_rows, too_many}
use Rattle.spec_serve.specs.Served.{FilesSaid, IsServed, JoinSaid, Talk, TreeSaid, WorldFor, WorldSaid, unread_world}
use Rattle.spec_serve.specs.Talks.{Heard, Said, Serves}
use Rattle.spec_session.specs.Opening.{new_drivers, opened}
use Rattle.spec_tree.specs.declared.term.Tree.{Tree}
use Rattle.spec_tree.specs.Limits.{most_made_rows}
use Rattle.spec_world.specs.declared.world.Event.{Event}
use Rattle.spec_world.specs.declared.world.Row.{Row}
use Rattle.spec_world.specs.declared.world.World.{World}
use Rattle.spec_world.specs.Worlds.{IsValidEvent, IsValidWorld}
use Rattle.spec_world_file.specs.declared.world_fault.WorldFault.{WorldFault}
use Rattle.spec_world_file.specs.declared.world_fault.WorldFaultKind.TheVariants.{Header}
use Rattle.spec_world_file.specs.WorldFile.{AfterLines, AllAfter, LinesMake, LinesRead, Reading, ReadsScript, lines_in, no_header, nothing_read, script_after, without_return}
use Rattle.world_reader.proofs.AboutUnique.Validity.{valid_world}
use Rattle.world_reader.proofs.Scripts.{lines_make}
use Rattle.cli_serve.proofs.Laws.Taken.{none_is_held}
use Rattle.cli_serve.proofs.Laws.TraceRuns.{is_trace}

-- ---- The events of a world

script_valid : (bytes : List ℕ) (read : World × Reading) → ReadsScript bytes (Ok read) → IsValidWorld read.0
script_valid bytes read reads = valid_world bytes read.0 (lines_make (lines_in bytes) read reads.after reads.lines reads.is)

-- the events of a world are valid, and in order
pub record AreOwn (world : World) : Type 0 where
  pub valid : All (IsValidEvent world.facts world.runners) world.events
  pub in_order : IsNonDecreasingBy (λ (e : Event). e.at) world.events

none_own : (world : World) → world.events ≡ [] → AreOwn world
none_own world none = record {
  valid = subst (λ (events : List Event). All (IsValidEvent world.facts world.runners) events) (sym none) (All-nil (IsValidEvent world.facts world.runners));
  in_order = subst (λ (events : List Event). IsNonDecreasingBy (λ (e : Event). e.at) events) (sym none) (IsNonDecreasingBy-short (λ (e : Event). e.at) [] (omega arith));
}

-- a world that is made of rows has none
made_by : (small : Bool) (rows : List Row) (read : World × Reading) → Ok read ≡ unread_world (cond small (Ok (record { facts = []; rows = rows; goals = []; runners = 1; events = [] })) (Err too_many)) → AreOwn read.0
made_by true rows read is = none_own read.0 (let made : read.0 ≡ record { facts = []; rows = rows; goals = []; runners = 1; events = [] } = cc in ap (λ (w : World). w.events) made)
made_by false rows read is = absurd (cc)

world_own : (bytes : Option (List ℕ)) (file : List ℕ) (tree : Tree) (read : World × Reading) → WorldFor bytes file tree (Ok read) → AreOwn read.0
world_own (Some bytes) file tree read reads = let valid : IsValidWorld read.0 = script_valid bytes read reads in record { valid = valid.events; in_order = valid.in_order }
world_own None file tree read (e, spells, is) =
    let rows : List Row = told_rows e tree.term in
    made_by (nat_le (length rows) most_made_rows && list_all is_small_row rows) rows read is

-- ---- Files

-- what is served in the world of files
pub is_served : (bytes : Option (List ℕ)) (file : List ℕ) (heard : Heard) (tree : Tree) (read : World × Reading) (said : Said) →
    WorldFor bytes file tree (Ok read) → Serves read.0.events heard read.1 (opened tree read.0) said → IsServed heard tree read.0 read.1 said
is_served bytes file heard tree read said world serves =
    let own : AreOwn read.0 = world_own bytes file tree read world in
    record {
      serves = serves;
      trace = is_trace tree read.0 heard read.1 said serves;
      none = none_is_held tree read.0 own.valid own.in_order heard read.1 said serves;
    }

-- what is said of files in one way is said in another, where it is so of each tree in its world
module _ (One Other : Talk) (bytes : Option (List ℕ)) (file : List ℕ) (said : Said)
    (goes : (tree : Tree) (read : World × Reading) → WorldFor bytes file tree (Ok read) → One tree read.0 read.1 said → Other tree read.0 read.1 said) where
  join_goes : (lack : Option JoinFault) (tree : Tree) (read : World × Reading) → WorldFor bytes file tree (Ok read) → JoinSaid lack One tree read.0 read.1 said → JoinSaid lack Other tree read.0 read.1 said
  join_goes None tree read world is = goes tree read world is
  join_goes (Some lack) tree read world is = is

  world_goes : (read : Result (World × Reading) WorldFault) (tree : Tree) → WorldFor bytes file tree read → WorldSaid read One tree said → WorldSaid read Other tree said
  world_goes (Ok read) tree world is = join_goes (lack_of tree read.0 new_drivers) tree read world is
  world_goes (Err fault) tree world is = is

  tree_goes : (read : Result Tree TreeFault) → TreeSaid read One bytes file said → TreeSaid read Other bytes file said
  tree_goes (Ok tree) (read, world, is) = (read, world, world_goes read tree world is)
  tree_goes (Err fault) is = is

  pub files_go : (main : Option (List ℕ)) → FilesSaid One main file bytes said → FilesSaid Other main file bytes said
  files_go main (read, reads, is) = (read, reads, tree_goes read is)
