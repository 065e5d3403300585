-- How an event ends, after the part of its runner.
use Rattle.std.specs.Prelude.{◌≡◌, ◌<◌, ◌^◌, ℕ, ℤ, List, [], ◌++◌, ◌∷◌, length, map, Result, Ok, Err}
use Rattle.base_texts.specs.declared.stop.NoMemory.{NoMemory}
use Rattle.base_texts.specs.declared.stop.Stop.{Stop}
use Rattle.base_texts.specs.declared.stop.Stop.TheVariants as stop
use Rattle.spec_run.specs.declared.fault.NodeFault.{NodeFault}
use Rattle.spec_run.specs.declared.fault.RunFault.{RunFault}
use Rattle.spec_run.specs.declared.note.Note.{Note}
use Rattle.spec_run.specs.declared.note.Note.TheVariants.{Faulted}
use Rattle.spec_tree.specs.declared.term.Tree.{Tree}
use Rattle.spec_run.specs.Drivers.{DriverState}
use Rattle.spec_run.specs.Run.{changed_from, quench_calls, quench_notes, quenched_runner}
use Rattle.run_arena.specs.declared.block.Block.{Block}
use Rattle.run_loop.specs.declared.runs.Runs.{Runs}
use Rattle.run_loop.specs.Runs.{arenas_of, boards_in, roster_over, runners_in}

-- all runners were quenched, and the notes of this come after these notes
pub record IsQuenched (tree : Tree) (before after : List DriverState) (old new : Runs) (told noted : List Note) : Type 0 where
  pub state : runners_in tree.term after new.runners.items ≡ map (quenched_runner tree) (runners_in tree.term before old.runners.items)
  pub notes : noted ≡ told ++ quench_notes 1 (runners_in tree.term before old.runners.items)
  pub drivers : after ≡ roster_over (arenas_of old) (quench_calls 1 (runners_in tree.term before old.runners.items)) before
  pub facts : new.facts ≡ old.facts
  pub last : new.last ≡ old.last
  pub arenas : arenas_of new ≡ arenas_of old
  pub boards : boards_in new.runners.items ≡ boards_in old.runners.items

-- as many facts were told as there are, so that those that changed can be told
pub record CanTell (runs : Runs) : Type 0 where
  pub facts : length runs.told.items ≡ length runs.facts
  pub few_facts : length runs.facts < 2 ^ 32

-- the entries that changed in the part of a runner were told, and the facts that changed were added to a block
pub record IsTelling (entries_told : Result (Unit {0}) NoMemory) (facts old new : List ℤ) (before after : Block) : Type 0 where
  pub is_told : entries_told ≡ Ok tt
  pub header : after.header ≡ before.header
  pub entries : after.entries.items ≡ before.entries.items
  pub changed : after.facts.items ≡ before.facts.items ++ changed_from 0 old facts
  pub told : new ≡ facts

-- How an event ends after its runner's part, of which the entries that changed were told or not: what changed is told; a
-- fault has a note, and all runners are quenched; and want of memory (out of memory), whenever it comes, quenches them.
abbrev pub Closing : Result (Unit {0}) (Stop NodeFault) → Result (Unit {0}) NoMemory → Result (Unit {0}) (Stop RunFault) → Tree → ℕ →
    List DriverState → List DriverState → Runs → Runs → Block → Block → Type 0
Closing (Ok a) told (Ok b) tree number before after old new begun block =
    IsTelling told old.facts old.told.items new.told.items begun block
    × (new ≡ record old { told = new.told }) × (block.notes ≡ begun.notes) × (after ≡ before)
Closing (Ok a) told (Err stop.NoMemory) tree number before after old new begun block =
    IsQuenched tree before after old new begun.notes.list block.notes.list
Closing (Err (stop.Fault f)) told (Err (stop.Fault g)) tree number before after old new begun block =
    (g ≡ record { runner = number; uid = f.uid; cause = f.cause })
    × IsQuenched tree before after old new (begun.notes.list ++ Faulted number f.uid f.cause ∷ []) block.notes.list
    × IsTelling told old.facts old.told.items new.told.items begun block
Closing (Err (stop.Fault f)) told (Err stop.NoMemory) tree number before after old new begun block =
    IsQuenched tree before after old new (begun.notes.list ++ Faulted number f.uid f.cause ∷ []) block.notes.list
Closing (Err stop.NoMemory) told (Err stop.NoMemory) tree number before after old new begun block =
    IsQuenched tree before after old new begun.notes.list block.notes.list
Closing _ _ _ tree number before after old new begun block = ⊥
