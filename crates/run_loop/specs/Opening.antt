-- Runs before their first event.
use Rattle.std.specs.Prelude.{◌≡◌, ◌+◌, ℕ, List, length, map, slice_get, Some, true}
use Rattle.spec_tree.specs.declared.term.Tree.{Tree}
use Rattle.spec_world.specs.declared.world.Fact.{Fact}
use Rattle.spec_world.specs.declared.world.World.{World}
use Rattle.spec_tree.specs.Boards.{opening_board}
use Rattle.spec_run.specs.Drivers.{DriverState}
use Rattle.run_arena.specs.Made.{IsArenaOf}
use Rattle.run_loop.specs.declared.runs.ReadyRunner.{ReadyRunner}
use Rattle.run_loop.specs.declared.runs.Runs.{Runs}

-- the runner of this number, made for a roster of these drivers: its arena is at rest, and its board is the opening one
pub record IsOpening (tree : Tree) (world : World) (drivers : List DriverState) (number : ℕ) (r : ReadyRunner) : Type 0 where
  pub arena : IsArenaOf tree world drivers number r.arena
  pub board : r.board ≡ opening_board tree

-- each of these runners, numbered from 1, is one made for a roster of these drivers
abbrev pub AreOpening : Tree → World → List DriverState → List ReadyRunner → Type 0
AreOpening tree world drivers runners = (k : ℕ) (r : ReadyRunner) → slice_get runners k ≡ Some r → IsOpening tree world drivers (k + 1) r

-- the runners of a world were made for a roster of these drivers, the facts have their opening values, and all are
-- told
pub record AreOpeningRuns (tree : Tree) (world : World) (drivers : List DriverState) (runs : Runs) : Type 0 where
  pub many : length runs.runners.items ≡ world.runners
  pub runners : AreOpening tree world drivers runs.runners.items
  pub facts : runs.facts ≡ map (λ (f : Fact). f.opening) world.facts
  pub told : runs.told.items ≡ runs.facts
  pub last : runs.last ≡ 0
  pub usable : runs.usable ≡ true
