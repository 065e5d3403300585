use Rattle.std.proofs.Common.{◌≡◌, drop}
use Rattle.std.specs.Str.{bytes_eq}
use Rattle.indexmap.specs.IndexMap.{get}
use Rattle.run_arena.proofs.Indexed.{FindsFrom}
use Rattle.run_arena.proofs.rows.index_of.Given as goal

-- the row that is found for an ID, or else among the rows still to come, is the world's
abbrev pub invariant-loop-row : goal.invariant-loop-row
invariant-loop-row l = record {
  place : l.number ≡ l.row-index;
  found : FindsFrom l.rows (drop l.row-index l.rows) (get bytes_eq l.index);
}
