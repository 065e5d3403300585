use Rattle.std.proofs.Common.{take}
use Rattle.run_arena.specs.Rows.{AreReady}
use Rattle.run_arena.proofs.rows.ready_rows.Given as goal

-- the rows so far are ready
abbrev pub invariant-loop-row : goal.invariant-loop-row
invariant-loop-row l = AreReady l.facts (take l.row-index l.rows) l.all.items
