use Rattle.std.proofs.Common.{◌≡◌, ◌≤◌, ℕ, length, map, take}
use Rattle.std.specs.List.{All}
use Rattle.script_code.specs.Programs.{statement_of}
use Rattle.script_code.specs.Sources.{place_in}
use Rattle.script_code.specs.Statements.{stmt_code_reach, stmt_program}
use Rattle.script_code.proofs.compiling.statements.Given as goal

abbrev pub invariant-loop-stmt : goal.invariant-loop-stmt
invariant-loop-stmt l = record {
  meaning : (slots : ℕ → ℕ) → map (stmt_program slots) l.codes.items ≡ map (statement_of (λ name. slots (place_in l.names name))) (take l.stmt-index l.stmts);
  reach : All (λ s. stmt_code_reach s ≤ length l.names) l.codes.items;
}
