use Rattle.std.proofs.Common.{◌≡◌, ◌<◌, ◌≤◌, pos, false, length, drop, map}
use Rattle.std.specs.List.{All}
use Rattle.spec_script.specs.declared.value.Value.TheVariants.{Int}
use Rattle.script_code.specs.Statements.{one_meets, runs, slot_in, stmt_code_reach, stmt_program}
use Rattle.script_code.proofs.running.exec.Given as goal

abbrev pub invariant-loop-stmt : goal.invariant-loop-stmt
invariant-loop-stmt g l =
    let entries = g.B.Cells.entries in
    let means = stmt_program (slot_in l.slots) in
    let rest = map means (drop l.stmt-index l.stmt-items) in
    record {
      run : runs l.last rest (entries l.cells) ≡ runs (Int (pos 0)) (map means l.stmt-items) (entries l.fn.cells);
      numbered : All (λ s. stmt_code_reach s ≤ length l.slots) l.stmt-items;
      below : All (λ slot. slot < length (entries l.fn.cells)) l.slots;
      slots : length (entries l.cells) ≡ length (entries l.fn.cells);
      met : one_meets (map means l.stmt-items) (entries l.fn.cells) ≡ false → one_meets rest (entries l.cells) ≡ false;
    }
