use Rattle.std.proofs.Common.{◌≡◌, ◌-◌, true, false, length}
use Rattle.script_code.specs.Rooms.{fits_from}
use Rattle.script_code.specs.Running.{code_meets, code_value, gives_from, meets_from}
use Rattle.script_code.proofs.machine.run.Given as goal

abbrev pub invariant-loop-place : goal.invariant-loop-place
invariant-loop-place g l =
    let values = g.S.Stack.values in
    let look = g.S.Stack.gives l.slots in
    record {
      gives : gives_from look l.instrs l.place (values l.stack) ≡ code_value look l.instrs;
      met : code_meets look l.instrs ≡ false → meets_from look l.instrs l.place (values l.stack) ≡ false;
      room : fits_from g.S.Stack.room l.instrs l.place (length (values l.stack)) ≡ true;
    }

abbrev pub decreases-loop-place : goal.decreases-loop-place
decreases-loop-place g l = length l.instrs - l.place
