use Rattle.std.proofs.Common.{◌≡◌, ◌++◌}
use Rattle.spec_output.specs.LoadTexts.{row_line, texts}
use Rattle.text_trace.proofs.load.world.put_rows.Given as goal

abbrev pub invariant-loop-before : goal.invariant-loop-before
invariant-loop-before l = l.out.items ≡ l.initial.out.items ++ texts row_line 1 l.before
