use Rattle.std.proofs.Common.{◌≡◌, ◌++◌}
use Rattle.spec_output.specs.LoadTexts.{tick_lines, texts}
use Rattle.text_trace.proofs.load.world.put_ticks.Given as goal

abbrev pub invariant-loop-n : goal.invariant-loop-n
invariant-loop-n l = l.out.items ≡ l.initial.out.items ++ texts tick_lines 0 l.n
