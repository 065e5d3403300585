use Rattle.std.proofs.Common.{◌≡◌, ◌++◌}
use Rattle.spec_output.specs.LoadTexts.{retry_text, texts}
use Rattle.text_trace.proofs.load.tree.put_retries.Given as goal

abbrev pub invariant-loop-before : goal.invariant-loop-before
invariant-loop-before l = l.out.items ≡ l.initial.out.items ++ texts retry_text 1 l.before
