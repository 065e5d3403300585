use Rattle.std.proofs.Common.{ℕ, ◌<◌}
use Rattle.spec_run.specs.declared.memory.Memo.{Memo}
use Rattle.spec_run.specs.declared.moves.Then.{Then}
use Rattle.spec_run.specs.declared.moves.Then.TheVariants.{Visit, Give}
use Rattle.spec_tree.specs.declared.term.Kind.{Kind}
use Rattle.base_tables.specs.Moves.{FitsChild}
use Rattle.test_moves.proofs.moves.control_text.Given as goal

-- a child that is visited is there, and the memo fits
abbrev pub FitsThen : Kind → ℕ → Memo → Then → Type 0
FitsThen kind n memo (Give a) = Unit {0}
FitsThen kind n memo (Visit place) = (place < n) × FitsChild kind n memo place

abbrev pub invariant-loop-letter : goal.invariant-loop-letter
invariant-loop-letter l = FitsThen l.kind l.n l.kept l.step.then
