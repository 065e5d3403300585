use Rattle.std.proofs.Common.{◌≡◌, drop}
use Rattle.spec_dead.specs.Answers.{either}
use Rattle.spec_dead.specs.Reached.{may_be_selected}
use Rattle.spec_dead.specs.Rules.{reached_answers}
use Rattle.tree_dead.proofs.rules.selected_answers.Given as goal

-- what those so far may answer that are reached, with what those still to come may answer, is what all may answer
abbrev pub invariant-loop-place : goal.invariant-loop-place
invariant-loop-place l = either l.reached (reached_answers (may_be_selected l.selected) l.place (drop l.place l.children)) ≡ reached_answers (may_be_selected l.selected) 0 l.children
