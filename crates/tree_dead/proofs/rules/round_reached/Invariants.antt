use Rattle.std.proofs.Common.{◌≡◌, drop}
use Rattle.spec_dead.specs.Answers.{either}
use Rattle.spec_dead.specs.Reached.{all_before}
use Rattle.spec_dead.specs.Rules.{reached_answers}
use Rattle.tree_dead.specs.Steps.{lets_on}
use Rattle.tree_dead.proofs.rules.round_reached.Given as goal

-- what those so far may answer that are reached, with what those still to come may answer, is what all may answer
abbrev pub invariant-loop-child : goal.invariant-loop-child
invariant-loop-child l = record {
  passes : l.passes ≡ all_before (lets_on l.kind) l.children l.child-index;
  reached : either l.reached (reached_answers (all_before (lets_on l.kind) l.children) l.child-index (drop l.child-index l.children)) ≡ reached_answers (all_before (lets_on l.kind) l.children) 0 l.children;
}
