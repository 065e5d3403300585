use Rattle.std.proofs.Common.{◌≡◌, drop}
use Rattle.run_nodes.specs.Given.{first_case}
use Rattle.run_nodes.proofs.sources.case_with.Given as goal

abbrev pub invariant-loop-place : goal.invariant-loop-place
invariant-loop-place g l = first_case l.board (drop l.place l.cases) l.place l.text ≡ first_case l.board l.cases 0 l.text
