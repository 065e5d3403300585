use Rattle.std.proofs.Common.{Option, ap, ◌∙◌}
use Rattle.std.specs.Option.{option_and_then}
use Rattle.spec_plan.specs.declared.part.Part.{Part}
use Rattle.spec_plan.specs.Achievers.{row_in}
use Rattle.plan_search.proofs.growing.row_at.Goals as goal

pub returns-in-Some : goal.returns-in-Some
returns-in-Some c = λ world tree st has. c.row_in.ensures ∙ ap (λ (o : Option Part). option_and_then row_in o) (c.in-Some.ensures.known world tree st has)

pub returns-in-None : goal.returns-in-None
returns-in-None c = λ world tree st has. ap (λ (o : Option Part). option_and_then row_in o) (c.in-None.ensures.known world tree st has)
