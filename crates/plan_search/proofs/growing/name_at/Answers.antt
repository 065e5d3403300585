use Rattle.std.proofs.Common.{ℕ, [], Option, ap, ◌∙◌}
use Rattle.std.specs.Option.{option_map_or}
use Rattle.spec_plan.specs.Planned.{id_of}
use Rattle.plan_search.proofs.Growths.{ok_gives}
use Rattle.plan_search.proofs.growing.name_at.Goals as goal

pub returns-in-Some : goal.returns-in-Some
returns-in-Some c =
    ok_gives c.id_of.result
    (λ name is. λ world tree st has. is ∙ ap (λ (o : Option ℕ). option_map_or (id_of c.args.rows.now) o []) (c.in-Some.ensures world tree st has)) c.id_of.ensures

pub returns-in-None : goal.returns-in-None
returns-in-None c = λ world tree st has. c.empty.ensures ∙ ap (λ (o : Option ℕ). option_map_or (id_of c.args.rows.now) o []) (c.in-None.ensures world tree st has)
