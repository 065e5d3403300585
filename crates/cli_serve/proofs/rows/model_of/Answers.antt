use Rattle.std.proofs.Common.{sym, ◌∙◌}
use Rattle.cli_serve.proofs.Places.{model_found, no_model}
use Rattle.cli_serve.proofs.rows.model_of.Goals as goal

pub returns-in-Some : goal.returns-in-Some
returns-in-Some c = c.model_at.ensures ∙ model_found c.args.places.now.entries c.args.models.now c.requires.places c.args.id.now c.in-Some.place.now (sym c.in-Some.ensures.value)

pub returns-in-None : goal.returns-in-None
returns-in-None c = no_model c.args.places.now.entries c.args.models.now c.requires.places c.args.id.now (sym c.in-None.ensures.value)
