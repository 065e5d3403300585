use Rattle.cli_serve.proofs.Places.{all_placed, model_more}
use Rattle.cli_serve.proofs.rows.places_of.Goals as goal

pub loop-at-preserved : goal.loop-at-preserved
loop-at-preserved c =
    model_more c.args.models.now c.loop-at.at c.index-models-at.result c.loop-at.places.entries c.add_model.new.places.entries
    c.loop-at-test.true c.index-models-at.is c.in_ok-add_model.ensures c.loop-at.invariant

pub returns : goal.returns
returns c = all_placed c.args.models.now c.loop-at.at c.loop-at.places.entries c.loop-at-test.false c.loop-at.invariant
