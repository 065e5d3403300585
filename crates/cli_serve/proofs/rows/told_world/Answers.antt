use Rattle.spec_serve.specs.Rows.{told_world}
use Rattle.tree_elements.proofs.Verdicts.{one}
use Rattle.cli_serve.proofs.Runnable.{made_runs, told_runs}
use Rattle.cli_serve.proofs.rows.told_world.Goals as goal

pub returns-in-Ok-clause-runnable : goal.returns-in-Ok-clause-runnable
returns-in-Ok-clause-runnable c =
    let root = c.in-Ok.elements.root in
    let tree = c.args.tree.now in
    made_runs c.world_of.result (told_world root tree.term) c.world_of.ensures
    (λ w told. told_runs c.args.bytes.now root tree w one c.requires.tree c.requires.valid c.in-Ok.ensures.read told)
